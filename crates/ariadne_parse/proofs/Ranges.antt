-- The ranges of a line, one by one.
use Rattle.std.proofs.Common.{◌≡◌, ◌∙◌, sym, ap, refl, arith}
use Rattle.std.proofs.lemmas.List.{append-nil, append_assoc, map-append}
use Rattle.std.specs.Prelude.{ℕ, zero, suc, ◌+◌, ◌-◌, ◌<◌, Bool, true, false}
use Rattle.std.specs.Prelude.{List, [], ◌∷◌, ◌++◌, map, Option, Some, None}
use Rattle.std.specs.List.{find}
use Rattle.ariadne_parse.specs.declared.counting.Counting.{Counting}
use Rattle.ariadne_parse.specs.Heads.{range_in, range_onto, ranges_in, Head}
use Rattle.ariadne_parse.specs.Spans.{seen, Seen}
use Rattle.ariadne_parse.specs.ParsedDiagnostics.{is_own_range, others_among, own_range_of, range_span}
use Rattle.ariadne_parse.specs.declared.diagnostic.Span.{Span}
use Rattle.ariadne_parse.specs.declared.diagnostic.Location.{Location}

more : (n : ℕ) (text rest : List ℕ) (start end : Location) → Some (start, end, rest) ≡ range_in text
    → ranges_in (suc n) text ≡ (start, end) ∷ ranges_in n rest
unfolding ranges_in
more n text rest start end e = ap (range_onto (ranges_in n)) (sym e)

-- the ranges from a turn on: the one there, and those from the next turn on
pub ranges_more : (turn : ℕ) (text rest : List ℕ) (start end : Location) → turn < 16
    → Some (start, end, rest) ≡ range_in text
    → ranges_in (16 - turn) text ≡ (start, end) ∷ ranges_in (16 - (turn + 1)) rest
ranges_more turn text rest start end l e =
    let k : ℕ = 16 - (turn + 1) in
    let n : 16 - turn ≡ suc k = omega arith in
    ap (λ m. ranges_in m text) n ∙ more k text rest start end e

none : (n : ℕ) (text : List ℕ) → None ≡ range_in text → ranges_in n text ≡ []
unfolding ranges_in
none zero text e = refl
none (suc n) text e = ap (range_onto (ranges_in n)) (sym e)

-- no range stands there
pub ranges_end : (turn : ℕ) (text : List ℕ) → None ≡ range_in text → ranges_in (16 - turn) text ≡ []
ranges_end turn text e = none (16 - turn) text e

-- no turn is left
pub ranges_past : (turn : ℕ) (text : List ℕ) → turn ≡ 16 → ranges_in (16 - turn) text ≡ []
unfolding ranges_in
ranges_past turn text e =
    let n : 16 - turn ≡ 0 = omega arith in
    ap (λ m. ranges_in m text) n

-- a range that is not the line's own has a span
pub another : (head : Head) (counting : Counting) (range : Location × Location) (ranges : List (Location × Location))
    → is_own_range (own_range_of head) range ≡ false
    → others_among head counting (range ∷ ranges) ≡ range_span head counting range ∷ others_among head counting ranges
unfolding others_among
another head counting range ranges e = rw e refl

-- its own has none
pub not_another : (head : Head) (counting : Counting) (range : Location × Location) (ranges : List (Location × Location))
    → is_own_range (own_range_of head) range ≡ true
    → others_among head counting (range ∷ ranges) ≡ others_among head counting ranges
unfolding others_among
not_another head counting range ranges e = rw e refl

-- spans that go on by one
pub push_seen : (before all : List Span) (span : Span) (one : Seen) (others : List Seen)
    → all ≡ before ++ span ∷ [] → seen span ≡ one
    → map seen all ++ others ≡ map seen before ++ one ∷ others
push_seen before all span one others e s =
    ap (λ (xs : List Span). map seen xs ++ others) e
    ∙ ap (λ (xs : List Seen). xs ++ others) (map-append seen before (span ∷ []))
    ∙ append_assoc (map seen before) (seen span ∷ []) others
    ∙ ap (λ (x : Seen). map seen before ++ x ∷ others) s

-- ---- the first range that passes a test

-- it is the one there
pub range_found : (test : Location × Location → Bool) (turn : ℕ) (text rest : List ℕ) (start end : Location) (all : Option (Location × Location))
    → turn < 16 → Some (start, end, rest) ≡ range_in text → all ≡ find test (ranges_in (16 - turn) text)
    → test (start, end) ≡ true → Some (start, end) ≡ all
range_found test turn text rest start end all l e same passes =
    let found : find test ((start, end) ∷ ranges_in (16 - (turn + 1)) rest) ≡ Some (start, end) = rw passes refl in
    sym (same ∙ ap (find test) (ranges_more turn text rest start end l e) ∙ found)

-- it is not
pub range_passed : (test : Location × Location → Bool) (turn : ℕ) (text rest : List ℕ) (start end : Location) (all : Option (Location × Location))
    → turn < 16 → Some (start, end, rest) ≡ range_in text → all ≡ find test (ranges_in (16 - turn) text)
    → test (start, end) ≡ false → all ≡ find test (ranges_in (16 - (turn + 1)) rest)
range_passed test turn text rest start end all l e same fails =
    let passed : find test ((start, end) ∷ ranges_in (16 - (turn + 1)) rest) ≡ find test (ranges_in (16 - (turn + 1)) rest) = rw fails refl in
    same ∙ ap (find test) (ranges_more turn text rest start end l e) ∙ passed

-- there is none
pub range_none : (test : Location × Location → Bool) (turn : ℕ) (text : List ℕ) (all : Option (Location × Location))
    → None ≡ range_in text → all ≡ find test (ranges_in (16 - turn) text) → None ≡ all
range_none test turn text all e same = sym (same ∙ ap (find test) (ranges_end turn text e))

pub range_past : (test : Location × Location → Bool) (turn : ℕ) (text : List ℕ) (all : Option (Location × Location))
    → turn ≡ 16 → all ≡ find test (ranges_in (16 - turn) text) → None ≡ all
range_past test turn text all e same = sym (same ∙ ap (find test) (ranges_past turn text e))

-- ---- the spans of the others

-- with the one there
pub others_on : (head : Head) (counting : Counting) (turn : ℕ) (text rest : List ℕ) (start end : Location) (before all : List Span) (span : Span)
    (whole : List Seen) (own : Option (Location × Location)) → turn < 16 → Some (start, end, rest) ≡ range_in text
    → own ≡ own_range_of head → is_own_range own (start, end) ≡ false
    → all ≡ before ++ span ∷ [] → seen span ≡ range_span head counting (start, end)
    → map seen before ++ others_among head counting (ranges_in (16 - turn) text) ≡ whole
    → map seen all ++ others_among head counting (ranges_in (16 - (turn + 1)) rest) ≡ whole
others_on head counting turn text rest start end before all span whole own l e is fails pushed one same =
    let more_ranges : List (Location × Location) = ranges_in (16 - (turn + 1)) rest in
    let not_own : is_own_range (own_range_of head) (start, end) ≡ false =
    ap (λ (o : Option (Location × Location)). is_own_range o (start, end)) (sym is) ∙ fails in
    push_seen before all span (range_span head counting (start, end)) (others_among head counting more_ranges) pushed one
    ∙ ap (λ (xs : List Seen). map seen before ++ xs) (sym (another head counting (start, end) more_ranges not_own))
    ∙ ap (λ (rs : List (Location × Location)). map seen before ++ others_among head counting rs) (sym (ranges_more turn text rest start end l e))
    ∙ same

-- without it
pub others_past : (head : Head) (counting : Counting) (turn : ℕ) (text rest : List ℕ) (start end : Location) (before : List Span)
    (whole : List Seen) (own : Option (Location × Location)) → turn < 16 → Some (start, end, rest) ≡ range_in text
    → own ≡ own_range_of head → is_own_range own (start, end) ≡ true
    → map seen before ++ others_among head counting (ranges_in (16 - turn) text) ≡ whole
    → map seen before ++ others_among head counting (ranges_in (16 - (turn + 1)) rest) ≡ whole
others_past head counting turn text rest start end before whole own l e is passes same =
    let more_ranges : List (Location × Location) = ranges_in (16 - (turn + 1)) rest in
    let its_own : is_own_range (own_range_of head) (start, end) ≡ true =
    ap (λ (o : Option (Location × Location)). is_own_range o (start, end)) (sym is) ∙ passes in
    ap (λ (xs : List Seen). map seen before ++ xs) (sym (not_another head counting (start, end) more_ranges its_own))
    ∙ ap (λ (rs : List (Location × Location)). map seen before ++ others_among head counting rs) (sym (ranges_more turn text rest start end l e))
    ∙ same

-- no range is left
pub others_done : (head : Head) (counting : Counting) (ranges : List (Location × Location)) (all : List Span) (whole : List Seen) → ranges ≡ []
    → map seen all ++ others_among head counting ranges ≡ whole → map seen all ≡ whole
unfolding others_among
others_done head counting ranges all whole e same =
    sym (append-nil (map seen all)) ∙ ap (λ (rs : List (Location × Location)). map seen all ++ others_among head counting rs) (sym e) ∙ same
