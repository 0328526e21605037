-- Each line that no change touches is paired with the line that it stays, and no pair in front of that one
-- lies behind it.
use Rattle.std.proofs.Common.{◌≡◌, ◌∙◌, ap, sym, refl, subst, ℕ, zero, suc, ◌+◌, ◌-◌, ◌<◌, ◌≤◌, ◌==◌, List, [], ◌∷◌, ◌++◌, ◌⊎◌, inl, inr, drop, length, arith, append_assoc, append-nil, ltb}
use Rattle.std.specs.Prelude.{slice_range}
use Rattle.std.specs.Str.{chars, IsUtf8, IsCharBoundary}
use Rattle.std.specs.List.{AllByRecursion, flat_map, range_with_len}
use Rattle.std.proofs.lemmas.Bool.{cond-true, cond-false, cond_both, cases_lt, eq-eqb}
use Rattle.std.proofs.lemmas.Grind.{flat_map-append}
use Rattle.std.proofs.lemmas.List.{drop_all, length-append}
use Rattle.std.proofs.lemmas.List.Folds.{drop_split}
use Rattle.std.proofs.lemmas.Str.{IsCharBoundary-end, IsCharBoundary-start, encodes-chars}
use Rattle.ariadne_base.specs.Lines.{lines_of}
use Rattle.ariadne_base.specs.Locations.{byte_len, column_at, line_at, line_offset, line_text, upto}
use Rattle.ariadne_base.proofs.LocationLemmas.{line_at_is, offset_all, offset_more, offset_up}
use Rattle.ariadne_base.proofs.LineLaws.{lines_byte_len}
use Rattle.ariadne_edits.specs.declared.change.Change.{Change}
use Rattle.ariadne_edits.specs.declared.hints.Stay.{Stay}
use Rattle.ariadne_edits.specs.Changes.{edited_from, edited_text, Fit, FitsBehind}
use Rattle.ariadne_edits.specs.KeptLines.{IsPaired, IsUntouched, Misses, RiseTo}
use Rattle.ariadne_edits.specs.Stays.{AreStays, first_pairs, from_reaching, IsInside, IsStay, line_pairs, pair_at, pairs_in}
use Rattle.ariadne_edits.proofs.PairLists.{is_below, not_below}
use Rattle.ariadne_edits.proofs.RowLists.{upto_more}
use Rattle.ariadne_edits.proofs.StayLists.{size_between}
use Rattle.ariadne_edits.proofs.StayLines.{EndsWithin, empty_or_some, line_some, line_stands, one_line, StandsAt}

-- ---- pieces

-- those that are left begin behind the last
behind_all : (size total low new_low at to least : ℕ) (changes : List Change) (stays : List Stay) → least ≤ low
    → AreStays size total low new_low at to changes stays → AllByRecursion (λ s. least ≤ s.start) stays
behind_all size total low new_low at to least changes [] h a = absurd (none changes a)
  where
    none : (changes : List Change) → AreStays size total low new_low at to changes [] → ⊥
    none [] a = a
    none (c ∷ changes) a = a
behind_all size total low new_low at to least [] (s ∷ stays) h a =
    let behind = a.0.behind in
    (omega arith, subst (AllByRecursion (λ s. least ≤ s.start)) (sym a.1) tt)
behind_all size total low new_low at to least (c ∷ changes) (s ∷ stays) h a =
    let behind = a.0.behind in
    let rises = a.0.rises in
    (omega arith, behind_all size total s.end (s.to + (s.end - s.start)) c.end (to + (c.start - at + length c.text.now)) least changes stays (omega arith) a.1)

-- what they all keep
pub record IsSound (total : ℕ) (s : Stay) : Type 0 where
  pub rises : s.start ≤ s.end
  pub within : s.to + s.end ≤ total + s.start

pub all_sound : (size total low new_low at to : ℕ) (changes : List Change) (stays : List Stay) → AreStays size total low new_low at to changes stays
    → AllByRecursion (IsSound total) stays
all_sound size total low new_low at to changes [] a = tt
all_sound size total low new_low at to [] (s ∷ stays) a =
    (record { rises = a.0.rises; within = a.0.within }, subst (AllByRecursion (IsSound total)) (sym a.1) tt)
all_sound size total low new_low at to (c ∷ changes) (s ∷ stays) a = (
  record { rises = a.0.rises; within = a.0.within },
  all_sound size total s.end (s.to + (s.end - s.start)) c.end (to + (c.start - at + length c.text.now)) changes stays a.1,
)

-- ---- the pieces that reach up to a byte

passes : (begin : ℕ) (s : Stay) (stays : List Stay) → s.end < begin → from_reaching begin (s ∷ stays) ≡ from_reaching begin stays
unfolding from_reaching
passes begin s stays h = cond-true (ltb s.end begin) (from_reaching begin stays) (s ∷ stays) (is_below s.end begin h)

reaches : (begin : ℕ) (s : Stay) (stays : List Stay) → begin ≤ s.end → from_reaching begin (s ∷ stays) ≡ s ∷ stays
unfolding from_reaching
reaches begin s stays h = cond-false (ltb s.end begin) (from_reaching begin stays) (s ∷ stays) (not_below s.end begin h)

reaching_none : (begin : ℕ) → from_reaching begin [] ≡ []
unfolding from_reaching
reaching_none begin = refl

-- to reach further on, more are passed
pub reach_on : (b begin : ℕ) (stays : List Stay) → b ≤ begin → from_reaching begin (from_reaching b stays) ≡ from_reaching begin stays
reach_on b begin [] h = ap (from_reaching begin) (reaching_none b)
reach_on b begin (s ∷ stays) h = elim (cases_lt s.end b) [
  | inl lt ↦ ap (from_reaching begin) (passes b s stays lt) ∙ reach_on b begin stays h ∙ sym (passes begin s stays (omega arith))
  | inr ge ↦ ap (from_reaching begin) (reaches b s stays ge)
]

-- what all pieces keep, those do
all_reaching : (P : Stay → Type 0) (b : ℕ) (stays : List Stay) → AllByRecursion P stays → AllByRecursion P (from_reaching b stays)
all_reaching P b [] a = subst (AllByRecursion P) (sym (reaching_none b)) tt
all_reaching P b (s ∷ stays) a = elim (cases_lt s.end b) [
  | inl lt ↦ subst (AllByRecursion P) (sym (passes b s stays lt)) (all_reaching P b stays a.1)
  | inr ge ↦ subst (AllByRecursion P) (sym (reaches b s stays ge)) a
]

all_map : (P Q : Stay → Type 0) (stays : List Stay) → ((s : Stay) → P s → Q s) → AllByRecursion P stays → AllByRecursion Q stays
all_map P Q [] f a = tt
all_map P Q (s ∷ stays) f a = (f s a.0, all_map P Q stays f a.1)

-- what begins behind a byte ends behind it
all_end : (total b least : ℕ) → b ≤ least → (ss : List Stay) → AllByRecursion (IsSound total) ss → AllByRecursion (λ t. least ≤ t.start) ss
    → AllByRecursion (λ t. b ≤ t.end) ss
all_end total b least h [] x y = tt
all_end total b least h (t ∷ ss) x y = let rises = x.0.rises in let behind = y.0 in (omega arith, all_end total b least h ss x.1 y.1)

-- all of those end at the byte or behind it
pub reaching_ends : (size total low new_low at to b : ℕ) (changes : List Change) (stays : List Stay) → AreStays size total low new_low at to changes stays
    → AllByRecursion (λ s. b ≤ s.end) (from_reaching b stays)
reaching_ends size total low new_low at to b changes [] a = subst (AllByRecursion (λ s. b ≤ s.end)) (sym (reaching_none b)) tt
reaching_ends size total low new_low at to b [] (s ∷ stays) a = elim (cases_lt s.end b) [
  | inl lt ↦
      subst (AllByRecursion (λ s. b ≤ s.end))
      (sym (passes b s stays lt ∙ ap (from_reaching b) a.1 ∙ reaching_none b)) tt
  | inr ge ↦ subst (AllByRecursion (λ s. b ≤ s.end)) (sym (reaches b s stays ge ∙ ap (λ ss. s ∷ ss) a.1)) (ge, tt)
]
reaching_ends size total low new_low at to b (c ∷ changes) (s ∷ stays) a = elim (cases_lt s.end b) [
  | inl lt ↦
      subst (AllByRecursion (λ s. b ≤ s.end)) (sym (passes b s stays lt))
      (reaching_ends size total s.end (s.to + (s.end - s.start)) c.end (to + (c.start - at + length c.text.now)) b changes stays a.1)
  | inr ge ↦
      subst (AllByRecursion (λ s. b ≤ s.end)) (sym (reaches b s stays ge)) (
        ge,
        all_end total b s.end ge stays (all_sound size total s.end (s.to + (s.end - s.start)) c.end (to + (c.start - at + length c.text.now)) changes stays a.1)
            (behind_all size total s.end (s.to + (s.end - s.start)) c.end (to + (c.start - at + length c.text.now)) s.end changes stays (omega arith) a.1),
      )
]

-- so the byte stands within the edited text
pub all_inside : (size total b : ℕ) (changes : List Change) (stays : List Stay) → AreStays size total 0 0 0 0 changes stays
    → AllByRecursion (IsInside total b) (from_reaching b stays)
all_inside size total b changes stays a =
    inside (from_reaching b stays) (all_reaching (IsSound total) b stays (all_sound size total 0 0 0 0 changes stays a)) (reaching_ends size total 0 0 0 0 b changes stays a)
  where
    inside : (ss : List Stay) → AllByRecursion (IsSound total) ss → AllByRecursion (λ t. b ≤ t.end) ss → AllByRecursion (IsInside total b) ss
    inside [] x y = tt
    inside (t ∷ ss) x y = let within = x.0.within in let ends = y.0 in (omega arith, inside ss x.1 y.1)

-- ---- the piece that an untouched line lies in

-- a byte of a piece in front of another byte stands in front of that in the edited text too
abbrev pub IsLower : ℕ → Stay → Stay → Type 0
IsLower begin piece s = (b : ℕ) → b < begin → s.start ≤ b → b ≤ s.end → s.to + b + piece.start < piece.to + begin + s.start

pub record Finds (old new : List (List ℕ)) (i low new_low begin : ℕ) (stays : List Stay) : Type 0 where
  pub piece : Stay
  pub behind : List Stay
  pub first : from_reaching begin stays ≡ piece ∷ behind
  pub above : low ≤ piece.start
  pub new_above : new_low ≤ piece.to
  pub starts : piece.start ≤ begin
  pub strict : 0 < begin → piece.start < begin
  pub stands : StandsAt old new i (piece.to + (begin - piece.start))
  pub others : AllByRecursion (IsLower begin piece) stays

-- it is the first
found_here : (old new : List (List ℕ)) (i total low new_low at to end begin : ℕ) (s : Stay) (stays : List Stay) → IsStay total low new_low at to end s
    → (at < begin) ⊎ (at ≡ 0) → begin ≤ end → AllByRecursion (λ t. s.end ≤ t.start) stays
    → StandsAt old new i (s.to + (begin - s.start)) → Finds old new i low new_low begin (s ∷ stays)
found_here old new i total low new_low at to end begin s stays is before within later stands =
    let starts = is.starts in
    let ends = is.ends in
    let low_start : s.start ≤ begin = elim before [ inl h ↦ omega arith | inr h ↦ omega arith ] in
    record {
      piece = s;
      behind = stays;
      first = reaches begin s stays (omega arith);
      above = is.behind;
      new_above = is.new_behind;
      starts = low_start;
      strict = λ some. elim before [ inl h ↦ omega arith | inr h ↦ omega arith ];
      stands = stands;
      others = (λ b lt p q. omega arith, lower stays later);
    }
  where
    lower : (ss : List Stay) → AllByRecursion (λ t. s.end ≤ t.start) ss → AllByRecursion (IsLower begin s) ss
    lower [] a = tt
    lower (t ∷ ss) a = let behind = a.0 in let ends = is.ends in (λ b lt p q. absurd (omega arith), lower ss a.1)

-- or it lies behind the first
found_behind : (old new : List (List ℕ)) (i total low new_low at to end begin : ℕ) (s : Stay) (stays : List Stay) → IsStay total low new_low at to end s
    → 0 < begin → Finds old new i s.end (s.to + (s.end - s.start)) begin stays → Finds old new i low new_low begin (s ∷ stays)
found_behind old new i total low new_low at to end begin s stays is some f =
    let above = f.above in
    let new_above = f.new_above in
    let strict : f.piece.start < begin = f.strict some in
    let rises = is.rises in
    let behind = is.behind in
    let new_behind = is.new_behind in
    record {
      piece = f.piece;
      behind = f.behind;
      first = passes begin s stays (omega arith) ∙ f.first;
      above = omega arith;
      new_above = omega arith;
      starts = f.starts;
      strict = f.strict;
      stands = f.stands;
      others = (λ b lt p q. omega arith, f.others);
    }

-- a line ends within its text
pub next_within : (text : List ℕ) (i : ℕ) → IsUtf8 text → i < length (lines_of (chars text)) → line_offset byte_len (lines_of (chars text)) (i + 1) ≤ length text
next_within text i u there =
    let ls = lines_of (chars text) in
    omega (arith, offset_up byte_len ls (i + 1) (length ls) (omega arith), offset_all byte_len ls, lines_byte_len (chars text), ap length (encodes-chars text u))

module _ (text new : List ℕ) (text_utf8 : IsUtf8 text) (new_utf8 : IsUtf8 new) (total i : ℕ) (there : i < length (lines_of (chars text))) where
  -- the line lies in the first piece
  in_first : (low new_low at to end : ℕ) (front rest : List ℕ) (s : Stay) (stays : List Stay) → IsCharBoundary text at → IsCharBoundary text end → at ≤ end
      → new ≡ front ++ (slice_range text at end ++ rest) → to ≡ length front
      → (at < line_offset byte_len (lines_of (chars text)) i) ⊎ ((at ≡ 0) × (front ≡ []))
      → EndsWithin (line_offset byte_len (lines_of (chars text)) (i + 1)) end text rest (line_text (lines_of (chars text)) i)
      → line_offset byte_len (lines_of (chars text)) i ≤ end
      → IsStay total low new_low at to end s → AllByRecursion (λ t. s.end ≤ t.start) stays
      → Finds (lines_of (chars text)) (lines_of (chars new)) i low new_low (line_offset byte_len (lines_of (chars text)) i) (s ∷ stays)
  in_first low new_low at to end front rest s stays u v h e size before after within is later =
      let b = line_offset byte_len (lines_of (chars text)) i in
      let starts = is.starts in
      let moved = is.moved in
      let near : at ≤ b = elim before [ inl h ↦ omega arith | inr h ↦ omega (arith, h.0) ] in
      let weak : (at < b) ⊎ (at ≡ 0) = elim before [ inl h ↦ inl h | inr h ↦ inr h.0 ] in
      found_here (lines_of (chars text)) (lines_of (chars new)) i total low new_low at to end b s stays is weak within later
      (line_stands text new front rest at end text_utf8 new_utf8 u v h e i there before after (s.to + (b - s.start)) (omega arith))

  -- the line begins and ends within its text
  within_text : (line_offset byte_len (lines_of (chars text)) i ≤ line_offset byte_len (lines_of (chars text)) (i + 1))
      × (line_offset byte_len (lines_of (chars text)) (i + 1) ≤ length text)
  within_text =
      let ls = lines_of (chars text) in
      (offset_up byte_len ls i (i + 1) (omega arith), next_within text i text_utf8 there)

  pub finds : (low new_low at to : ℕ) (front : List ℕ) (changes : List Change) (stays : List Stay) → IsCharBoundary text at → Fit text at changes
      → new ≡ front ++ edited_from text at changes → to ≡ length front
      → (at < line_offset byte_len (lines_of (chars text)) i) ⊎ ((at ≡ 0) × (front ≡ []))
      → AllByRecursion (Misses (line_text (lines_of (chars text)) i) (line_offset byte_len (lines_of (chars text)) i) (line_offset byte_len (lines_of (chars text)) (i + 1))) changes
      → AreStays (length text) total low new_low at to changes stays
      → Finds (lines_of (chars text)) (lines_of (chars new)) i low new_low (line_offset byte_len (lines_of (chars text)) i) stays
  unfolding edited_from
  finds low new_low at to front [] [] u fit e size before missed a = absurd a
  finds low new_low at to front (c ∷ changes) [] u fit e size before missed a = absurd a
  finds low new_low at to front [] (s ∷ stays) u fit e size before missed a =
      let w = within_text in
      let end : slice_range text at (length text) ++ [] ≡ drop at text =
      ap (λ x. slice_range text at (length text) ++ x) (sym (drop_all (length text) text (omega arith))) ∙ sym (drop_split text at (length text) u.0) in
      in_first low new_low at to (length text) front [] s stays u (IsCharBoundary-end text) u.0 (e ∙ ap (λ x. front ++ x) (sym end)) size before
      (inr (inl (refl, refl))) (omega arith) a.0 (subst (AllByRecursion (λ t. s.end ≤ t.start)) (sym a.1) tt)
  finds low new_low at to front (c ∷ changes) (s ∷ stays) u fit e size before missed a =
      let ls = lines_of (chars text) in
      let w = within_text in
      let f : FitsBehind text at c = fit.0 in
      let middle = slice_range text at c.start in
      let rest = edited_from text c.end changes in
      let behind = f.behind in
      let rises = f.rises in
      let within = f.within in
      elim missed.0 [
        | inl h ↦
            let front' = front ++ (middle ++ c.text.now) in
            let made : new ≡ front' ++ rest = e ∙ sym (append_assoc front (middle ++ c.text.now) rest) in
            let longer : to + (c.start - at + length c.text.now) ≡ length front' =
            omega (arith, size, length-append front (middle ++ c.text.now), length-append middle c.text.now, size_between text at c.start behind (omega arith)) in
            found_behind ls (lines_of (chars new)) i total low new_low at to c.start (line_offset byte_len ls i) s stays a.0 (omega arith)
            (finds s.end (s.to + (s.end - s.start)) c.end (to + (c.start - at + length c.text.now)) front' changes stays f.ends_whole fit.1 made longer (inl h) missed.1 a.1)
        | inr h ↦
            let next = line_offset byte_len ls (i + 1) in
            let after : EndsWithin next c.start text (c.text.now ++ rest) (line_text ls i) = elim h [ inl k ↦ inl k | inr k ↦ inr (inr k) ] in
            let last : next ≤ c.start = elim h [ inl k ↦ omega arith | inr k ↦ omega (arith, k.0) ] in
            in_first low new_low at to c.start front (c.text.now ++ rest) s stays u f.starts_whole behind (e ∙ ap (λ x. front ++ x) (append_assoc middle c.text.now rest)) size before
            after (omega arith) a.0
            (behind_all (length text) total s.end (s.to + (s.end - s.start)) c.end (to + (c.start - at + length c.text.now)) s.end changes stays (omega arith) a.1)
      ]

-- ---- the pairs of the lines in front

below_offset : (new : List (List ℕ)) (a b : ℕ) → line_offset byte_len new a < line_offset byte_len new b → a < b
below_offset new a b h = elim (cases_lt a b) [ inl lt ↦ lt | inr ge ↦ absurd (omega (arith, offset_up byte_len new b a ge)) ]

all_pairs : (P : ℕ × ℕ → Type 0) (xs ys : List (ℕ × ℕ)) → AllByRecursion P xs → AllByRecursion P ys → AllByRecursion P (xs ++ ys)
all_pairs P [] ys a b = b
all_pairs P (x ∷ xs) ys a b = (a.0, all_pairs P xs ys a.1 b)

-- what the pair at a byte keeps
pair_keeps : (P : ℕ × ℕ → Type 0) (new : List (List ℕ)) (n to : ℕ) → P (n, line_at byte_len new to) → AllByRecursion P (pair_at new n to)
unfolding pair_at
pair_keeps P new n to p =
    cond_both (column_at byte_len new to == 0) ((n, line_at byte_len new to) ∷ []) [] (AllByRecursion P) (λ _. (p, tt)) (λ _. tt)

-- a line in front of line i is paired with lines in front of the one that i is
pairs_lower : (new : List (List ℕ)) (i j n b begin : ℕ) (piece : Stay) (stays : List Stay) → 0 < length new → n < i → b < begin → piece.start ≤ begin
    → line_offset byte_len new j ≡ piece.to + (begin - piece.start)
    → AllByRecursion (IsLower begin piece) stays → AllByRecursion (λ s. b ≤ s.end) stays
    → AllByRecursion (λ p. (p.0 < i) × (p.1 < j)) (pairs_in new n b stays)
unfolding pairs_in
pairs_lower new i j n b begin piece [] some low lt starts at lower ends = tt
pairs_lower new i j n b begin piece (s ∷ stays) some low lt starts at lower ends = elim (cases_lt b s.start) [
  | inl h ↦
      subst (AllByRecursion (λ p. (p.0 < i) × (p.1 < j))) (sym (cond-true (ltb b s.start) [] (pair_at new n (s.to + (b - s.start)) ++ pairs_in new n b stays) (is_below b s.start h))) tt
  | inr h ↦
      let to = s.to + (b - s.start) in
      let less = lower.0 b lt h ends.0 in
      let begins = (line_at_is byte_len new to some).begins in
      let second : line_at byte_len new to < j = below_offset new (line_at byte_len new to) j (omega arith) in
      subst (AllByRecursion (λ p. (p.0 < i) × (p.1 < j))) (sym (cond-false (ltb b s.start) [] (pair_at new n to ++ pairs_in new n b stays) (not_below b s.start h)))
      (all_pairs (λ p. (p.0 < i) × (p.1 < j)) (pair_at new n to) (pairs_in new n b stays) (pair_keeps (λ p. (p.0 < i) × (p.1 < j)) new n to (low, second))
      (pairs_lower new i j n b begin piece stays some low lt starts at lower.1 ends.1))
]

-- those of all lines in front
all_lower : (P : ℕ × ℕ → Type 0) (f : ℕ → List (ℕ × ℕ)) (a n : ℕ) → ((k : ℕ) → k < a + n → AllByRecursion P (f k)) → AllByRecursion P (flat_map f (range_with_len a n))
all_lower P f a zero h = tt
all_lower P f a (suc n) h = all_pairs P (f a) (flat_map f (range_with_len (a + 1) n)) (h a (omega arith)) (all_lower P f (a + 1) n (λ k lt. h k (omega arith)))

-- a pair behind lower ones
rise_behind : (i j : ℕ) (xs ys : List (ℕ × ℕ)) → AllByRecursion (λ p. (p.0 < i) × (p.1 < j)) xs → RiseTo i j (xs ++ (i, j) ∷ ys)
rise_behind i j [] ys a = inl refl
rise_behind i j (x ∷ xs) ys a = inr (a.0.0, a.0.1, rise_behind i j xs ys a.1)

-- the numbers below n, with one of them
range_split : (a m n : ℕ) → range_with_len a (m + suc n) ≡ range_with_len a m ++ (a + m) ∷ range_with_len (a + m + 1) n
range_split a zero n =
    ap (λ k. range_with_len a k) (let e : 0 + suc n ≡ suc n = omega arith in e)
    ∙ ap (λ x. x ∷ range_with_len (x + 1) n) (let e : a ≡ a + 0 = omega arith in e)
range_split a (suc m) n =
    ap (λ k. range_with_len a k) (let e : suc m + suc n ≡ suc (m + suc n) = omega arith in e)
    ∙ ap (λ xs. a ∷ xs) (range_split (a + 1) m n ∙ ap (λ x. range_with_len (a + 1) m ++ x ∷ range_with_len (x + 1) n) (let e : a + 1 + m ≡ a + suc m = omega arith in e))

upto_split : (i n : ℕ) → i < n → upto n ≡ upto i ++ i ∷ range_with_len (i + 1) (n - i - 1)
upto_split i n lt =
    ap (λ k. range_with_len 0 k) (let e : n ≡ i + suc (n - i - 1) = omega arith in e)
    ∙ range_split 0 i (n - i - 1)
    ∙ ap (λ x. range_with_len 0 i ++ x ∷ range_with_len (x + 1) (n - i - 1)) (let e : 0 + i ≡ i = omega arith in e)

-- ---- its own pair

line_pairs_is : (b k : ℕ) (old new : List (List ℕ)) (stays : List Stay) → line_offset byte_len old k ≡ b
    → line_pairs old new stays k ≡ pairs_in new k b (from_reaching b stays)
unfolding line_pairs
line_pairs_is b k old new stays e = ap (λ b. pairs_in new k b (from_reaching b stays)) e

-- the pairs of one line more
pub first_pairs_more : (old new : List (List ℕ)) (stays : List Stay) (n b : ℕ) (pieces : List Stay) → b ≡ line_offset byte_len old n
    → pieces ≡ from_reaching b stays → first_pairs old new stays (n + 1) ≡ first_pairs old new stays n ++ pairs_in new n b pieces
first_pairs_more old new stays n b pieces e p =
    let lp = line_pairs old new stays in
    ap (flat_map lp) (upto_more n) ∙ flat_map-append lp (upto n) (n ∷ []) ∙ ap (λ ps. flat_map lp (upto n) ++ ps) (append-nil (lp n))
    ∙ ap (λ ps. flat_map lp (upto n) ++ ps) (line_pairs_is b n old new stays (sym e) ∙ ap (pairs_in new n b) (sym p))

own_pair : (old new : List (List ℕ)) (i low new_low : ℕ) (stays : List Stay) (f : Finds old new i low new_low (line_offset byte_len old i) stays)
    → line_pairs old new stays i ≡ (i, f.stands.other) ∷ pairs_in new i (line_offset byte_len old i) f.behind
unfolding line_pairs pairs_in pair_at column_at
own_pair old new i low new_low stays f =
    let b = line_offset byte_len old i in
    let to = f.piece.to + (b - f.piece.start) in
    let begins : line_offset byte_len new (line_at byte_len new to) ≡ to = ap (line_offset byte_len new) f.stands.line ∙ f.stands.begins in
    let column : to - line_offset byte_len new (line_at byte_len new to) ≡ 0 = omega arith in
    let rest = pairs_in new i b f.behind in
    ap (pairs_in new i b) f.first
    ∙ cond-false (ltb b f.piece.start) [] (pair_at new i to ++ rest) (not_below b f.piece.start f.starts)
    ∙ ap (λ ps. ps ++ rest)
    (cond-true ((to - line_offset byte_len new (line_at byte_len new to)) == 0) ((i, line_at byte_len new to) ∷ []) []
    (eq-eqb (to - line_offset byte_len new (line_at byte_len new to)) 0 column))
    ∙ ap (λ j. (i, j) ∷ rest) f.stands.line

-- ---- all

offset_lower : (t : List ℕ) (k i : ℕ) → k < i → i < length (lines_of t) → line_offset byte_len (lines_of t) k < line_offset byte_len (lines_of t) i
offset_lower t k i lt there = elim (empty_or_some t) [
  | inl e ↦ absurd (omega (arith, ap (λ t. length (lines_of t)) e, one_line))
  | inr s ↦
      omega (arith, offset_more byte_len (lines_of t) k (omega arith), line_some t k s (omega arith), offset_up byte_len (lines_of t) (k + 1) i (omega arith))
]

module _ (text new : List ℕ) (text_utf8 : IsUtf8 text) (new_utf8 : IsUtf8 new) (changes : List Change) (stays : List Stay) (fit : Fit text 0 changes)
    (made : new ≡ edited_text text changes) (pieces : AreStays (length text) (length new) 0 0 0 0 changes stays) where
  pub untouched_paired : (i : ℕ) → IsUntouched text changes i
      → IsPaired (lines_of (chars text)) (lines_of (chars new)) (first_pairs (lines_of (chars text)) (lines_of (chars new)) stays (length (lines_of (chars text)))) i
  untouched_paired i clear =
      let ls = lines_of (chars text) in
      let ms = lines_of (chars new) in
      let b = line_offset byte_len ls i in
      let f : Finds ls ms i 0 0 b stays =
      finds text new text_utf8 new_utf8 (length new) i clear.there 0 0 0 0 [] changes stays (IsCharBoundary-start text text_utf8) fit made refl (inr (refl, refl)) clear.missed pieces in
      let j = f.stands.other in
      let lp = line_pairs ls ms stays in
      let n = length ls in
      let later = flat_map lp (range_with_len (i + 1) (n - i - 1)) in
      let more = pairs_in ms i b f.behind in
      let all : first_pairs ls ms stays n ≡ flat_map lp (upto i) ++ (i, j) ∷ (more ++ later) =
      ap (flat_map lp) (upto_split i n clear.there) ∙ flat_map-append lp (upto i) (i ∷ range_with_len (i + 1) (n - i - 1))
      ∙ ap (λ ps. flat_map lp (upto i) ++ (ps ++ later)) (own_pair ls ms i 0 0 stays f) in
      let there = f.stands.there in
      let lower : AllByRecursion (λ p. (p.0 < i) × (p.1 < j)) (flat_map lp (upto i)) =
      all_lower (λ p. (p.0 < i) × (p.1 < j)) lp 0 i
      (λ k lt. in_line (line_offset byte_len ls k) i j k b f.piece ls ms stays refl
      (pairs_lower ms i j k (line_offset byte_len ls k) b f.piece (from_reaching (line_offset byte_len ls k) stays) (omega arith) (omega arith)
      (offset_lower (chars text) k i (omega arith) clear.there) f.starts f.stands.begins (all_reaching (IsLower b f.piece) (line_offset byte_len ls k) stays f.others)
      (reaching_ends (length text) (length new) 0 0 0 0 (line_offset byte_len ls k) changes stays pieces))) in
      record {
        other = j;
        same = record { there = clear.there; new_there = there; same = f.stands.same };
        rise = subst (RiseTo i j) (sym all) (rise_behind i j (flat_map lp (upto i)) (more ++ later) lower);
      }
    where
      in_line : (b i j k begin : ℕ) (piece : Stay) (ls ms : List (List ℕ)) (stays : List Stay) → line_offset byte_len ls k ≡ b
          → AllByRecursion (λ p. (p.0 < i) × (p.1 < j)) (pairs_in ms k b (from_reaching b stays)) → AllByRecursion (λ p. (p.0 < i) × (p.1 < j)) (line_pairs ls ms stays k)
      in_line b i j k begin piece ls ms stays e a = subst (AllByRecursion (λ p. (p.0 < i) × (p.1 < j))) (sym (line_pairs_is b k ls ms stays e)) a

-- a line begins where the one in front of it ends
pub next_offset : (text line : List ℕ) (i begin : ℕ) → IsUtf8 line → i < length (lines_of (chars text)) → begin ≡ line_offset byte_len (lines_of (chars text)) i
    → chars line ≡ line_text (lines_of (chars text)) i → begin + length line ≡ line_offset byte_len (lines_of (chars text)) (i + 1)
next_offset text line i begin u there e same =
    omega (arith, offset_more byte_len (lines_of (chars text)) i there, ap byte_len same, ap length (encodes-chars line u), e)
