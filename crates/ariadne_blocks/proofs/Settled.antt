-- Spans are settled one after the other.
use Rattle.std.proofs.Common.{◌≡◌, ◌∙◌, ℕ, ◌+◌, ◌<◌, ◌≤◌, List, [], ◌∷◌, ◌++◌, length, get_or, set, take, drop, refl, ap, sym}
use Rattle.std.specs.Prelude.{Bool, false, cond, not, ◌||◌, map, is_some, option_map, Option, None, Some}
use Rattle.std.specs.List.{find, flat_map}
use Rattle.std.specs.Option.{option_copied, option_or}
use Rattle.std.specs.Borrow.{Bor}
use Rattle.std.proofs.lemmas.List.{flat_map_more, take_all, take_more_set}
use Rattle.ariadne_parse.specs.Spans.{seen, Seen}
use Rattle.ariadne_parse.specs.declared.diagnostic.Span.{Span}
use Rattle.std.proofs.lemmas.List.Folds.{find-append}
use Rattle.ariadne_blocks.specs.declared.drawn.Drawn.{Drawn}
use Rattle.ariadne_blocks.specs.MarkedLocations.{all_settled, are_at, marks_at, marks_of, settled, with_found, Marks}
use Rattle.ariadne_blocks.proofs.Lists.{find_mapped, pushed, written, written_all}

-- one span more is settled
pub settled_next : (before own more : List Marks) (ps : List Span) (i : ℕ) (x y : Span) (all : List Seen)
    → i < length ps → x ≡ get_or ps i x → seen y ≡ settled (own ++ before) (seen x) → more ≡ own ++ marks_at (seen y)
    → map seen (take i ps) ++ all_settled own before (map seen (drop i ps)) ≡ all
    → map seen (take (i + 1) (set ps i y)) ++ all_settled more before (map seen (drop (i + 1) (set ps i y))) ≡ all
settled_next before own more ps i x y all h is now push so_far =
    ap
    (λ o. map seen (take (i + 1) (set ps i y)) ++ all_settled o before (map seen (drop (i + 1) (set ps i y))))
    push
    ∙ written seen (all_settled own before) (all_settled (own ++ marks_at (seen y)) before) ps i x y h is
    (ap (λ n. n ∷ all_settled (own ++ marks_at n) before (map seen (drop (i + 1) ps))) (sym now))
    ∙ so_far

-- and its marks are held
pub held_next : (own more : List Marks) (ps : List Span) (i : ℕ) (y : Span) → i < length ps
    → own ≡ flat_map marks_at (map seen (take i ps)) → more ≡ own ++ marks_at (seen y)
    → more ≡ flat_map marks_at (map seen (take (i + 1) (set ps i y)))
held_next own more ps i y h so_far push =
    push ∙ ap (λ o. o ++ marks_at (seen y)) so_far
    ∙ flat_map_more marks_at [] (map seen (take i ps)) (seen y)
    ∙ ap (flat_map marks_at) (sym (pushed seen (take i ps) (take (i + 1) (set ps i y)) y (take_more_set ps i y h)))

-- all are settled
pub settled_all : (before own : List Marks) (ps : List Span) (i : ℕ) (all : List Seen) → length ps ≤ i
    → map seen (take i ps) ++ all_settled own before (map seen (drop i ps)) ≡ all → map seen ps ≡ all
settled_all before own ps i all h so_far = sym (written_all seen (all_settled own before) ps i h refl) ∙ so_far

pub held_all : (own : List Marks) (ps : List Span) (i : ℕ) → length ps ≤ i
    → own ≡ flat_map marks_at (map seen (take i ps)) → own ≡ flat_map marks_at (map seen ps)
held_all own ps i h so_far = so_far ∙ ap (λ l. flat_map marks_at (map seen l)) (take_all i ps h)

-- ---- one span

-- where none of some is found, the first of others is
both_or : (a b : Option Drawn)
    → option_or (option_map marks_of a) (option_map marks_of b) ≡ option_map marks_of (option_or a b)
both_or None b = refl
both_or (Some x) b = refl

both_copied : (a b : Option (Bor Drawn))
    → option_or (option_copied a) (option_copied b) ≡ option_copied (option_or a b)
both_copied None b = refl
both_copied (Some x) b = refl

pub found_first : (test : Marks → Bool) (own drawn : List Drawn) (a b r : Option (Bor Drawn))
    → option_copied a ≡ find (λ marks. test (marks_of marks)) own
    → option_copied b ≡ find (λ marks. test (marks_of marks)) drawn → r ≡ option_or a b
    → find test (map marks_of own ++ map marks_of drawn) ≡ option_map marks_of (option_copied r)
found_first test own drawn a b r first second is =
    find-append test (map marks_of own) (map marks_of drawn)
    ∙ ap (λ o. option_or o (find test (map marks_of drawn)))
    (find_mapped marks_of test own ∙ ap (option_map marks_of) (sym first))
    ∙ ap (λ o. option_or (option_map marks_of (option_copied a)) o)
    (find_mapped marks_of test drawn ∙ ap (option_map marks_of) (sym second))
    ∙ both_or (option_copied a) (option_copied b)
    ∙ ap (option_map marks_of) (both_copied a b ∙ ap option_copied (sym is))

-- a span without marks that names a column has those that were found
pub settled_by : (drawn : List Marks) (span : Seen) (found : Option Marks)
    → (is_some span.marks || not (is_some span.caret.column)) ≡ false → find (are_at span) drawn ≡ found
    → with_found span found ≡ settled drawn span
settled_by drawn span found none is =
    ap (with_found span) (sym is)
    ∙ sym (ap (λ b. cond b span (with_found span (find (are_at span) drawn))) none)

-- it has none, and names a column
pub is_open : {A B : Type 0} (a : Option A) (b : Option B) (p q : Bool) → p ≡ is_some a → is_some b ≡ not q → p ≡ false
    → q ≡ false → (is_some a || not (is_some b)) ≡ false
is_open None b p q is so no_marks named = ap not (so ∙ ap not named)
is_open (Some a) b p q is so no_marks named = absurd (cc (is, no_marks))
