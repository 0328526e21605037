-- The spans of a diagnostic with its own in front, and where they stand.
use Rattle.std.proofs.Common.{◌≡◌, ◌∙◌, ◌+◌, ◌<◌, ◌≤◌, ap, arith, inl, inr, length, ltb-true, refl, sym}
use Rattle.std.proofs.lemmas.Bool.{cases_Bool}
use Rattle.std.proofs.lemmas.List.{drop-drop, length-drop, map-append}
use Rattle.std.specs.List.{position_or_len}
use Rattle.std.specs.Prelude.{ℕ, nat_lt, List, [], ◌∷◌, ◌++◌, drop, map, take}
use Rattle.ariadne_parse.specs.declared.diagnostic.Span.{Span}
use Rattle.ariadne_show.specs.LinesAndColumns.{main_first, main_number}

-- the number of its own is that of one of them
main_below : (spans : List Span) → 0 < length spans → main_number spans < length spans
main_below spans some = elim (cases_Bool (nat_lt (position_or_len (λ (span : Span). span.is_primary) spans) (length spans))) [
  | inl found ↦ rw found (ltb-true _ _ found)
  | inr none ↦ rw none some
]

pub main_within : (spans : List Span) (n : ℕ) → n ≡ main_number spans → n ≤ length spans
main_within [] n is = omega (arith, is)
main_within (x ∷ xs) n is = omega (arith, is, main_below (x ∷ xs) (omega arith))

-- that one, and the others
pub own_first : {T : Type 0} (f : Span → T) (spans : List Span) (n : ℕ) (main : Span) (behind : List Span)
    → n ≡ main_number spans → drop n spans ≡ main ∷ behind
    → f main ∷ (map f (take n spans) ++ map f behind) ≡ map f (main_first spans)
own_first f spans n main behind is own =
    let rest : drop (n + 1) spans ≡ behind = sym (drop-drop 1 n spans) ∙ ap (drop 1) own in
    let all : take 1 (drop n spans) ++ take n spans ++ drop (n + 1) spans ≡ main ∷ (take n spans ++ behind) =
    ap (λ (ps : List Span). take 1 ps ++ take n spans ++ drop (n + 1) spans) own
    ∙ ap (λ (ps : List Span). main ∷ (take n spans ++ ps)) rest in
    ap (λ ts. f main ∷ ts) (sym (map-append f (take n spans) behind)) ∙ ap (map f) (sym all)
    ∙ ap (λ (k : ℕ). map f (take 1 (drop k spans) ++ take k spans ++ drop (k + 1) spans)) is

-- there is none
pub none_at_all : {T : Type 0} (f : Span → T) (spans : List Span) (n : ℕ) → n ≡ main_number spans → length (drop n spans) ≡ 0
    → [] ≡ map f (main_first spans)
none_at_all f [] n is none = refl
none_at_all f (x ∷ xs) n is none =
    absurd (omega (arith, is, main_below (x ∷ xs) (omega arith), none, length-drop n (x ∷ xs)))

-- its own is located, and then the others
pub all_located : {T : Type 0} (f : Span → T) (spans : List Span) (n : ℕ) (main : Span) (before rest behind : List Span) (a b c : List T)
    → n ≡ main_number spans → before ≡ take n spans → rest ≡ drop n spans → rest ≡ main ∷ behind → a ≡ f main ∷ []
    → b ≡ a ++ map f before → c ≡ b ++ map f behind → c ≡ map f (main_first spans)
all_located {T} f spans n main before rest behind a b c is front back own one two three =
    three ∙ ap (λ (l : List T). l ++ map f behind)
    (two ∙ ap (λ (l : List T). l ++ map f before) one ∙ ap (λ (ps : List Span). (f main ∷ []) ++ map f ps) front)
    ∙ own_first f spans n main behind is (sym back ∙ own)
