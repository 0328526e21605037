-- The columns of a line, counted on by one character.
use Rattle.std.proofs.Common.{◌≡◌, ℕ, zero, suc, ◌+◌, ◌<◌, ◌≤◌, List, [], ◌∷◌, ◌++◌, chars, drop, encode_utf8, get_or, length, sym, ap, ◌∙◌, arith}
use Rattle.std.specs.Str.Iter.{chars_rest}
use Rattle.std.proofs.lemmas.List.{length-drop, nil_from_length}
use Rattle.std.proofs.lemmas.Str.{IsUtf8-past_char, chars-nil, chars_past_char}
use Rattle.ariadne_picture.specs.declared.switches.Switches.{Switches}
use Rattle.ariadne_picture.specs.Columns.{Layout, shown, shown_columns, whole_column}
use Rattle.ariadne_layout.proofs.ColumnLists.{whole-step}
use Rattle.ariadne_render.specs.declared.counted.Counted.{Counted}
use Rattle.ariadne_render.specs.Counted.{IsCounted}

-- the first of the elements from place n on stands there
drop-first : (xs ys : List ℕ) (n c : ℕ) → drop n xs ≡ c ∷ ys → (n < length xs) × (c ≡ get_or xs n 0) × (drop (n + 1) xs ≡ ys)
drop-first [] ys zero c e = absurd (let l = ap length e in omega (arith, l))
drop-first [] ys (suc n) c e = absurd (let l = ap length e in omega (arith, l))
drop-first (x ∷ xs) ys zero c e = (omega arith, sym (ap (λ l. get_or l 0 0) e), ap (drop 1) e)
drop-first (x ∷ xs) ys (suc n) c e =
    let rest = drop-first xs ys n c e in
    let next : suc n + 1 ≡ suc (n + 1) = omega arith in
    (omega (arith, rest.0), rest.1, rw next rest.2)

-- a character more is counted
pub counted-more : (s : Switches) (y : Layout) (a b : Counted) (c w : ℕ) → IsCounted s y a → chars_rest a.rest ≡ encode_utf8 c ++ chars_rest b.rest
    → w ≡ shown_columns s.tab_width a.column c → b.column ≡ a.column + w → b.place ≡ a.place + 1 → IsCounted s y b
counted-more s y a b c w h step width sum next =
    let first : drop a.place (shown y) ≡ c ∷ chars (chars_rest b.rest) = sym h.rest ∙ chars_past_char _ _ c h.utf8 step in
    let at = drop-first (shown y) (chars (chars_rest b.rest)) a.place c first in
    record {
      utf8 = IsUtf8-past_char _ _ c h.utf8 step;
      rest = sym at.2 ∙ ap (λ n. drop n (shown y)) (sym next);
      column = sum ∙ whole-step s.tab_width (shown y) a.place c a.column w at.1 h.column width ∙ ap (whole_column s.tab_width (shown y)) (sym next);
    }

-- where no character is to come, the line ends
pub counted-all : (s : Switches) (y : Layout) (a : Counted) → IsCounted s y a → length (chars_rest a.rest) ≡ 0 → length (shown y) ≤ a.place
counted-all s y a h none =
    let empty : length (chars (chars_rest a.rest)) ≡ 0 = ap (λ bs. length (chars bs)) (nil_from_length (chars_rest a.rest) none) ∙ ap length chars-nil in
    let left = ap length h.rest in
    let size = length-drop a.place (shown y) in
    omega (arith, empty, left, size)
