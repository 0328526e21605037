-- A line none of whose labels has a message: its labels have no rows, its bars stay, and its table serves a
-- row of underlines alone.
use Rattle.std.proofs.Common.{◌≡◌, ◌∙◌, ℕ, zero, suc, ◌+◌, ◌<◌, ◌≤◌, Bool, true, false, ◌||◌, List, [], ◌∷◌, length, get_or, refl, sym, ap, subst, arith}
use Rattle.std.proofs.Common.{Option, None, Some, inl, inr}
use Rattle.std.specs.Prelude.{find, drop, option_map, slice_get}
use Rattle.std.specs.List.{AllByRecursion, enumerate_from, list_any}
use Rattle.std.proofs.lemmas.Bool.{cases_Bool, cond-true, cond-false, true≢false}
use Rattle.std.proofs.lemmas.Option.{slice_get-get_or}
use Rattle.ariadne_base.specs.Locations.{line_text}
use Rattle.ariadne_picture.specs.declared.label_info.LineLabel.{LineLabel}
use Rattle.ariadne_picture.specs.declared.switches.Switches.{Switches}
use Rattle.ariadne_picture.specs.Bars.{EndsNoEarlier}
use Rattle.ariadne_picture.specs.Columns.{Layout, layout_of}
use Rattle.ariadne_picture.specs.Lists.{joined}
use Rattle.ariadne_picture.specs.Ranks.{Sheet, is_inline, line_labels, margin_label}
use Rattle.ariadne_picture.specs.Rows.{alternate, are_lone, is_lone, label_rows, lone_rows}
use Rattle.ariadne_picture.specs.Strokes.{has_vertical, vertical_at}
use Rattle.ariadne_picture.proofs.Rows.LoneRows.{not-lone}
use Rattle.ariadne_layout.specs.Tables.{IsTable, vertical_of}
use Rattle.ariadne_layout.specs.declared.table.LineTable.{LineTable}
use Rattle.ariadne_render.specs.Gutters.{GutterFields, IsBelow}
use Rattle.ariadne_render.proofs.GutterSteps.{below-next_inline, end-message}
use Rattle.ariadne_render.proofs.LinesRows.{label-none, some-label}

-- neither of two tests passed
or-none : (a b : Bool) → (a || b) ≡ false → (a ≡ false) × (b ≡ false)
or-none true b e = absurd (true≢false e)
or-none false b e = (refl, e)

-- a label that passes no test of any
quiet-at : (xs : List LineLabel) (r : ℕ) (x : LineLabel) → list_any (λ x. x.info.has_message) xs ≡ false → slice_get xs r ≡ Some x
    → x.info.has_message ≡ false
quiet-at [] r x e there = cc
quiet-at (y ∷ xs) zero x e there =
    let parts = or-none y.info.has_message (list_any (λ x. x.info.has_message) xs) e in
    let same : y ≡ x = cc in ap (λ (z : LineLabel). z.info.has_message) (sym same) ∙ parts.0
quiet-at (y ∷ xs) (suc r) x e there =
    let parts = or-none y.info.has_message (list_any (λ x. x.info.has_message) xs) e in quiet-at xs r x parts.1 there

-- no rows
pub quiet-rows : (compact : Bool) (l n : ℕ) (xs : List LineLabel) → list_any (λ x. x.info.has_message) xs ≡ false
    → [] ≡ joined (label_rows compact l) (enumerate_from n xs)
unfolding joined
quiet-rows compact l n [] e = refl
quiet-rows compact l n (x ∷ xs) e =
    let parts = or-none x.info.has_message (list_any (λ x. x.info.has_message) xs) e in
    rw (label-none compact l n x parts.0) (quiet-rows compact l (n + 1) xs parts.1)

-- the bars stay
pub quiet-bars : (s : Sheet) (l k : ℕ) (g : GutterFields) → AllByRecursion EndsNoEarlier s.labels → IsBelow s l 0 g
    → list_any (λ x. x.info.has_message) (line_labels s.labels l) ≡ false → k ≤ length (line_labels s.labels l) → IsBelow s l k g
quiet-bars s l zero g rise b e h = b
quiet-bars s l (suc k) g rise b e h =
    let before = quiet-bars s l k g rise b e (omega arith) in
    let some = some-label (line_labels s.labels l) k (omega arith) in
    let quiet = quiet-at (line_labels s.labels l) k some.0 e some.1 in
    let inline : is_inline some.0.side ≡ true = elim (cases_Bool (is_inline some.0.side)) [
      | inl t ↦ t
      | inr f ↦ absurd (true≢false (sym (end-message s l k some.0 some.1 f) ∙ quiet))
    ] in
    let next : k + 1 ≡ suc k = omega arith in
    subst (λ n. IsBelow s l n g) next (below-next_inline s l k some.0 g rise before some.1 inline)

-- the labels of a layout are those of its line
pub layout-labels : (s : Sheet) (l : ℕ) (y : Layout) → y ≡ layout_of s l → y.labels ≡ line_labels s.labels l
unfolding layout_of
layout-labels s l y e = ap (λ (z : Layout). z.labels) e

-- its margin label is that of the line
pub layout-margin : (s : Sheet) (l : ℕ) (y : Layout) → y ≡ layout_of s l → y.margin ≡ margin_label s.labels l
unfolding layout_of
layout-margin s l y e = ap (λ (z : Layout). z.margin) e

-- its characters are those of the line
pub layout-text : (s : Sheet) (l : ℕ) (y : Layout) → y ≡ layout_of s l → y.text ≡ line_text s.lines l
unfolding layout_of
layout-text s l y e = ap (λ (z : Layout). z.text) e

-- as the code reads a label of it
pub label-read : (s : Sheet) (l r : ℕ) (y : Layout) (xs : List LineLabel) (d : LineLabel) → y ≡ layout_of s l → xs ≡ y.labels
    → r < length (line_labels s.labels l) → slice_get (line_labels s.labels l) r ≡ Some (get_or xs r d)
label-read s l r y xs d e same less =
    let there : xs ≡ line_labels s.labels l = same ∙ layout-labels s l y e in
    let n : length xs ≡ length (line_labels s.labels l) = ap length there in
    ap (λ ys. slice_get ys r) (sym there) ∙ slice_get-get_or xs r d (omega arith)

-- as the code asks whether it has a message
pub label-told : (s : Sheet) (l r : ℕ) (y : Layout) (xs : List LineLabel) (d : LineLabel) (b : Bool) → y ≡ layout_of s l → xs ≡ y.labels
    → r < length (line_labels s.labels l) → (get_or xs r d).info.has_message ≡ b
    → (x : LineLabel) × ((slice_get (line_labels s.labels l) r ≡ Some x) × (x.info.has_message ≡ b))
label-told s l r y xs d b e same less told = (get_or xs r d, (label-read s l r y xs d e same less, told))

-- which is there
pub label-less : (s : Sheet) (l r : ℕ) (y : Layout) (xs : List LineLabel) → y ≡ layout_of s l → xs ≡ y.labels → r < length (line_labels s.labels l)
    → r < length xs
label-less s l r y xs e same less =
    let n : length xs ≡ length (line_labels s.labels l) = ap length (same ∙ layout-labels s l y e) in omega arith

-- ---- its table serves each rank

-- no label has a vertical
none-found : (margin : Option LineLabel) (k : ℕ) (xs : List LineLabel) → list_any (λ x. x.info.has_message) xs ≡ false
    → find (has_vertical margin k) xs ≡ None
unfolding has_vertical
none-found margin k [] e = refl
none-found margin k (x ∷ xs) e =
    let parts = or-none x.info.has_message (list_any (λ x. x.info.has_message) xs) e in
    rw parts.0 (none-found margin k xs parts.1)

-- nor one behind it
none-behind : (r : ℕ) (xs : List LineLabel) → list_any (λ x. x.info.has_message) xs ≡ false
    → list_any (λ x. x.info.has_message) (drop r xs) ≡ false
none-behind zero xs e = e
none-behind (suc r) [] e = e
none-behind (suc r) (x ∷ xs) e =
    let parts = or-none x.info.has_message (list_any (λ x. x.info.has_message) xs) e in none-behind r xs parts.1

quiet-vertical : (y : Layout) (r k : ℕ) → list_any (λ x. x.info.has_message) y.labels ≡ false → vertical_at y r k ≡ None
unfolding vertical_at
quiet-vertical y r k e = none-found y.margin k (drop r y.labels) (none-behind r y.labels e)

pub quiet-table : (switches : Switches) (y : Layout) (r : ℕ) (table : LineTable) → list_any (λ x. x.info.has_message) y.labels ≡ false
    → IsTable switches y 0 table → IsTable switches y r table
quiet-table switches y r table e h = record {
  len = h.len;
  columns = h.columns;
  verticals = λ k. h.verticals k ∙ ap (option_map vertical_of) (quiet-vertical y 0 k e ∙ sym (quiet-vertical y r k e));
  underline_row = h.underline_row;
  underlines = h.underlines;
}

-- ---- the row with its underlines alone

-- it is there, or not
pub lone-row : (s : Sheet) (l : ℕ) → is_lone s l ≡ true → lone_rows s l ≡ alternate l (length (line_labels s.labels l)) ∷ []
unfolding lone_rows
lone-row s l on = cond-true (is_lone s l) (alternate l (length (line_labels s.labels l)) ∷ []) [] on

pub no-lone-row : (s : Sheet) (l : ℕ) → is_lone s l ≡ false → lone_rows s l ≡ []
unfolding lone_rows
no-lone-row s l off = cond-false (is_lone s l) (alternate l (length (line_labels s.labels l)) ∷ []) [] off

-- as the code asks
pub lone-asked : (s : Sheet) (l : ℕ) (asked : Switches) (y : Layout) → s.switches ≡ asked → y ≡ layout_of s l
    → are_lone asked y.labels ≡ is_lone s l
unfolding is_lone
lone-asked s l asked y same e = rw (layout-labels s l y e, ← same) refl

-- a line with a message has none
pub messages-not-lone : (s : Sheet) (l : ℕ) → list_any (λ x. x.info.has_message) (line_labels s.labels l) ≡ true → is_lone s l ≡ false
messages-not-lone s l h = not-lone s l h
