-- A gutter label's first row and its last row are those of its start and of its end.
use Rattle.std.proofs.Common.{◌≡◌, ◌≢◌, ℕ, Bool, true, false, not, ◌&&◌, List, ◌++◌, Some, refl, sym, ap, ◌∙◌, subst, ◌==◌, ◌⊎◌, inl, inr, map}
use Rattle.std.proofs.Common.{filter, slice_get}
use Rattle.std.specs.List.{AllByRecursion}
use Rattle.std.proofs.lemmas.Bool.{cases_Bool, cond-true, cond-false, not-true}
use Rattle.ariadne_picture.specs.declared.label_info.LabelInfo.{LabelInfo}
use Rattle.ariadne_picture.specs.declared.label_info.LineLabel.{LineLabel}
use Rattle.ariadne_picture.specs.declared.label_info.Side.{Side}
use Rattle.ariadne_picture.specs.declared.label_info.Side.TheVariants.{Inline, Starts, Ends}
use Rattle.ariadne_picture.specs.Ranks.{Sheet, is_inline, is_start, is_on_one_line, gutter_labels, ends_at, margin_label}
use Rattle.ariadne_picture.specs.Ranks.{is_margin, inline_labels, is_before, line_labels}
use Rattle.ariadne_picture.specs.Rows.{source, arrow}
use Rattle.ariadne_picture.specs.Strokes.{is_at_margin, rank_at, first_row, last_row}
use Rattle.ariadne_picture.specs.Bars.{IsGutterLabel, IsMarginLabel, IsLineLabel}
use Rattle.ariadne_picture.proofs.Lists.ListFacts.{all-append, all-weaker, all-kept, all-in_order, all-map, all-every, all-at}
use Rattle.ariadne_picture.proofs.Labels.LineLabels.{IsEndAt, same-info, line-labels-are}
use Rattle.ariadne_picture.proofs.Rows.BarCases.{margin-at, starts-margin, start-number, end-number, numbered-start, numbered-end}

-- no line label is a start that is the margin label
pub not-margin-start : (s : Sheet) (l : ℕ) → AllByRecursion (λ x. (is_start x.side && is_margin (margin_label s.labels l) x) ≡ false) (line_labels s.labels l)
unfolding line_labels inline_labels is_start
not-margin-start s l =
    let P : LineLabel → Type 0 = λ x. (is_start x.side && is_margin (margin_label s.labels l) x) ≡ false in
    let t : LineLabel → Bool = λ x. not (is_start x.side && is_margin (margin_label s.labels l) x) in
    let ins : List LabelInfo = filter (λ a. is_on_one_line a && (a.start_line == l)) s.labels in
    let make : LabelInfo → LineLabel = λ a. record { info = a; side = Inline; gutter_column = 0; place = a.attach } in
    all-in_order P is_before (filter t (ends_at s.labels l) ++ map make ins)
    (all-append P (filter t (ends_at s.labels l)) (map make ins)
    (all-weaker (λ x. t x ≡ true) P (filter t (ends_at s.labels l)) (λ x h. not-true (is_start x.side && is_margin (margin_label s.labels l) x) h)
    (all-kept t (ends_at s.labels l)))
    (all-map P make ins (all-every _ (λ a. refl) ins)))

-- the same, by the gutter label's number
pub start-off : (s : Sheet) (l : ℕ) (x : LineLabel) → x.side ≡ Starts → (is_start x.side && is_margin (margin_label s.labels l) x) ≡ false
    → is_at_margin s l x.gutter_column ≡ false
unfolding is_margin is_start is_inline
start-off s l x e h = rw e at h

-- a start that is a line label is not the margin label
pub label-off-margin : (s : Sheet) (l i n : ℕ) → IsLineLabel s l Starts i n → is_at_margin s l i ≡ false
label-off-margin s l i n h =
    subst (λ k. is_at_margin s l k ≡ false) h.same_gutter_column
    (start-off s l h.label h.same_side (all-at (λ x. (is_start x.side && is_margin (margin_label s.labels l) x) ≡ false) (line_labels s.labels l) n h.label h.there
    (not-margin-start s l)))

-- ---- where a gutter label starts and ends

-- a gutter label starts as the margin label or as a line label
pub starts-somewhere : (s : Sheet) (i : ℕ) (a : LabelInfo) → IsGutterLabel s i a → IsMarginLabel s a.start_line Starts i
    ⊎ ((n : ℕ) × IsLineLabel s a.start_line Starts i n)
starts-somewhere s i a m = elim (cases_Bool (is_at_margin s a.start_line i)) [
  | inl t ↦ inl (starts-margin s i a m a.start_line refl t)
  | inr f ↦ inr (rank_at s is_start a.start_line i, numbered-start s i a m.owned f)
]

-- a gutter label ends as a line label
pub ends-somewhere : (s : Sheet) (i : ℕ) (a : LabelInfo) → IsGutterLabel s i a → (n : ℕ) × IsLineLabel s a.end_line Ends i n
ends-somewhere s i a m = (rank_at s Rattle.ariadne_picture.specs.Ranks.is_end a.end_line i, numbered-end s i a m.owned)

-- ---- its first row and its last

-- the first row of the margin label is the source row
pub first-at-source : (s : Sheet) (i : ℕ) (a : LabelInfo) → IsMarginLabel s a.start_line Starts i → first_row s i a ≡ source a.start_line
unfolding first_row
first-at-source s i a h =
    cond-true (is_at_margin s a.start_line i) (source a.start_line) (arrow a.start_line (rank_at s is_start a.start_line i))
    (margin-at s a.start_line i Starts h)

-- the first row of a line label is its arrow row
pub first-at-arrow : (s : Sheet) (i n : ℕ) (a : LabelInfo) → IsLineLabel s a.start_line Starts i n → first_row s i a ≡ arrow a.start_line n
unfolding first_row
first-at-arrow s i n a h =
    cond-false (is_at_margin s a.start_line i) (source a.start_line) (arrow a.start_line (rank_at s is_start a.start_line i))
    (label-off-margin s a.start_line i n h)
    ∙ ap (arrow a.start_line) (start-number s a.start_line i n h)

-- the last row is the arrow row of its end
pub last-at-arrow : (s : Sheet) (i n : ℕ) (a : LabelInfo) → IsLineLabel s a.end_line Ends i n → last_row s i a ≡ arrow a.end_line n
unfolding last_row
last-at-arrow s i n a h = ap (arrow a.end_line) (end-number s a.end_line i n h)

-- ---- a line label of a gutter label is its own

-- two labels of one gutter label are of the same info
pub label-info : (s : Sheet) (l i n : ℕ) (side : Side) (a : LabelInfo) → slice_get (gutter_labels s.labels) i ≡ Some a → side ≢ Inline
    → (h : IsLineLabel s l side i n) → h.label.info ≡ a
label-info s l i n side a e out h = elim (all-at (λ x. IsEndAt s l x ⊎ (x.side ≡ Inline)) (line_labels s.labels l) n h.label h.there (line-labels-are s l)) [
  | inl is ↦ same-info s l i a h.label e is h.same_gutter_column
  | inr k ↦ absurd (out (sym h.same_side ∙ k))
]

-- a start is not inline
pub starts≢inline : Starts ≢ Inline
starts≢inline e = cc

-- nor is an end
pub ends≢inline : Ends ≢ Inline
ends≢inline e = cc
