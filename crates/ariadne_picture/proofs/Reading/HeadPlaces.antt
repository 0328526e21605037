-- The row of a gutter label's head: the source row of the line where it starts, if it is the margin label
-- there, and else the arrow row of its start.
use Rattle.std.proofs.Common.{◌≡◌, ℕ, ◌≤◌, Bool, true, false, ◌&&◌, Some, None, refl, sym, ap, ◌∙◌, arith, ◌==◌, inl, inr, Option}
use Rattle.std.specs.Prelude.{slice_get}
use Rattle.std.specs.List.{AllByRecursion}
use Rattle.std.specs.Cmp.Derive.{both_true}
use Rattle.std.proofs.lemmas.Bool.{eqb-true, eq-eqb, cond-true, cond-false, true≢false}
use Rattle.ariadne_picture.specs.declared.label_info.LabelInfo.{LabelInfo}
use Rattle.ariadne_picture.specs.declared.label_info.LineLabel.{LineLabel}
use Rattle.ariadne_picture.specs.Bars.{EndsNoEarlier}
use Rattle.ariadne_picture.specs.Ranks.{is_start, is_of_gutter_label, margin_label, gutter_labels, line_labels, first_line, last_line}
use Rattle.ariadne_picture.specs.Rows.{source, arrow}
use Rattle.ariadne_picture.specs.Strokes.{is_at_margin}
use Rattle.ariadne_picture.specs.Pieces.{Section}
use Rattle.ariadne_picture.proofs.Rows.BarCases.{numbered-start}
use Rattle.ariadne_picture.proofs.Lists.Elements.{first-has}
use Rattle.ariadne_picture.proofs.Labels.LabelsAtLine.{IsHere, IsStartHere}
use Rattle.ariadne_picture.proofs.Lists.ListFacts.{all-at}
use Rattle.ariadne_picture.proofs.Reading.MessagePlaces.{two-true, label-here, all-found, has-found}
use Rattle.ariadne_picture.proofs.Reading.Pictures.{Picture, number, section-is, head_row}
use Rattle.ariadne_picture.proofs.Reading.ShownLine.{IsArrowRow, arrow-row, IsShownLine}
use Rattle.ariadne_picture.proofs.Rows.RowPlacing.{rows_of_labels, first_row, row_placing}
use Rattle.ariadne_picture.proofs.Rows.RowsThere.{all-gutter-labels, gutter-label-within, gutter-label-message, shown-by-label, shown-by-margin}

-- a line label is the start of gutter label i
abbrev starts_gutter_label : ℕ → LineLabel → Bool
starts_gutter_label i x = is_start x.side && (x.gutter_column == i)

-- gutter label i of group g, which is s, is a
pub record IsGutterLabelOf (v : Picture) (g : ℕ) (s : Section) (i : ℕ) (a : LabelInfo) : Type 0 where
  pub group : slice_get v.sections g ≡ Some s
  pub owned : slice_get (gutter_labels s.sheet.labels) i ≡ Some a

-- row n is the arrow row of a start of gutter label i at line l
record IsHeadRow (v : Picture) (g : ℕ) (s : Section) (i l n : ℕ) : Type 0 where
  pub rank : ℕ
  pub label : LineLabel
  pub there : slice_get (line_labels s.sheet.labels l) rank ≡ Some label
  pub starts : starts_gutter_label i label ≡ true
  pub is : n ≡ number v g s (arrow l rank)

-- the head of gutter label i, which is a, stands in the arrow row of its start
pub record HeadPlace (v : Picture) (g : ℕ) (s : Section) (i : ℕ) (a : LabelInfo) : Type 0 where
  pub rank : ℕ
  pub label : LineLabel
  pub start : IsStartHere s.sheet a.start_line label
  pub gutter_column : label.gutter_column ≡ i
  pub info : label.info ≡ a
  pub arrow_row : IsArrowRow v g s a.start_line rank label
  pub row : head_row v g i ≡ number v g s (arrow a.start_line rank)

-- the margin label, where a test says that it is of gutter label i
pub margin-of : (o : Option LineLabel) (i : ℕ) → is_of_gutter_label o i ≡ true → (m : LineLabel) × (o ≡ Some m) × (m.gutter_column ≡ i)
unfolding is_of_gutter_label
margin-of None i h = absurd (true≢false (sym h))
margin-of (Some m) i h = (m, refl, eqb-true m.gutter_column i h)

module _ (v : Picture) {g : ℕ} {s : Section} {i : ℕ} {a : LabelInfo} (o : IsGutterLabelOf v g s i a) where
  -- a gutter label lies within the lines of its group
  pub gutter-label-lines : (first_line s.sheet ≤ a.start_line) × (a.start_line ≤ a.end_line)
      × (a.end_line ≤ last_line s.sheet)
  gutter-label-lines =
      let within = gutter-label-within s.sheet i a o.owned in
      (within.0, all-at EndsNoEarlier _ i a o.owned (all-gutter-labels EndsNoEarlier s.sheet (v.drawn.rises g s o.group)), within.1)

  -- the placing looks up the group, and in it the gutter label
  head-is : head_row v g i ≡ first_row v.texts v.sections g s i (i, a)
  unfolding row_placing
  head-is =
      let row : Option LabelInfo → ℕ = λ label. elim label [ None ↦ 0 | Some a ↦ first_row v.texts v.sections g s i (i, a) ] in
      section-is v.texts v.sections g s _ o.group ∙ ap row o.owned

  -- the line where it starts as the margin label is shown
  pub margin-line : is_at_margin s.sheet a.start_line i ≡ true → IsShownLine v g s a.start_line
  margin-line at =
      let lines = gutter-label-lines in
      let m = margin-of (margin_label s.sheet.labels a.start_line) i at in
      let up = lines.1 in
      let high = lines.2 in
      record { group = o.group; low = lines.0; high = omega arith; seen = shown-by-margin s.sheet a.start_line m.0 m.1 }

  -- there its head stands on the source row
  pub head-at-margin : is_at_margin s.sheet a.start_line i ≡ true
      → head_row v g i ≡ number v g s (source a.start_line)
  unfolding first_row
  head-at-margin at = head-is ∙ cond-true _ _ _ at

  -- what the placing finds for its start is the arrow row of its head
  head-from : (n : ℕ) → head_row v g i ≡ n → IsHeadRow v g s i a.start_line n → HeadPlace v g s i a
  unfolding is_start
  head-from n was h = go (label-here s.sheet a.start_line h.rank h.label h.there)
    where
      passes : (is_start h.label.side ≡ true) × ((h.label.gutter_column == i) ≡ true)
      passes = two-true (is_start h.label.side) (h.label.gutter_column == i) h.starts

      go : IsHere s.sheet a.start_line h.label → HeadPlace v g s i a
      go (inl k) =
          let same = eqb-true h.label.gutter_column i passes.1 in
          let info : h.label.info ≡ a = cc in
          let lines = gutter-label-lines in
          let up = lines.1 in
          let high = lines.2 in
          let seen = shown-by-label s.sheet a.start_line h.rank h.label h.there in
          record {
            rank = h.rank;
            label = h.label;
            start = k;
            gutter_column = same;
            info = info;
            arrow_row =
                arrow-row v h.rank h.label (record { group = o.group; low = lines.0; high = omega arith; seen = seen }) h.there
                (cc (gutter-label-message s.sheet i a o.owned));
            row = cc;
          }
      go (inr (inl k)) = absurd (true≢false (sym passes.0 ∙ ap is_start k.side))
      go (inr (inr k)) = absurd (true≢false (sym passes.0 ∙ ap is_start k.side))

  -- elsewhere it has a start, so that something is found
  pub head-place : is_at_margin s.sheet a.start_line i ≡ false → HeadPlace v g s i a
  unfolding first_row is_start
  head-place off =
      let h = numbered-start s.sheet i a o.owned off in
      let starts : starts_gutter_label i h.label ≡ true =
      both_true (ap is_start h.same_side) (eq-eqb h.label.gutter_column i h.same_gutter_column) in
      let all : AllByRecursion (IsHeadRow v g s i a.start_line) (rows_of_labels v.texts v.sections g s (starts_gutter_label i) a.start_line) =
      all-found v g s (starts_gutter_label i) a.start_line _
      (λ r x e passes. record { rank = r; label = x; there = e; starts = passes; is = refl }) in
      head-from _ (head-is ∙ cond-false _ _ _ off)
      (first-has _ _ _ 0 all (has-found v g s (starts_gutter_label i) a.start_line _ h.label h.there starts))
