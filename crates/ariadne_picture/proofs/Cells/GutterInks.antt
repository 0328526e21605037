-- The inks of gutter columns, row by row: beside a source row and a gap row, in an alternate row and in an arrow row,
-- with a bar there and without.
use Rattle.std.proofs.Common.{◌≡◌, ℕ, ◌+◌, ◌<◌, ◌≤◌, true, false, not, ◌&&◌, length, Option, Some, None, refl, ap, arith, ◌==◌, nat_lt, inl, inr, ◌⊎◌}
use Rattle.std.proofs.Common.{is_some}
use Rattle.std.specs.Prelude.{slice_get}
use Rattle.std.proofs.lemmas.Bool.{cond_both, cond-false, cases_Bool, cases_lt, eq-eqb, ne_eqb, lt-ltb, ltb-true, true≢false, false_from_ne_true}
use Rattle.std.proofs.lemmas.Option.{slice_get_within, slice_get_past}
use Rattle.ariadne_picture.specs.declared.label_info.LabelInfo.{LabelInfo}
use Rattle.ariadne_picture.specs.declared.label_info.LineLabel.{LineLabel}
use Rattle.ariadne_picture.specs.declared.cell.Glyph.TheVariants.{Blank, Hbar, Vbar, Xbar, VbarGap, Rarrow}
use Rattle.ariadne_picture.specs.declared.cell.Ink.{Ink}
use Rattle.ariadne_picture.specs.Ranks.{Sheet, is_inline, gutter_labels, margin_label, line_labels}
use Rattle.ariadne_picture.specs.Rows.{Row, source, alternate, arrow, gap}
use Rattle.ariadne_picture.specs.Strokes.{bar_at}
use Rattle.ariadne_picture.specs.Cells.{margin_glyph, margin_ink, beside_ink, below_ink, turn_glyph, turn_ink, column_ink, ink_of}
use Rattle.ariadne_picture.specs.Pieces.{gutter_len}
use Rattle.ariadne_picture.proofs.Cells.InkCells.{IsLevel}
use Rattle.ariadne_picture.proofs.Parts.{has_bar}

-- a horizontal, or nothing
abbrev pub IsFree : Ink → Type 0
IsFree ink = (ink.first ≡ Blank) ⊎ (ink.first ≡ Hbar)

-- a number that is not less than another fails the test
not-less : (b c : ℕ) → c ≤ b → nat_lt b c ≡ false
not-less b c most = false_from_ne_true (nat_lt b c) (λ t. let less = ltb-true b c t in omega arith)

module _ (s : Sheet) where
  -- how many gutter labels there are; this is the number of the column of arrow heads
  abbrev last : ℕ
  last = length (gutter_labels s.labels)

  -- where there is a gutter label, the gutter has a column more than gutter labels
  pub gutter-some : (i : ℕ) (a : LabelInfo) → slice_get (gutter_labels s.labels) i ≡ Some a → gutter_len s ≡ last + 1
  unfolding gutter_len
  gutter-some i a e =
      let few = slice_get_within (gutter_labels s.labels) i a e in cond-false (last == 0) _ _ (ne_eqb last 0 (omega arith))

  -- no bar stands in the column of arrow heads, which is no gutter label's
  pub no-bar-last : (x : Row) → bar_at s x last ≡ false
  unfolding bar_at
  no-bar-last x = ap (has_bar s last x) (slice_get_past (gutter_labels s.labels) last (omega arith))

  -- ---- beside a source row

  module _ (l i : ℕ) where
    -- a bar there is a vertical
    pub bar-beside : bar_at s (source l) i ≡ true → (column_ink s (source l) i).first ≡ Vbar
    unfolding column_ink beside_ink
    bar-beside bar = rw bar refl

    -- without bar the margin label's stroke is there
    pub no-bar-beside : (m : LineLabel) → bar_at s (source l) i ≡ false → margin_label s.labels l ≡ Some m
        → column_ink s (source l) i ≡ margin_ink last i (Some m)
    unfolding column_ink beside_ink
    no-bar-beside m no_bar e = rw no_bar (ap (margin_ink last i) e)

    -- it leaves or enters its column
    pub leave-beside : (m : LineLabel) → bar_at s (source l) i ≡ false → margin_label s.labels l ≡ Some m → i < last → m.gutter_column ≡ i
        → (column_ink s (source l) i).first ≡ margin_glyph m.side
    unfolding margin_ink
    leave-beside m no_bar e less same =
        rw (no-bar-beside m no_bar e) (rw (ne_eqb i last (λ z. omega arith), eq-eqb m.gutter_column i same) refl)

    -- and crosses the columns behind it
    pub cross-beside : (m : LineLabel) → bar_at s (source l) i ≡ false → margin_label s.labels l ≡ Some m → i < last → m.gutter_column < i
        → (column_ink s (source l) i).first ≡ Hbar
    unfolding margin_ink
    cross-beside m no_bar e less more =
        rw (no-bar-beside m no_bar e)
        (rw (ne_eqb i last (λ z. omega arith), ne_eqb m.gutter_column i (λ z. omega arith), lt-ltb m.gutter_column i more) refl)

    -- from its column on it is level behind the first cell
    pub level-beside : (m : LineLabel) → bar_at s (source l) i ≡ false → margin_label s.labels l ≡ Some m → i < last → m.gutter_column ≤ i
        → (column_ink s (source l) i).rest ≡ Hbar
    unfolding margin_ink
    level-beside m no_bar e less from =
        rw (no-bar-beside m no_bar e) (elim (cases_lt m.gutter_column i) [
          | inl more ↦
              rw (ne_eqb i last (λ z. omega arith), ne_eqb m.gutter_column i (λ z. omega arith), lt-ltb m.gutter_column i more) refl
          | inr least ↦ rw (ne_eqb i last (λ z. omega arith), eq-eqb m.gutter_column i (omega arith)) refl
        ])

    -- so without bar and without margin label of its own a column is free
    pub free-beside : (m : Option LineLabel) → margin_label s.labels l ≡ m → bar_at s (source l) i ≡ false → i < last
        → ((x : LineLabel) → m ≡ Some x → x.gutter_column ≡ i → ⊥) → IsFree (column_ink s (source l) i)
    unfolding column_ink beside_ink margin_ink
    free-beside None e no_bar less other = inl (rw no_bar (rw e refl))
    free-beside (Some m) e no_bar less other = elim (cases_lt m.gutter_column i) [
      | inl more ↦ inr (cross-beside m no_bar e less more)
      | inr least ↦
          let differ = ne_eqb m.gutter_column i (other m refl) in
          inl (rw no_bar (rw e (rw (ne_eqb i last (λ z. omega arith), differ, not-less m.gutter_column i least) refl)))
    ]

  -- the last column has the arrow head, if there is a margin label
  pub head-beside : (l : ℕ) (m : LineLabel) → margin_label s.labels l ≡ Some m → (column_ink s (source l) last).first ≡ Rarrow
  unfolding margin_ink
  head-beside l m e =
      rw (no-bar-beside l last m (no-bar-last (source l)) e) (rw (eq-eqb last last refl) refl)

  -- and is free where there is none
  pub last-beside : (l : ℕ) (m : Option LineLabel) → margin_label s.labels l ≡ m
      → IsFree (column_ink s (source l) last) ⊎ ((column_ink s (source l) last).first ≡ Rarrow)
  unfolding column_ink beside_ink margin_ink
  last-beside l None e = inl (inl (rw (no-bar-last (source l)) (rw e refl)))
  last-beside l (Some m) e = inr (head-beside l m e)

  -- ---- in place of hidden lines, where no margin label is

  -- a bar there is a broken one
  pub bar-gap : (l i : ℕ) → bar_at s (gap l) i ≡ true → (column_ink s (gap l) i).first ≡ VbarGap
  unfolding column_ink beside_ink
  bar-gap l i bar = rw bar refl

  -- without bar the column is blank
  pub free-gap : (l i : ℕ) (m : Option LineLabel) → margin_label s.labels l ≡ m → is_some m ≡ false → bar_at s (gap l) i ≡ false
      → (column_ink s (gap l) i).first ≡ Blank
  unfolding column_ink beside_ink margin_ink
  free-gap l i None e n no_bar = rw no_bar (rw e refl)
  free-gap l i (Some m) e n no_bar = absurd (true≢false n)

  -- ---- in rows of line labels

  module _ (l r i : ℕ) where
    -- an alternate row has bars alone
    pub bar-alternate : bar_at s (alternate l r) i ≡ true → (column_ink s (alternate l r) i).first ≡ Vbar
    unfolding column_ink below_ink
    bar-alternate bar = rw bar refl

    -- and else it is blank
    pub free-alternate : bar_at s (alternate l r) i ≡ false → (column_ink s (alternate l r) i).first ≡ Blank
    unfolding column_ink below_ink
    free-alternate no_bar = rw no_bar refl

    module _ (x : LineLabel) (e : slice_get (line_labels s.labels l) r ≡ Some x) where
      -- the arrow row of a start or an end turns in its own column
      pub own-arrow : is_inline x.side ≡ false → x.gutter_column ≡ i → column_ink s (arrow l r) i ≡ ink_of (turn_glyph x.side) Hbar x.info
      unfolding column_ink turn_ink
      own-arrow out same = rw e (rw (out, eq-eqb x.gutter_column i same) refl)

      -- and is level behind it
      pub behind-arrow : is_inline x.side ≡ false → x.gutter_column < i
          → IsLevel (column_ink s (arrow l r) i).first × ((column_ink s (arrow l r) i).rest ≡ Hbar)
      unfolding column_ink turn_ink
      behind-arrow out more =
          rw e (rw (out, ne_eqb x.gutter_column i (λ z. omega arith), lt-ltb x.gutter_column i more)
          (cond_both (bar_at s (arrow l r) i && not s.switches.cross_gap) (ink_of Xbar Hbar x.info) (ink_of Hbar Hbar x.info)
          (λ ink. IsLevel ink.first × (ink.rest ≡ Hbar)) (λ _. (inr refl, refl)) (λ _. (inl refl, refl))))

      -- before it, and in that of a label within the line, bars go on
      pub bar-arrow : bar_at s (arrow l r) i ≡ true → (is_inline x.side ≡ true) ⊎ (i < x.gutter_column)
          → (column_ink s (arrow l r) i).first ≡ Vbar
      unfolding column_ink turn_ink below_ink
      bar-arrow bar (inl within) = rw e (rw within (rw bar refl))
      bar-arrow bar (inr more) = elim (cases_Bool (is_inline x.side)) [
        | inl within ↦ rw e (rw within (rw bar refl))
        | inr out ↦ rw e (rw (out, ne_eqb x.gutter_column i (λ z. omega arith), not-less x.gutter_column i (omega arith)) (rw bar refl))
      ]

      -- without bar and off its own column it is free
      pub free-arrow : bar_at s (arrow l r) i ≡ false → (is_inline x.side ≡ false → x.gutter_column ≡ i → ⊥) → IsFree (column_ink s (arrow l r) i)
      unfolding column_ink turn_ink below_ink
      free-arrow no_bar other = elim (cases_Bool (is_inline x.side)) [
        | inl within ↦ inl (rw e (rw within (rw no_bar refl)))
        | inr out ↦ elim (cases_lt x.gutter_column i) [
          | inl less ↦ inr (rw e (rw (out, ne_eqb x.gutter_column i (λ z. omega arith), lt-ltb x.gutter_column i less) (rw no_bar refl)))
          | inr least ↦ inl (rw e (rw (out, ne_eqb x.gutter_column i (other out), not-less x.gutter_column i least) (rw no_bar refl)))
        ]
      ]
