-- The bars of a gutter as the lines of its group are gone through. None stands above the first line. The rows of a line show those that stand. From
-- one row to the next a bar is set where its gutter label starts, and taken out where it ends.
use Rattle.std.proofs.Common.{◌≡◌, ◌≢◌, ℕ, zero, suc, ◌+◌, ◌-◌, ◌<◌, ◌≤◌, Bool, true, false, not, ◌==◌, length, replicate, Some, None}
use Rattle.std.proofs.Common.{refl, sym, ap, ◌∙◌, subst, arith, ◌⊎◌, inl, inr}
use Rattle.std.specs.Prelude.{slice_get, slice_set, slice_index_or, IfSome, Option}
use Rattle.std.specs.List.{AllByRecursion}
use Rattle.std.proofs.lemmas.Bool.{ne_eqb, and_right, false_from_ne_true}
use Rattle.std.proofs.lemmas.Bool.Decides.{nat_tests}
use Rattle.std.proofs.lemmas.List.{length-map}
use Rattle.std.proofs.lemmas.Option.{slice_get_cases, slice_get_within}
use Rattle.ariadne_picture.specs.declared.label_info.LabelInfo.{LabelInfo}
use Rattle.ariadne_picture.specs.declared.label_info.LineLabel.{LineLabel}
use Rattle.ariadne_picture.specs.declared.label_info.Side.TheVariants.{Starts, Ends}
use Rattle.ariadne_picture.specs.Lists.{mapped_numbered}
use Rattle.ariadne_picture.specs.Ranks.{Sheet, gutter_labels, is_start, is_inline, line_labels, margin_label, is_of_gutter_label, is_unlabelled, first_line}
use Rattle.ariadne_picture.specs.Rows.{Row, source, alternate, arrow, gap}
use Rattle.ariadne_picture.specs.Strokes.{is_at_margin, bar_at}
use Rattle.ariadne_picture.specs.Bars.{EndsNoEarlier, IsGutterLabel}
use Rattle.ariadne_picture.proofs.Labels.LineLabels.{margin-is}
use Rattle.ariadne_picture.proofs.Lists.ListFacts.{all-at, all-weaker}
use Rattle.ariadne_picture.proofs.Rows.BarCases.{starts-margin}
use Rattle.ariadne_picture.proofs.Rows.RowsThere.{all-gutter-labels, gutter-label-message, starts-shown}
use Rattle.ariadne_render.specs.Gutters.{GutterFields, is_beside, is_below, bar_in, IsOfSheet, IsBeside, IsBelow}
use Rattle.ariadne_render.proofs.RowBars.{HasBarsOf, is_own_column, owns_column}
use Rattle.ariadne_render.proofs.BarBits.{label-end, source-bar, gap-bar, alternate-bar, arrow-bar, first-rank-bar, margin-bar, next-rank-bar, own-bar}
use Rattle.ariadne_render.proofs.BarBits.{next-line-bar, unlabelled-bar}
use Rattle.ariadne_render.proofs.Numbered.{length-numbered, numbered-at, numbered-from_map, numbered-same, numbered-set, map-constant}

-- where all labels end no earlier than they start, each gutter label does
gutter-label : (s : Sheet) (i : ℕ) (a : LabelInfo) → AllByRecursion EndsNoEarlier s.labels → slice_get (gutter_labels s.labels) i ≡ Some a
    → IsGutterLabel s i a
gutter-label s i a rise e = record { owned = e; rises = all-at EndsNoEarlier (gutter_labels s.labels) i a e (all-gutter-labels EndsNoEarlier s rise) }

-- the bars beside a line, by number
beside-numbered : (s : Sheet) (l : ℕ) (g : GutterFields) → IsBeside s l g → g.bars ≡ mapped_numbered (λ i. is_beside l) (gutter_labels s.labels)
beside-numbered s l g b = b.bars ∙ numbered-from_map (is_beside l) (gutter_labels s.labels)

-- ---- above the first line

-- no gutter label starts above the first line of its group
pub first-line : (s : Sheet) (g : GutterFields) → IsOfSheet s g → g.bars ≡ replicate (length (gutter_labels s.labels)) false
    → IsBeside s (first_line s) g
unfolding is_beside
first-line s g sheet bars =
    let l = first_line s in
    let starts = all-gutter-labels (λ a. l ≤ a.start_line) s (starts-shown s) in
    record {
      sheet = sheet;
      bars =
          bars ∙ map-constant (is_beside l) false (gutter_labels s.labels)
          (all-weaker (λ a. l ≤ a.start_line) (λ a. is_beside l a ≡ false) (gutter_labels s.labels) (λ a h. grind (arith, nat_tests)) starts);
    }

-- ---- the rows of a line

-- a gutter has the bars of a row if each of its bars is that of the row, but in the column of the row's own label
row-bars : (s : Sheet) (x : Row) (f : ℕ → LabelInfo → Bool) (g : GutterFields) → IsOfSheet s g → g.bars ≡ mapped_numbered f (gutter_labels s.labels)
    → ((i : ℕ) (a : LabelInfo) → slice_get (gutter_labels s.labels) i ≡ Some a → owns_column s x i ≡ false → f i a ≡ bar_at s x i) → HasBarsOf s x g
unfolding bar_in
row-bars s x f g sheet bars same = record {
  sheet = sheet;
  len = ap length bars ∙ length-numbered f (gutter_labels s.labels);
  bars = λ i less off. elim (slice_get_cases (gutter_labels s.labels) i).1 [
    | inl h ↦ ap (λ bs. slice_index_or bs i false) bars ∙ numbered-at f (gutter_labels s.labels) i h.0 false h.2 ∙ same i h.0 h.2 off
    | inr h ↦ let past = h.0 in absurd (omega arith)
  ];
}

-- those of the source row are those beside its line
pub beside-source : (s : Sheet) (l : ℕ) (g : GutterFields) → AllByRecursion EndsNoEarlier s.labels → IsBeside s l g → HasBarsOf s (source l) g
unfolding owns_column
beside-source s l g rise b =
    row-bars s (source l) (λ i. is_beside l) g b.sheet (beside-numbered s l g b) (λ i a e off. source-bar s l i a (gutter-label s i a rise e) off)

-- and so are those of the gap row in its place
pub beside-gap : (s : Sheet) (l : ℕ) (g : GutterFields) → AllByRecursion EndsNoEarlier s.labels → IsBeside s l g → HasBarsOf s (gap l) g
beside-gap s l g rise b =
    row-bars s (gap l) (λ i. is_beside l) g b.sheet (beside-numbered s l g b) (λ i a e off. gap-bar s l i a (gutter-label s i a rise e))

-- those of the alternate row of rank r are those of `is_below`
pub below-alternate : (s : Sheet) (l r : ℕ) (g : GutterFields) → AllByRecursion EndsNoEarlier s.labels → IsBelow s l r g → HasBarsOf s (alternate l r) g
below-alternate s l r g rise b =
    row-bars s (alternate l r) (is_below s l r) g b.sheet b.bars (λ i a e off. alternate-bar s l i a (gutter-label s i a rise e) r)

-- and so are those of the arrow row
pub below-arrow : (s : Sheet) (l r : ℕ) (g : GutterFields) → AllByRecursion EndsNoEarlier s.labels → IsBelow s l r g → HasBarsOf s (arrow l r) g
below-arrow s l r g rise b =
    row-bars s (arrow l r) (is_below s l r) g b.sheet b.bars (λ i a e off. arrow-bar s l i a (gutter-label s i a rise e) r off)

-- ---- from the source row to the rows of rank 0

-- a margin label that is no start is an end
pub margin-ends : (s : Sheet) (l : ℕ) (m : LineLabel) → margin_label s.labels l ≡ Some m → m.side ≢ Starts → m.side ≡ Ends
margin-ends s l m there other = elim (margin-is s l m there).there [ inl h ↦ absurd (other h.0) | inr h ↦ h.0 ]

-- where the margin label is an end, or there is none, the bars stay
pub beside-below : (s : Sheet) (l : ℕ) (g : GutterFields) → AllByRecursion EndsNoEarlier s.labels → IsBeside s l g
    → (margin_label s.labels l ≡ None) ⊎ ((m : LineLabel) × (margin_label s.labels l ≡ Some m) × (m.side ≡ Ends)) → IsBelow s l 0 g
beside-below s l g rise b margin = record {
  sheet = b.sheet;
  bars =
      beside-numbered s l g b
      ∙ numbered-same (λ i. is_beside l) (is_below s l 0) (gutter_labels s.labels)
      (λ i a e. let m = gutter-label s i a rise e in sym (first-rank-bar s l i a m (no-start i a m)));
}
  where
    no-start : (i : ℕ) (a : LabelInfo) → IsGutterLabel s i a → a.start_line ≡ l → is_at_margin s l i ≡ false
    no-start i a m here = false_from_ne_true (is_at_margin s l i) (λ t.
        let start = starts-margin s i a m l here t in
        let there = start.there in
        let side = start.same_side in
        elim margin [ inl none ↦ cc | inr end ↦ let other = end.1 in let ends = end.2 in cc ])

-- the margin label has no other column than its own
other-margin : (s : Sheet) (l : ℕ) (m : LineLabel) (i : ℕ) → margin_label s.labels l ≡ Some m → i ≢ m.gutter_column → is_at_margin s l i ≡ false
unfolding is_of_gutter_label
other-margin s l m i there off = rw there (ne_eqb m.gutter_column i (λ at. off (sym at)))

-- so where it is a start, its bar begins, and the other bars stay
pub beside-below_start : (s : Sheet) (l : ℕ) (m : LineLabel) (g h : GutterFields) → AllByRecursion EndsNoEarlier s.labels → IsBeside s l g
    → margin_label s.labels l ≡ Some m → m.side ≡ Starts → h ≡ record g { bars = slice_set g.bars m.gutter_column true } → IsBelow s l 0 h
beside-below_start s l m g h rise b there side e = subst (IsBelow s l 0) (sym e) (record {
  sheet = record { switches = b.sheet.switches; positions = b.sheet.positions };
  bars =
      ap (λ bars. slice_set bars m.gutter_column true) (beside-numbered s l g b)
      ∙ numbered-set (λ i. is_beside l) (is_below s l 0) (gutter_labels s.labels) m.gutter_column true
      (λ i a e off. sym (first-rank-bar s l i a (gutter-label s i a rise e) (λ _. other-margin s l m i there off)))
      (λ i a e at. sym (margin-bar s l i a (gutter-label s i a rise e)
      (record { label = m; there = there; same_side = side; same_gutter_column = sym at })));
})

-- ---- from the rows of one rank to those of the next

-- below a label within the line the bars stay
pub below-next_inline : (s : Sheet) (l r : ℕ) (x : LineLabel) (g : GutterFields) → AllByRecursion EndsNoEarlier s.labels → IsBelow s l r g
    → slice_get (line_labels s.labels l) r ≡ Some x → is_inline x.side ≡ true → IsBelow s l (r + 1) g
unfolding owns_column is_own_column
below-next_inline s l r x g rise b there inline =
    let other : (i : ℕ) → owns_column s (arrow l r) i ≡ false = λ i. rw (there, inline) refl in
    record {
      sheet = b.sheet;
      bars =
          b.bars
          ∙ numbered-same (is_below s l r) (is_below s l (r + 1)) (gutter_labels s.labels)
          (λ i a e. sym (next-rank-bar s l i a (gutter-label s i a rise e) r (other i)));
    }

-- the arrow row of a line label has no other column than its own
other-column : (s : Sheet) (l r : ℕ) (x : LineLabel) (i : ℕ) → slice_get (line_labels s.labels l) r ≡ Some x → i ≢ x.gutter_column
    → owns_column s (arrow l r) i ≡ false
unfolding owns_column is_own_column
other-column s l r x i there off = rw there (and_right (not (is_inline x.side)) (x.gutter_column == i) (ne_eqb x.gutter_column i (λ at. off (sym at))))

-- so below a start its bar begins, below an end it has ended, and the other bars stay
pub below-next : (s : Sheet) (l r : ℕ) (x : LineLabel) (g h : GutterFields) → AllByRecursion EndsNoEarlier s.labels → IsBelow s l r g
    → slice_get (line_labels s.labels l) r ≡ Some x → is_inline x.side ≡ false
    → h ≡ record g { bars = slice_set g.bars x.gutter_column (is_start x.side) } → IsBelow s l (r + 1) h
below-next s l r x g h rise b there out e = subst (IsBelow s l (r + 1)) (sym e) (record {
  sheet = record { switches = b.sheet.switches; positions = b.sheet.positions };
  bars =
      ap (λ bars. slice_set bars x.gutter_column (is_start x.side)) b.bars
      ∙ numbered-set (is_below s l r) (is_below s l (r + 1)) (gutter_labels s.labels) x.gutter_column (is_start x.side)
      (λ i a e off. sym (next-rank-bar s l i a (gutter-label s i a rise e) r (other-column s l r x i there off)))
      (λ i a e at. own-bar s l i a (gutter-label s i a rise e) r x.side
      (record { label = x; there = there; same_side = refl; same_gutter_column = sym at }) out);
})

-- ---- from one line to the next

-- below the last line label of a line the bars are those beside the next line
pub below-beside : (s : Sheet) (l : ℕ) (g : GutterFields) → AllByRecursion EndsNoEarlier s.labels → IsBelow s l (length (line_labels s.labels l)) g
    → IsBeside s (l + 1) g
below-beside s l g rise b = record {
  sheet = b.sheet;
  bars =
      b.bars
      ∙ numbered-same (is_below s l (length (line_labels s.labels l))) (λ i. is_beside (l + 1)) (gutter_labels s.labels)
      (λ i a e. next-line-bar s l i a (gutter-label s i a rise e))
      ∙ sym (numbered-from_map (is_beside (l + 1)) (gutter_labels s.labels));
}

-- those beside a line without labels are too, since nothing starts or ends there
unlabelled-beside : (s : Sheet) (l : ℕ) (g : GutterFields) → AllByRecursion EndsNoEarlier s.labels → IsBeside s l g → is_unlabelled s.labels l ≡ true
    → IsBeside s (l + 1) g
unlabelled-beside s l g rise b bare = record {
  sheet = b.sheet;
  bars =
      beside-numbered s l g b
      ∙ numbered-same (λ i. is_beside l) (λ i. is_beside (l + 1)) (gutter_labels s.labels)
      (λ i a e. unlabelled-bar s l i a (gutter-label s i a rise e) bare)
      ∙ sym (numbered-from_map (is_beside (l + 1)) (gutter_labels s.labels));
}

-- and so are those beside the line below a run of such lines
pub unlabelled-run : (s : Sheet) (l m : ℕ) (g : GutterFields) → AllByRecursion EndsNoEarlier s.labels → IsBeside s l g
    → ((j : ℕ) → l ≤ j → j < m → is_unlabelled s.labels j ≡ true) → l ≤ m → IsBeside s m g
unlabelled-run s l m g rise b bare up =
    let whole : l + (m - l) ≡ m = omega arith in subst (λ k. IsBeside s k g) whole (run (m - l) (omega arith))
  where
    run : (d : ℕ) → l + d ≤ m → IsBeside s (l + d) g
    run zero h = let z : l ≡ l + 0 = omega arith in subst (λ k. IsBeside s k g) z b
    run (suc d) h =
        let next : l + d + 1 ≡ l + suc d = omega arith in
        subst (λ k. IsBeside s k g) next (unlabelled-beside s (l + d) g rise (run d (omega arith)) (bare (l + d) (omega arith) (omega arith)))

-- ---- the columns of starts and ends

-- a line label that is a start or an end has the column of a bar
pub column-within : (s : Sheet) (l r : ℕ) (x : LineLabel) (g : GutterFields) → IsBelow s l r g → slice_get (line_labels s.labels l) r ≡ Some x
    → is_inline x.side ≡ false → x.gutter_column < length g.bars
column-within s l r x g b there out =
    let within = slice_get_within (gutter_labels s.labels) x.gutter_column x.info (label-end s l r x there out).owned in
    let n : length g.bars ≡ length (gutter_labels s.labels) = ap length b.bars ∙ length-numbered (is_below s l r) (gutter_labels s.labels) in
    omega arith

-- and so has the margin label
pub margin-column-within : (s : Sheet) (l : ℕ) (m : LineLabel) (g : GutterFields) → IsBeside s l g → margin_label s.labels l ≡ Some m
    → m.gutter_column < length g.bars
margin-column-within s l m g b there =
    let within = slice_get_within (gutter_labels s.labels) m.gutter_column m.info (margin-is s l m there).owned in
    let n : length g.bars ≡ length (gutter_labels s.labels) = ap length b.bars ∙ length-map (gutter_labels s.labels) (is_beside l) in
    omega arith

-- if the line has one
pub margin-column : (s : Sheet) (l : ℕ) (g : GutterFields) → IsBeside s l g → (m : Option LineLabel) → margin_label s.labels l ≡ m
    → IfSome m (λ x. x.gutter_column < length g.bars)
margin-column s l g b None e = tt
margin-column s l g b (Some m) e = margin-column-within s l m g b e

-- a line label that is a start or an end has a message
pub end-message : (s : Sheet) (l r : ℕ) (x : LineLabel) → slice_get (line_labels s.labels l) r ≡ Some x → is_inline x.side ≡ false
    → x.info.has_message ≡ true
end-message s l r x there out = gutter-label-message s x.gutter_column x.info (label-end s l r x there out).owned
