-- The rows of a line's labels: above each stands the source row of the line, and of each two, if not compact, the
-- second is an arrow row.
use Rattle.ariadne_picture.specs.ReadBack.Rows.{Known}
use Rattle.std.proofs.Common.{◌≡◌, ℕ, zero, suc, ◌+◌, ◌-◌, ◌%◌, false, List, [], ◌∷◌, ◌++◌, Some, refl, sym, ap, ◌∙◌, subst, arith}
use Rattle.std.proofs.Common.{inl, inr, ◌⊎◌, length}
use Rattle.std.specs.Prelude.{slice_get, slice_index_or}
use Rattle.std.specs.List.{enumerate_from}
use Rattle.std.proofs.lemmas.Bool.{cond_both, cases_Bool}
use Rattle.std.proofs.lemmas.Option.{slice_get_within, slice_get-get_or}
use Rattle.ariadne_picture.proofs.Rows.LoneRows.{lone-block, label-block}
use Rattle.ariadne_picture.specs.declared.label_info.LineLabel.{LineLabel}
use Rattle.ariadne_picture.specs.Lists.{joined}
use Rattle.ariadne_picture.specs.Ranks.{Sheet, line_labels}
use Rattle.ariadne_picture.specs.Rows.{Row, source, arrow, alternate, label_rows, is_lone}
use Rattle.ariadne_picture.specs.Pieces.{Section}
use Rattle.ariadne_picture.specs.ReadBack.Rows.{shows_line, line_row}
use Rattle.ariadne_picture.proofs.Lists.ListFacts.{none≢some, all-at}
use Rattle.ariadne_picture.proofs.Rows.LineBlock.{IsBlockRow, IsLoneRow, block-kinds}
use Rattle.ariadne_picture.proofs.Rows.RowOrder.{shown_rows}
use Rattle.ariadne_picture.proofs.Reading.Pictures.{Picture, rows_of, number, number-at}
use Rattle.ariadne_picture.proofs.Reading.ShownLine.{IsShownLine, source-row-is, block-row-is}
use Rattle.ariadne_picture.proofs.ReadingBack.RowKinds.{names_line, line-kind}
use Rattle.ariadne_picture.proofs.ReadingBack.RowPlaces.{last-is}

-- ---- of each two rows the second is an arrow row

-- row i of a block, counted from 0, is as it should be
abbrev pub IsPaired : ℕ → Row → Type 0
IsPaired i (arrow l r) = suc i % 2 ≡ 0
IsPaired i (alternate l r) = suc i % 2 ≡ 1
IsPaired i x = Unit {0}

paired-later : (i : ℕ) (y : Row) → IsPaired i y → IsPaired (suc (suc i)) y
paired-later i (arrow l r) h = omega (arith, h)
paired-later i (alternate l r) h = omega (arith, h)
paired-later i x h = tt

pair : (l a : ℕ) (y : Row) (later : List Row) → ((j : ℕ) → slice_get later j ≡ Some y → IsPaired j y)
    → (i : ℕ) → slice_get (alternate l a ∷ arrow l a ∷ later) i ≡ Some y → IsPaired i y
pair l a y later h zero e = let same : alternate l a ≡ y = cc in subst (IsPaired 0) same refl
pair l a y later h (suc zero) e = let same : arrow l a ≡ y = cc in subst (IsPaired 1) same refl
pair l a y later h (suc (suc j)) e = paired-later j y (h j e)

paired-rows : (l a : ℕ) (xs : List LineLabel) (i : ℕ) (y : Row) → slice_get (joined (label_rows false l) (enumerate_from a xs)) i ≡ Some y → IsPaired i y
unfolding joined label_rows
paired-rows l a [] i y e = absurd (none≢some y e)
paired-rows l a (x ∷ xs) i y e =
    cond_both x.info.has_message (alternate l a ∷ arrow l a ∷ []) []
    (λ front. slice_get (front ++ joined (label_rows false l) (enumerate_from (a + 1) xs)) i ≡ Some y → IsPaired i y)
    (λ _. pair l a y _ (λ j. paired-rows l (a + 1) xs j y) i) (λ _. paired-rows l (a + 1) xs i y) e

pub paired : (s : Sheet) (l i : ℕ) (y : Row) → s.switches.compact ≡ false → slice_get (shown_rows s l) i ≡ Some y → IsPaired i y
paired s l i y loose e = elim (cases_Bool (is_lone s l)) [
  | inl on ↦ alone (alternate l (length (line_labels s.labels l))) i refl (subst (λ t. slice_get t i ≡ Some y) (lone-block s l on) e)
  | inr off ↦
      paired-rows l 0 (line_labels s.labels l) i y
      (subst (λ b. slice_get (joined (label_rows b l) (enumerate_from 0 (line_labels s.labels l))) i ≡ Some y) loose
      (subst (λ t. slice_get t i ≡ Some y) (label-block s l off) e))
]
  where
    alone : (z : Row) (i : ℕ) → IsPaired 0 z → slice_get (z ∷ []) i ≡ Some y → IsPaired i y
    alone z zero first at = let same : z ≡ y = cc in subst (IsPaired 0) same first
    alone z (suc j) first at = absurd (none≢some y at)

-- ---- the row of the line

module _ (v : Picture) (sources : List Known) {g : ℕ} {s : Section} {l : ℕ} (h : IsShownLine v g s l) where
  -- no row of a block shows a line
  block-no-line : (i : ℕ) (y : Row) → slice_get (shown_rows s.sheet l) i ≡ Some y
      → shows_line (rows_of v) sources v.texts.switches (number v g s y) ≡ false
  block-no-line i y there =
      line-kind v sources (block-row-is v h i y there)
      ∙ no-name (all-at (λ y. IsBlockRow s.sheet l y ⊎ IsLoneRow s.sheet l y) _ i y there (block-kinds s.sheet l))
    where
      no-name : IsBlockRow s.sheet l y ⊎ IsLoneRow s.sheet l y → names_line y ≡ false
      no-name (inr b) = ap names_line b.1
      no-name (inl b) = elim b.kind [ inl e ↦ ap names_line e | inr e ↦ ap names_line e.0 ]

  -- so the last above a row of the block is the source row
  pub block-line : (i : ℕ) (y : Row) → slice_get (shown_rows s.sheet l) i ≡ Some y
      → line_row (rows_of v) sources v.texts.switches (number v g s y) ≡ number v g s (source l)
  unfolding line_row
  block-line i y there =
      let at = number-at v (block-row-is v h i y there) in
      let top = number-at v (source-row-is v h) in
      let few = slice_get_within (shown_rows s.sheet l) i y there in
      last-is (shows_line (rows_of v) sources v.texts.switches) (suc (number v g s y)) (number v g s (source l)) (omega (arith, at, top))
      (line-kind v sources (source-row-is v h)) (λ n low high.
      let j : ℕ = n - (number v g s (source l) + 1) in
      let z : Row = slice_index_or (shown_rows s.sheet l) j (source l) in
      let here : slice_get (shown_rows s.sheet l) j ≡ Some z = slice_get-get_or (shown_rows s.sheet l) j (source l) (omega (arith, at, top, few)) in
      let is = number-at v (block-row-is v h j z here) in
      let same : number v g s z ≡ n = omega (arith, is, top) in
      ap (shows_line (rows_of v) sources v.texts.switches) (sym same) ∙ block-no-line j z here)

  -- which stands as many rows above as the row's place says
  pub block-below : (i : ℕ) (y : Row) → slice_get (shown_rows s.sheet l) i ≡ Some y → number v g s y - number v g s (source l) ≡ suc i
  block-below i y there =
      let at = number-at v (block-row-is v h i y there) in let top = number-at v (source-row-is v h) in omega (arith, at, top)
