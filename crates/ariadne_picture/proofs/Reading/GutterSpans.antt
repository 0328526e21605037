-- Where a gutter label's bar stands: between the rows of its head and of its corner, and nowhere else.
use Rattle.std.proofs.Common.{◌≡◌, ℕ, ◌+◌, ◌<◌, ◌≤◌, true, false, Some, sym, ap, ◌∙◌, subst, arith, inl, inr, ◌⊎◌}
use Rattle.std.specs.Prelude.{slice_get}
use Rattle.std.proofs.lemmas.Bool.{cond-true, cases_Bool, true≢false, false_from_ne_true}
use Rattle.ariadne_picture.specs.declared.label_info.LabelInfo.{LabelInfo}
use Rattle.ariadne_picture.specs.declared.label_info.LineLabel.{LineLabel}
use Rattle.ariadne_picture.specs.Ranks.{is_inline, gutter_labels, line_labels}
use Rattle.ariadne_picture.specs.Rows.{Row, arrow}
use Rattle.ariadne_picture.specs.Strokes.{is_at_margin, first_row, last_row, has_tee, bar_at}
use Rattle.ariadne_picture.specs.Pieces.{Section}
use Rattle.ariadne_picture.proofs.Labels.LabelsAtLine.{IsHere}
use Rattle.ariadne_picture.proofs.Rows.BarCases.{between-bar, bar-between}
use Rattle.ariadne_picture.proofs.Rows.GutterLabelRows.{first-at-arrow, last-at-arrow}
use Rattle.ariadne_picture.proofs.Reading.EndTraces.{its-message, its-end}
use Rattle.ariadne_picture.proofs.Reading.HeadPlaces.{IsGutterLabelOf, margin-line, head-at-margin, head-place}
use Rattle.ariadne_picture.proofs.Reading.InOrder.{in-order, by-order, same-place}
use Rattle.ariadne_picture.proofs.Reading.MessagePlaces.{label-here}
use Rattle.ariadne_picture.proofs.Reading.Pictures.{Picture, RowAt, message_row, head_row, start_of, number-at}
use Rattle.ariadne_picture.proofs.Reading.ShownLine.{IsArrowRow, arrow-at, source-row-is}

-- the head of gutter label i and the corner of its end stand at these places of their group
pub record IsSpan (v : Picture) (g : ℕ) (s : Section) (i : ℕ) (a : LabelInfo) : Type 0 where
  pub from : ℕ
  pub to : ℕ
  pub top : RowAt v g s from (first_row s.sheet i a)
  pub foot : RowAt v g s to (last_row s.sheet i a)
  pub head : head_row v g i ≡ start_of v g + from
  pub message : message_row v a.position ≡ start_of v g + to

module _ (v : Picture) {g : ℕ} {s : Section} {i : ℕ} {a : LabelInfo} (o : IsGutterLabelOf v g s i a) where
  -- the rows of its head and of its end are those where its bar begins and ends
  pub span : IsSpan v g s i a
  unfolding first_row
  span =
      let h = its-message v o in
      let q = its-end v o h in
      let is = arrow-at v h.arrow_row in
      let at = last-at-arrow s.sheet i h.rank a
      (record { label = h.label; there = h.arrow_row.there; same_side = q.0.side; same_gutter_column = q.1 }) in
      record {
        from = top.0;
        to = _;
        top = top.1;
        foot = subst (RowAt v g s _) (sym at) is;
        head = top.2;
        message = h.row ∙ number-at v is;
      }
    where
      top : (k : ℕ) × RowAt v g s k (first_row s.sheet i a) × (head_row v g i ≡ start_of v g + k)
      top = elim (cases_Bool (is_at_margin s.sheet a.start_line i)) [
        | inl at ↦
            let is = source-row-is v (margin-line v o at) in
            (_, subst (RowAt v g s _) (sym (cond-true _ _ _ at)) is, head-at-margin v o at ∙ number-at v is)
        | inr off ↦
            let h = head-place v o off in
            let is = arrow-at v h.arrow_row in
            let at = first-at-arrow s.sheet i h.rank a
            (record { label = h.label; there = h.arrow_row.there; same_side = h.start.side; same_gutter_column = h.gutter_column }) in
            (_, subst (RowAt v g s _) (sym at) is, h.row ∙ number-at v is)
      ]

  module _ (h : IsSpan v g s i a) {k : ℕ} where
    -- ---- where its bar stands

    -- between the two, but for its tee
    pub bar-inside : (x : Row) → RowAt v g s k x → h.from < k → k < h.to → has_tee s.sheet a i x ≡ false → bar_at s.sheet x i ≡ true
    bar-inside x is low high tee =
        between-bar s.sheet x i a o.owned (record { after = in-order v h.top is low; until = in-order v is h.foot high; no_tee = tee })

    -- and nowhere else
    pub bar-outside : (x : Row) → RowAt v g s k x → (k ≤ h.from) ⊎ (h.to ≤ k) → bar_at s.sheet x i ≡ false
    bar-outside x is out = false_from_ne_true _ (λ on.
        let b = bar-between s.sheet x i a o.owned on in
        let low = by-order v h.top is b.after in
        let high = by-order v is h.foot b.until in
        elim out [ inl below ↦ omega arith | inr above ↦ omega arith ])

    -- the arrow row of its start or end is its head's or its corner's
    pub own-place : {l r : ℕ} {x : LineLabel} → IsArrowRow v g s l r x → RowAt v g s k (arrow l r) → is_inline x.side ≡ false
        → x.gutter_column ≡ i → (k ≡ h.from) ⊎ (k ≡ h.to)
    unfolding is_inline
    own-place {l} {r} {x} q is out same = go (label-here s.sheet l r x q.there)
      where
        info : slice_get (gutter_labels s.sheet.labels) x.gutter_column ≡ Some x.info → x.info ≡ a
        info owned = cc

        there : {m : ℕ} → m ≡ l → slice_get (line_labels s.sheet.labels m) r ≡ Some x
        there e = cc

        go : IsHere s.sheet l x → (k ≡ h.from) ⊎ (k ≡ h.to)
        go (inl b) =
            let line : a.start_line ≡ l = cc (info b.owned) in
            let row = first-at-arrow s.sheet i r a
            (record { label = x; there = there line; same_side = b.side; same_gutter_column = same }) ∙ ap (λ l. arrow l r) line in
            inl (same-place v is (rw row at h.top))
        go (inr (inl b)) =
            let line : a.end_line ≡ l = cc (info b.owned) in
            let row = last-at-arrow s.sheet i r a
            (record { label = x; there = there line; same_side = b.side; same_gutter_column = same }) ∙ ap (λ l. arrow l r) line in
            inr (same-place v is (rw row at h.foot))
        go (inr (inr b)) = absurd (true≢false (ap is_inline (sym b.side) ∙ out))
