-- From its message each label within one line is led to its attach character, and its span is underlined.
use Rattle.std.proofs.Common.{◌≡◌, ℕ, ◌+◌, ◌-◌, ◌<◌, ◌≤◌, Bool, true, false, not, ◌&&◌, ◌||◌, List, [], ◌∷◌, Option, Some, refl, sym, ap, ◌∙◌}
use Rattle.std.proofs.Common.{arith, ◌==◌, nat_lt, inl, inr}
use Rattle.std.specs.Prelude.{slice_get, nat_le}
use Rattle.std.specs.List.{list_any, enumerate_from, best_of, position_or_len}
use Rattle.std.specs.Cmp.Derive.{both_true}
use Rattle.std.proofs.lemmas.Bool.{cond-true, cases_Bool, eq-eqb, eqb-true, ne_eqb, lt-ltb, le-leb, true≢false, not-true}
use Rattle.ariadne_picture.specs.Ranks.{Sheet}
use Rattle.ariadne_picture.specs.Rows.{is_lone}
use Rattle.ariadne_picture.proofs.Rows.LoneRows.{speaks, lone-block, lone-rank, label-block}
use Rattle.ariadne_picture.specs.declared.label_info.LabelInfo.{LabelInfo}
use Rattle.ariadne_picture.specs.declared.label_info.LineLabel.{LineLabel}
use Rattle.ariadne_picture.specs.declared.label_info.Side.TheVariants.{Inline}
use Rattle.ariadne_picture.specs.declared.cell.Ink.{Ink}
use Rattle.ariadne_picture.specs.Lists.{best, joined}
use Rattle.ariadne_picture.specs.Ranks.{gutter_labels, is_inline, is_on_one_line, is_margin, line_labels}
use Rattle.ariadne_picture.specs.Rows.{alternate, label_rows}
use Rattle.ariadne_picture.specs.Columns.{layout_of, places_to_end}
use Rattle.ariadne_picture.specs.Strokes.{is_crossed, holds, is_preferred, underlines_at, underline_at, underline_row, vertical_at}
use Rattle.ariadne_picture.specs.Cells.{corner_glyph, alternate_ink, alternate_place}
use Rattle.ariadne_picture.specs.Pieces.{Section}
use Rattle.ariadne_picture.specs.Canvas.{Cell}
use Rattle.ariadne_picture.specs.Placing.Cells.{is_blank}
use Rattle.ariadne_picture.specs.Placing.Group.{has_underlines}
use Rattle.ariadne_picture.specs.Placing.Rows.{holds_at_places}
use Rattle.ariadne_picture.specs.Placing.InlineTraces.{is_inline_traced, is_underlined, has_inline_traces}
use Rattle.ariadne_picture.proofs.Reading.PlaceCells.{holds-at, label-corner, label-level, label-traced, alternate-cell}
use Rattle.ariadne_picture.proofs.Lists.Elements.{Has, has-filter, all-from, list_all-true, left-true, right-true}
use Rattle.ariadne_picture.proofs.Labels.LabelsAtLine.{IsHere, IsInlineHere}
use Rattle.ariadne_picture.proofs.Labels.LineLabels.{multi-line}
use Rattle.ariadne_picture.proofs.Lists.ListFacts.{none≢some}
use Rattle.ariadne_picture.proofs.Rows.RowOrder.{shown_rows}
use Rattle.ariadne_picture.proofs.Cells.InkCells.{shows-something, underline-seen}
use Rattle.ariadne_picture.proofs.Reading.PlaceCounts.{ArePlaced, inline-end, column-place}
use Rattle.ariadne_picture.proofs.Reading.MessagePlaces.{IsMessage, MessagePlace, label-here, every-message, message-place, two-true}
use Rattle.ariadne_picture.proofs.Reading.Pictures.{rows_of, Picture, placing_of, read, number, every-group, source_row, number-at}
use Rattle.ariadne_picture.proofs.Reading.ShownLine.{IsShownLine, places_of, places-are, source-at, block-row-is, every-line}

-- a label within a line is no margin label
pub inline-off : (m : Option LineLabel) (x : LineLabel) → x.side ≡ Inline → is_margin m x ≡ false
unfolding is_margin is_inline
inline-off m x e = rw e refl

-- where there are elements, one is the best
best-some : {X : Type 0} (beats : X → X → Bool) (xs : List X) (x : X) → Has xs x → (b : X) × (best beats xs ≡ Some b)
unfolding best
best-some beats [] x h = absurd (none≢some x h.there)
best-some beats (y ∷ ys) x h = (best_of beats y ys, refl)

-- how many line labels stand before the first that has a message
abbrev pub silent : List LineLabel → ℕ
silent xs = position_or_len (λ (x : LineLabel). x.info.has_message) xs

-- the first row of a block is the alternate row of its first label that has a message
pub first-alternate : (l a : ℕ) (xs : List LineLabel) → list_any (λ (x : LineLabel). x.info.has_message) xs ≡ true
    → slice_get (joined (label_rows false l) (enumerate_from a xs)) 0 ≡ Some (alternate l (a + silent xs))
unfolding joined label_rows
first-alternate l a [] h = absurd (true≢false (sym h))
first-alternate l a (x ∷ xs) h = elim (cases_Bool x.info.has_message) [
  | inl m ↦ let z : a ≡ a + 0 = omega arith in rw m (ap (λ n. Some (alternate l n)) z)
  | inr n ↦
      let later = first-alternate l (a + 1) xs (rw n at h) in
      let e : a + 1 + silent xs ≡ a + (1 + silent xs) = omega arith in
      rw n (later ∙ ap (λ n. Some (alternate l n)) e)
]

left-of : (b c : Bool) → (b || c) ≡ true → c ≡ false → b ≡ true
left-of true c h off = refl
left-of false c h off = absurd (true≢false (sym h ∙ off))

-- so where underlines are drawn the first row of a block is the alternate row that has them
pub block-first : (s : Sheet) (l : ℕ) → s.switches.compact ≡ false → (list_any speaks (line_labels s.labels l) || is_lone s l) ≡ true
    → slice_get (shown_rows s l) 0 ≡ Some (alternate l (silent (line_labels s.labels l)))
block-first s l loose on = elim (cases_Bool (is_lone s l)) [
  | inl lone ↦ ap (λ t. slice_get t 0) (lone-block s l lone) ∙ ap (λ n. Some (alternate l n)) (sym (lone-rank s l lone))
  | inr off ↦
      let some = left-of (list_any speaks (line_labels s.labels l)) (is_lone s l) on off in
      let z : 0 + silent (line_labels s.labels l) ≡ silent (line_labels s.labels l) = omega arith in
      ap (λ t. slice_get t 0) (label-block s l off) ∙ ap (λ c. slice_get (joined (label_rows c l) (enumerate_from 0 (line_labels s.labels l))) 0) loose
      ∙ first-alternate l 0 (line_labels s.labels l) some ∙ ap (λ n. Some (alternate l n)) z
]

module _ (v : Picture) (placed : ArePlaced v) where
  -- ---- a label within a line

  -- the line label that shows it lies within the line
  pub shows-inline : {g : ℕ} {s : Section} {a : LabelInfo} → is_on_one_line a ≡ true → (h : MessagePlace v g s a)
      → IsInlineHere s.sheet a.end_line h.label
  shows-inline {g} {s} {a} one h = go (label-here s.sheet a.end_line h.rank h.label h.arrow_row.there)
    where
      several : slice_get (gutter_labels s.sheet.labels) h.label.gutter_column ≡ Some h.label.info → ⊥
      several owned = true≢false (sym one ∙ ap is_on_one_line (sym h.shows.info) ∙ multi-line s.sheet h.label.gutter_column h.label.info owned)

      go : IsHere s.sheet a.end_line h.label → IsInlineHere s.sheet a.end_line h.label
      go (inl k) = absurd (several k.owned)
      go (inr (inl k)) = absurd (several k.owned)
      go (inr (inr k)) = k

  -- its arrow row has its corner, behind it its horizontal, and its vertical stands above
  inline-traced : (g : ℕ) (s : Section) (a : LabelInfo) → IsMessage v g s a → is_on_one_line a ≡ true
      → read v is_inline_traced g s a ≡ true
  unfolding is_inline_traced is_on_one_line is_crossed corner_glyph
  inline-traced g s a m one =
      let h = message-place v m in
      let l = a.end_line in
      let x = h.label in
      let q = h.arrow_row in
      let k = shows-inline one h in
      let off = inline-off (layout_of s.sheet l).margin x k.side in
      let line : a.start_line ≡ l = eqb-true a.start_line l one in
      let column : a.attach ≡ x.place = cc in
      let few : x.place < places_of s l = column-place s.sheet (placed g s m.group) l h.rank x q.there (inr (inr k)) in
      let places = places-are v q.line in
      let corner = label-corner v q (ap corner_glyph k.side) few off in
      let level =
      label-level v q (x.place + 1) ((placing_of v).places g l) (omega (arith, places)) (λ c low high. (
        rw (ne_eqb x.place c (λ same. omega arith)) refl,
        ap (λ side. is_crossed side x.place c) k.side ∙ lt-ltb x.place c (omega arith),
      )) in
      rw (line, column, h.row) (both_true (both_true corner level) (label-traced v q off few))

  -- ---- underlines

  module _ (g : ℕ) (s : Section) (l : ℕ) (h : IsShownLine v g s l) where
    -- where a label's span holds a place, its underline stands there, or a better one
    underline-there : (i k : ℕ) (x : LineLabel) → slice_get (layout_of s.sheet l).labels i ≡ Some x → s.sheet.switches.underlines ≡ true
        → x.side ≡ Inline → x.info.start - (layout_of s.sheet l).offset ≤ k → k < x.info.end - (layout_of s.sheet l).offset
        → (u : LineLabel) × (underline_at s.sheet.switches (layout_of s.sheet l) (underline_row (layout_of s.sheet l)) k ≡ Some u)
    unfolding underline_at underlines_at holds is_inline
    underline-there i k x e on side low high =
        let y = layout_of s.sheet l in
        let holds : (nat_le x.info.start (y.offset + k) && nat_lt (y.offset + k) x.info.end) ≡ true =
        both_true (le-leb x.info.start (y.offset + k) (omega arith)) (lt-ltb (y.offset + k) x.info.end (omega arith)) in
        let some = has-filter _ y.labels i x e (both_true (ap is_inline side) holds) in
        let b = best-some (λ a b. is_preferred a.info b.info) (underlines_at y k) x some in
        let r = underline_row y in
        (b.0, cond-true (s.sheet.switches.underlines && (r == r)) _ _ (both_true on (eq-eqb r r refl)) ∙ b.1)

    -- right below the line each place in the span of a label is not blank
    abbrev seen_under : LineLabel → Bool
    seen_under x =
        let offset = (layout_of s.sheet l).offset in
        holds_at_places (rows_of v) (placing_of v) g s l (source_row v g l + 1) (x.info.start - offset) (x.info.end - offset)
        (λ c. not (is_blank c))

    -- each label within the line is underlined in the first row of the block
    span-seen : has_underlines s l ≡ true → (i : ℕ) (x : LineLabel) → slice_get (line_labels s.sheet.labels l) i ≡ Some x
        → IsInlineHere s.sheet l x → seen_under x ≡ true
    unfolding alternate_place places_to_end layout_of
    span-seen on i x e k =
        let y = layout_of s.sheet l in
        let switches = s.sheet.switches in
        let two = two-true (switches.underlines && not switches.compact) (list_any speaks y.labels || is_lone s.sheet l) on in
        let one = two-true switches.underlines (not switches.compact) two.0 in
        let r = underline_row y in
        let row : slice_get (shown_rows s.sheet l) 0 ≡ Some (alternate l r) =
        block-first s.sheet l (not-true switches.compact one.1) two.1 in
        let is = block-row-is v h 0 (alternate l r) row in
        let n = number-at v is in
        let src = source-at v h in
        let same : number v g s (alternate l r) ≡ source_row v g l + 1 = omega (arith, n, src) in
        let few : places_to_end y x < places_of s l = inline-end s.sheet (placed g s h.group) l i x e k in
        let seen = λ (c : Cell). not (is_blank c) in
        rw (← same)
        (holds-at v h (number v g s (alternate l r)) _ (x.info.end - y.offset) seen (omega arith) (λ c low high some.
        let u = underline-there i c x e one.0 k.side low high in
        let ink : Option LineLabel → Ink = alternate_ink v.texts.multiline_arrows r (vertical_at y r c) in
        rw (alternate-cell v is c (omega arith) some, u.1)
        (shows-something v s _ (ink (Some u.0)).first_paint (underline-seen v.texts.multiline_arrows r (vertical_at y r c) u.0))))

    -- so all labels of the line pass, as the others are not within it
    line-underlined : read v is_underlined g s l ≡ true
    unfolding is_underlined layout_of is_inline
    line-underlined = elim (cases_Bool (has_underlines s l)) [
      | inr off ↦ left-true _ _ (ap not off)
      | inl on ↦ right-true _ _ (list_all-true _ _ (all-from _ (line_labels s.sheet.labels l) (λ i x e. each on i x e (label-here s.sheet l i x e))))
    ]
      where
        each : has_underlines s l ≡ true → (i : ℕ) (x : LineLabel) → slice_get (line_labels s.sheet.labels l) i ≡ Some x → IsHere s.sheet l x
            → (not (is_inline x.side) || seen_under x) ≡ true
        each on i x e (inl k) = left-true _ _ (ap (λ side. not (is_inline side)) k.side)
        each on i x e (inr (inl k)) = left-true _ _ (ap (λ side. not (is_inline side)) k.side)
        each on i x e (inr (inr k)) = right-true _ _ (span-seen on i x e k)

  -- every report's picture has its inline traces
  pub inline-traces : read v has_inline_traces ≡ true
  unfolding has_inline_traces
  inline-traces =
      every-group v _ (λ g s e. both_true
      (list_all-true _ _ (every-message v g s _ e (λ a m. elim (cases_Bool (is_on_one_line a)) [
        | inl one ↦ right-true _ _ (inline-traced g s a m one)
        | inr several ↦ left-true _ _ (ap not several)
      ])))
      (list_all-true _ _ (every-line v g s _ e (line-underlined g s))))
