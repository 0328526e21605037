-- The row of a label within one line, place by place: what stands left of its corner, and from there on. And what a stroke of a trace is.
use Rattle.std.proofs.Common.{◌≡◌, ℕ, zero, suc, ◌+◌, ◌-◌, ◌<◌, ◌≤◌, Bool, true, false, not, ◌&&◌, List, [], ◌∷◌}
use Rattle.std.proofs.Common.{Option, Some, None, refl, sym, ap, ◌∙◌, subst, arith, ◌==◌, inl, inr, ◌⊎◌}
use Rattle.std.specs.Prelude.{slice_get, nat_le}
use Rattle.std.specs.List.{list_all}
use Rattle.std.specs.Cmp.Derive.{both_true}
use Rattle.std.proofs.lemmas.Bool.{cond_both, cases_lt, eq-eqb, eqb-true, ne_eqb, lt-ltb, le-ltb}
use Rattle.ariadne_picture.specs.declared.switches.CharSet.{CharSet}
use Rattle.ariadne_picture.specs.declared.switches.CharSet.TheVariants.{Unicode, Ascii}
use Rattle.ariadne_picture.specs.declared.switches.Switches.{Switches}
use Rattle.ariadne_picture.specs.declared.label_info.LabelInfo.{LabelInfo}
use Rattle.ariadne_picture.specs.declared.label_info.LineLabel.{LineLabel}
use Rattle.ariadne_picture.specs.declared.label_info.Side.TheVariants.{Inline}
use Rattle.ariadne_picture.specs.declared.cell.Glyph.{Glyph}
use Rattle.ariadne_picture.specs.declared.cell.Glyph.TheVariants.{Blank, Hbar, Vbar, Xbar, Lbot, Rbot, Mbot, Uarrow, Underbar}
use Rattle.ariadne_picture.specs.declared.cell.Ink.{Ink}
use Rattle.ariadne_picture.specs.Ranks.{gutter_labels}
use Rattle.ariadne_picture.specs.Columns.{Layout, layout_of, width, column_of}
use Rattle.ariadne_picture.specs.Strokes.{is_crossed, vertical_at}
use Rattle.ariadne_picture.specs.Cells.{glyph_code, arrow_ink, corner_glyph}
use Rattle.ariadne_picture.specs.Pieces.{Section, glyph_text}
use Rattle.ariadne_picture.specs.Canvas.{Cell}
use Rattle.ariadne_picture.specs.Placing.Cells.{is_text, is_glyph, is_level}
use Rattle.ariadne_picture.specs.Placing.Group.{messages_of}
use Rattle.ariadne_picture.specs.Causes.{Trace, is_upright, is_stroke_of}
use Rattle.ariadne_picture.proofs.Lists.ListFacts.{all-at}
use Rattle.ariadne_picture.proofs.Lists.Elements.{Has, has-filter}
use Rattle.ariadne_picture.proofs.Labels.LabelsAtLine.{gutter-labels-owned}
use Rattle.ariadne_picture.proofs.Rows.RowsThere.{gutter-label-message}
use Rattle.ariadne_picture.proofs.Cells.InkCells.{level-ink}
use Rattle.ariadne_picture.proofs.Reading.InlineTraces.{inline-off}
use Rattle.ariadne_picture.proofs.Reading.MessagePlaces.{two-true}
use Rattle.ariadne_picture.proofs.Reading.Pictures.{Picture}
use Rattle.ariadne_picture.proofs.Reading.ShownLine.{IsArrowRow}
use Rattle.ariadne_picture.proofs.OneReading.LinesFound.{list_all-from}
use Rattle.ariadne_picture.proofs.OneReading.MessagesFound.{or-cases}
use Rattle.ariadne_picture.proofs.Parts.{has_corner, arrow_ink_by}

-- ---- columns

module _ (switches : Switches) (y : Layout) where
  pub column-next : (k : ℕ) → column_of switches y (suc k) ≡ column_of switches y k + width switches y k
  unfolding column_of width
  column-next k = refl

  column-rises : (k d : ℕ) → column_of switches y k ≤ column_of switches y (k + d)
  column-rises k zero = let z : k ≡ k + 0 = omega arith in let same = ap (column_of switches y) z in omega (arith, same)
  column-rises k (suc d) =
      let z : suc (k + d) ≡ k + suc d = omega arith in
      let same = ap (column_of switches y) z in
      let more = column-rises k d in
      let next = column-next (k + d) in
      omega (arith, same, more, next)

  -- a later place begins no earlier
  pub column-le : (k m : ℕ) → k ≤ m → column_of switches y k ≤ column_of switches y m
  column-le k m h =
      let z : k + (m - k) ≡ m = omega arith in
      let same = ap (column_of switches y) z in
      let rise = column-rises k (m - k) in
      omega (arith, same, rise)

  -- between two columns a place has a cell
  pub record SomeCell (a b : ℕ) : Type 0 where
    pub place : ℕ
    pub low : a ≤ place
    pub high : place < b
    pub some : 0 < width switches y place

  some-cell : (a n : ℕ) → column_of switches y a < column_of switches y (a + n) → SomeCell a (a + n)
  some-cell a zero h =
      let z : a + 0 ≡ a = omega arith in let same = ap (column_of switches y) z in absurd (omega (arith, same))
  some-cell a (suc n) h = elim (cases_lt 0 (width switches y a)) [
    | inl some ↦ record { place = a; low = omega arith; high = omega arith; some = some }
    | inr none ↦
        let z : a + suc n ≡ suc a + n = omega arith in
        let same = ap (column_of switches y) z in
        let next = column-next a in
        let rest = some-cell (suc a) n (omega (arith, same, next)) in
        let low = rest.low in
        let high = rest.high in
        record { place = rest.place; low = omega arith; high = omega arith; some = rest.some }
  ]

  pub cell-between : (a b : ℕ) → column_of switches y a < column_of switches y b → SomeCell a b
  cell-between a b h = elim (cases_lt a b) [
    | inl less ↦
        let z : a + (b - a) ≡ b = omega arith in
        subst (SomeCell a) z (some-cell a (b - a) (let same = ap (column_of switches y) z in omega (arith, same)))
    | inr more ↦ let fall = column-le b a more in absurd (omega arith)
  ]

-- ---- glyphs

abbrev pub shows : CharSet → Glyph → Glyph → Bool
shows set glyph other = is_text (glyph_text set glyph) (glyph_text set other)

-- what stands left of a label's corner in its row
abbrev pub IsLeft : Glyph → Type 0
IsLeft glyph = (glyph ≡ Uarrow) ⊎ ((glyph ≡ Vbar) ⊎ (glyph ≡ Blank))

-- is neither a corner nor level
pub record IsNoOwn (set : CharSet) (glyph : Glyph) : Type 0 where
  pub no_lbot : shows set glyph Lbot ≡ false
  pub no_hbar : shows set glyph Hbar ≡ false
  pub no_xbar : shows set glyph Xbar ≡ false

pub left-no-own : (set : CharSet) (glyph : Glyph) → IsLeft glyph → IsNoOwn set glyph
unfolding glyph_text glyph_code lib.Utf8.encode
left-no-own Unicode glyph (inl e) = subst (IsNoOwn Unicode) (sym e) (record { no_lbot = refl; no_hbar = refl; no_xbar = refl })
left-no-own Ascii glyph (inl e) = subst (IsNoOwn Ascii) (sym e) (record { no_lbot = refl; no_hbar = refl; no_xbar = refl })
left-no-own Unicode glyph (inr (inl e)) = subst (IsNoOwn Unicode) (sym e) (record { no_lbot = refl; no_hbar = refl; no_xbar = refl })
left-no-own Ascii glyph (inr (inl e)) = subst (IsNoOwn Ascii) (sym e) (record { no_lbot = refl; no_hbar = refl; no_xbar = refl })
left-no-own Unicode glyph (inr (inr e)) = subst (IsNoOwn Unicode) (sym e) (record { no_lbot = refl; no_hbar = refl; no_xbar = refl })
left-no-own Ascii glyph (inr (inr e)) = subst (IsNoOwn Ascii) (sym e) (record { no_lbot = refl; no_hbar = refl; no_xbar = refl })

-- what stands at a label's corner and behind it
abbrev pub IsOwn : Glyph → Type 0
IsOwn glyph = (glyph ≡ Lbot) ⊎ ((glyph ≡ Hbar) ⊎ (glyph ≡ Xbar))

-- is no blank, no vertical and no corner of a label over several lines
pub record IsOwnOnly (set : CharSet) (glyph : Glyph) : Type 0 where
  pub no_blank : is_text (glyph_text set glyph) (32 ∷ []) ≡ false
  pub no_vbar : shows set glyph Vbar ≡ false
  pub no_uarrow : shows set glyph Uarrow ≡ false
  pub no_underbar : shows set glyph Underbar ≡ false
  pub no_mbot : shows set glyph Mbot ≡ false
  pub no_rbot : shows set glyph Rbot ≡ false

pub own-only : (set : CharSet) (glyph : Glyph) → IsOwn glyph → IsOwnOnly set glyph
unfolding glyph_text glyph_code lib.Utf8.encode
own-only Unicode glyph (inl e) = subst (IsOwnOnly Unicode) (sym e)
    (record { no_blank = refl; no_vbar = refl; no_uarrow = refl; no_underbar = refl; no_mbot = refl; no_rbot = refl })
own-only Ascii glyph (inl e) = subst (IsOwnOnly Ascii) (sym e)
    (record { no_blank = refl; no_vbar = refl; no_uarrow = refl; no_underbar = refl; no_mbot = refl; no_rbot = refl })
own-only Unicode glyph (inr (inl e)) = subst (IsOwnOnly Unicode) (sym e)
    (record { no_blank = refl; no_vbar = refl; no_uarrow = refl; no_underbar = refl; no_mbot = refl; no_rbot = refl })
own-only Ascii glyph (inr (inl e)) = subst (IsOwnOnly Ascii) (sym e)
    (record { no_blank = refl; no_vbar = refl; no_uarrow = refl; no_underbar = refl; no_mbot = refl; no_rbot = refl })
own-only Unicode glyph (inr (inr e)) = subst (IsOwnOnly Unicode) (sym e)
    (record { no_blank = refl; no_vbar = refl; no_uarrow = refl; no_underbar = refl; no_mbot = refl; no_rbot = refl })
own-only Ascii glyph (inr (inr e)) = subst (IsOwnOnly Ascii) (sym e)
    (record { no_blank = refl; no_vbar = refl; no_uarrow = refl; no_underbar = refl; no_mbot = refl; no_rbot = refl })

-- ---- the row of a label within the line, place by place

module _ (v : Picture) {g : ℕ} {s : Section} {l r : ℕ} {x : LineLabel} (q : IsArrowRow v g s l r x) (side : x.side ≡ Inline) where
  abbrev pub inline_ink : ℕ → Ink
  inline_ink k =
      arrow_ink_by s.sheet.switches r x (has_corner (layout_of s.sheet l).margin x k) (is_crossed x.side x.place k) (vertical_at (layout_of s.sheet l) r k)

  -- left of its corner no stroke of its own stands
  pub inline-left : (k : ℕ) → k < x.place → IsLeft (inline_ink k).first
  unfolding is_crossed arrow_ink
  inline-left k less =
      let off : has_corner (layout_of s.sheet l).margin x k ≡ false = rw (ne_eqb x.place k (λ e. omega arith)) refl in
      let free : is_crossed x.side x.place k ≡ false = ap (λ side. is_crossed side x.place k) side ∙ le-ltb x.place k (omega arith) in
      rw (off, free) (go (vertical_at (layout_of s.sheet l) r k))
    where
      go : (up : Option LineLabel) → IsLeft (arrow_ink_by s.sheet.switches r x false false up).first
      go None = inr (inr refl)
      go (Some w) =
          cond_both (not (Rattle.ariadne_picture.specs.Ranks.is_inline w.side) && (r == 0) && s.sheet.switches.compact) Uarrow Vbar IsLeft
          (λ _. inl refl) (λ _. inr (inl refl))

  -- from it on a corner or a level stands
  pub inline-own : (k : ℕ) → x.place ≤ k → IsOwn (inline_ink k).first
  unfolding is_crossed arrow_ink corner_glyph
  inline-own k more = elim (cases_lt x.place k) [
    | inl less ↦
        let off : has_corner (layout_of s.sheet l).margin x k ≡ false = rw (ne_eqb x.place k (λ e. omega arith)) refl in
        let level : is_crossed x.side x.place k ≡ true = ap (λ side. is_crossed side x.place k) side ∙ lt-ltb x.place k less in
        rw (off, level) (inr (level-ink s.sheet.switches r x (vertical_at (layout_of s.sheet l) r k)))
    | inr least ↦
        let on : has_corner (layout_of s.sheet l).margin x k ≡ true =
        both_true (eq-eqb x.place k (omega arith)) (ap not (inline-off (layout_of s.sheet l).margin x side)) in
        rw on (inl (ap corner_glyph side))
  ]

-- ---- the strokes of a trace

-- what a first cell shows of it
pub data Stroke (set : CharSet) (t : Trace) (n k : ℕ) (c : Cell) : Type 0 where
  upright : is_upright set c ≡ true → Stroke set t n k c
  corner : t.place ≡ k → n ≡ t.row → is_glyph set t.corner c ≡ true → Stroke set t n k c
  level : n ≡ t.row → t.reaches k ≡ true → is_level set c ≡ true → Stroke set t n k c

pub stroke-kind : (set : CharSet) (t : Trace) (n k : ℕ) (c : Cell) → is_stroke_of set t n k true c ≡ true → Stroke set t n k c
unfolding is_stroke_of
stroke-kind set t n k c e = elim (or-cases _ _ e) [
  | inl turned ↦
      let a = two-true _ _ turned in
      let b = two-true _ _ a.0 in
      let d = two-true _ _ b.0 in
      elim (or-cases _ _ a.1) [
        | inl up ↦ upright (two-true (nat_le n t.row) (is_upright set c) up).1
        | inr on ↦ let f = two-true (n == t.row) (is_glyph set t.corner c) on in corner (eqb-true t.place k d.1) (eqb-true n t.row f.0) f.1
      ]
  | inr flat ↦
      let a = two-true _ _ flat in
      let b = two-true (n == t.row) (t.reaches k) a.0 in
      level (eqb-true n t.row b.0) b.1 a.1
]

-- ---- elements

-- where all elements pass, each does
pub passes-at : {X : Type 0} (test : X → Bool) (xs : List X) (k : ℕ) (x : X) → list_all test xs ≡ true → slice_get xs k ≡ Some x → test x ≡ true
passes-at test xs k x e there = all-at (λ x. test x ≡ true) xs k x there (list_all-from test xs e)

pub gutter-label-has : (s : Section) (i : ℕ) (a : LabelInfo) → slice_get (gutter_labels s.sheet.labels) i ≡ Some a → Has (messages_of s) a
unfolding messages_of
gutter-label-has s i a owned =
    let own = all-at (Has s.sheet.labels) _ i a owned (gutter-labels-owned s.sheet) in
    has-filter (λ (a : LabelInfo). a.has_message) s.sheet.labels own.place a own.there (gutter-label-message s.sheet i a owned)
