-- A label within one line whose message stands, for other row numbers, in the row of another label: the two are attached at one column.
use Rattle.std.proofs.Common.{◌≡◌, ℕ, suc, ◌+◌, ◌-◌, ◌<◌, ◌≤◌, Bool, true, false, not, ◌&&◌, ◌||◌, [], ◌∷◌, map, filter}
use Rattle.std.proofs.Common.{Some, refl, sym, ap, ◌∙◌, subst, arith, ◌==◌, inl, inr, nat_lt, if◌then◌else◌}
use Rattle.std.specs.Prelude.{slice_get, nat_le}
use Rattle.std.specs.List.{AllByRecursion, list_all, enumerate_from, range_with_len}
use Rattle.std.proofs.lemmas.Bool.{cond_both, cases_lt, eq-eqb, eqb-true, ltb-true, leb-true, lt-ltb, true≢false, not-true}
use Rattle.ariadne_base.specs.Locations.{upto}
use Rattle.ariadne_picture.specs.declared.label_info.LabelInfo.{LabelInfo}
use Rattle.ariadne_picture.specs.declared.label_info.LineLabel.{LineLabel}
use Rattle.ariadne_picture.specs.declared.label_info.Side.TheVariants.{Inline, Starts}
use Rattle.ariadne_picture.specs.declared.cell.Glyph.{Glyph}
use Rattle.ariadne_picture.specs.declared.cell.Glyph.TheVariants.{Vbar, Lbot, Uarrow, Underbar}
use Rattle.ariadne_picture.specs.Ranks.{is_start, is_on_one_line, gutter_labels, line_labels}
use Rattle.ariadne_picture.specs.Rows.{alternate, arrow}
use Rattle.ariadne_picture.specs.Columns.{layout_of, width, column_of}
use Rattle.ariadne_picture.specs.Pieces.{Section, glyph_text, message_at}
use Rattle.ariadne_picture.specs.Canvas.{Cell}
use Rattle.ariadne_picture.specs.Placing.Cells.{is_text, is_glyph, is_level}
use Rattle.ariadne_picture.specs.Placing.Group.{set_of, has_cell, place_cell, messages_of}
use Rattle.ariadne_picture.specs.Placing.Rows.{Placing, between, cell_at, row_at, holds_at_places, block_rows}
use Rattle.ariadne_picture.specs.Placing.InlineTraces.{is_inline_traced, has_inline_traces}
use Rattle.ariadne_picture.specs.Causes.{Trace, is_upright, is_stroke_of, inline_trace, end_trace, start_trace, gutter_traces, traces_below}
use Rattle.ariadne_picture.specs.Causes.{is_underline_of, has_cause, is_place_caused, is_line_caused, has_no_other_strokes}
use Rattle.ariadne_picture.specs.Headline.{IsReadBy}
use Rattle.ariadne_picture.proofs.Lists.ListFacts.{all-append, all-map, all-filtered, all-joined, all-at}
use Rattle.ariadne_picture.proofs.Lists.Elements.{Has, all-from, all-numbered}
use Rattle.ariadne_picture.proofs.Labels.LabelsAtLine.{IsHere, IsInlineHere}
use Rattle.ariadne_picture.proofs.Labels.LineLabels.{multi-line}
use Rattle.ariadne_picture.proofs.Rows.RowOrder.{shown_rows}
use Rattle.ariadne_picture.proofs.Rows.RowsThere.{range-at}
use Rattle.ariadne_picture.proofs.Cells.InkCells.{ink_cell}
use Rattle.ariadne_picture.proofs.Reading.HeadPlaces.{IsGutterLabelOf, head-place}
use Rattle.ariadne_picture.proofs.Reading.InlineTraces.{silent, block-first}
use Rattle.ariadne_picture.proofs.Reading.LabelTraces.{place-cells}
use Rattle.ariadne_picture.proofs.Reading.MessagePlaces.{two-true, label-here, arrow-shows}
use Rattle.ariadne_picture.proofs.Reading.PlaceCells.{first_cell, label-cell}
use Rattle.ariadne_picture.proofs.Reading.PlaceCounts.{ArePlaced, column-place}
use Rattle.ariadne_picture.proofs.Reading.Pictures.{Picture, rows_of, number, number-at}
use Rattle.ariadne_picture.proofs.Reading.ShownLine.{IsArrowRow, arrow-at, source-at, places_of, places-are}
use Rattle.ariadne_picture.proofs.OneReading.LinesFound.{list_all-from}
use Rattle.ariadne_picture.proofs.OneReading.MessagesFound.{each-line, each-group, line-row, or-cases, any-from, message-in}
use Rattle.ariadne_picture.proofs.OneReading.MessagesFound.{MessageFound}
use Rattle.ariadne_picture.proofs.OneReading.StrokesFound.{rows-apart, head-found, end-row, same-rank}
use Rattle.ariadne_picture.proofs.OneReading.InlineRows.{column-next, column-le, cell-between, shows, left-no-own, IsOwn, IsOwnOnly, own-only}
use Rattle.ariadne_picture.proofs.OneReading.InlineRows.{inline_ink, inline-left, inline-own, Stroke, upright, corner, level, stroke-kind, passes-at, gutter-label-has}
use Rattle.ariadne_picture.specs.Strokes.{is_at_margin}

-- ---- row numbers that read the picture

module _ (v : Picture) (placed : ArePlaced v) (p : Placing) (h : IsReadBy (rows_of v) v.sections (message_at v.texts) p) where
  -- the cells of p are those of the picture, whatever the placing
  same-cell : (n c : ℕ) → cell_at (rows_of v) n c ≡ cell_at (rows_of v) n c
  unfolding cell_at row_at
  same-cell n c = refl

  -- a test that holds at places holds of the first cell of each
  holds-from : (g : ℕ) (s : Section) (l n a b k : ℕ) (test : Cell → Bool) → holds_at_places (rows_of v) p g s l n a b test ≡ true
      → a ≤ k → k < b → (k < p.places g l) × (has_cell s l k ≡ true → test (first_cell v s l n k) ≡ true)
  unfolding holds_at_places
  holds-from g s l n a b k test e low high =
      let f : ℕ → Bool =
      λ k. nat_lt k (p.places g l) && (not (has_cell s l k) || test (cell_at (rows_of v) n (place_cell s l k))) in
      let z : a + (k - a) ≡ k = omega arith in
      let at : slice_get (between a b) (k - a) ≡ Some k = range-at a (b - a) (k - a) (omega arith) ∙ ap Some z in
      let passes : f k ≡ true = all-at (λ k. f k ≡ true) (between a b) (k - a) k at (list_all-from f (between a b) e) in
      let two = two-true (nat_lt k (p.places g l)) _ passes in (
        ltb-true k (p.places g l) two.0,
        λ some. elim (or-cases (not (has_cell s l k)) _ two.1) [
          | inl none ↦ absurd (true≢false (sym none ∙ ap not some))
          | inr on ↦ ap test (sym (same-cell n (place_cell s l k))) ∙ on
        ],
      )

  -- ---- a label within one line

  module _ (g : ℕ) (s : Section) (a : LabelInfo) (there : slice_get v.sections g ≡ Some s) (has : Has (messages_of s) a)
      (one : is_on_one_line a ≡ true) where
    -- no label over several lines has its message in that row
    not-several : (i : ℕ) (b : LabelInfo) → slice_get (gutter_labels s.sheet.labels) i ≡ Some b → p.message_row a.position ≡ p.message_row b.position → ⊥
    not-several i b owned same =
        let mine : a ≡ b = rows-apart v p h g s a b there has (gutter-label-has s i b owned) same in
        true≢false (sym one ∙ ap is_on_one_line mine ∙ multi-line s.sheet i b owned)

    pub line-is : a.start_line ≡ a.end_line
    unfolding is_on_one_line
    line-is = eqb-true a.start_line a.end_line one

    -- its corner and its horizontal stand where p says
    record IsTracedHere (l : ℕ) : Type 0 where
      corner : holds_at_places (rows_of v) p g s l (p.message_row a.position) a.attach (a.attach + 1) (is_glyph (set_of s) Lbot) ≡ true
      level : holds_at_places (rows_of v) p g s l (p.message_row a.position) (a.attach + 1) (p.places g l) (is_level (set_of s)) ≡ true

    traced-here : IsTracedHere a.end_line
    unfolding has_inline_traces is_inline_traced
    traced-here =
        let group = each-group _ v.sections g s h.strokes_lead_from_it_to_the_attach_character there in
        let labels = two-true _ _ group in
        let test : LabelInfo → Bool = λ a. not (is_on_one_line a) || is_inline_traced (rows_of v) v.sections p g s a in
        let e : test a ≡ true = all-at (λ a. test a ≡ true) (messages_of s) has.place a has.there (list_all-from test (messages_of s) labels.0) in
        subst IsTracedHere line-is (elim (or-cases (not (is_on_one_line a)) _ e) [
          | inl off ↦ absurd (true≢false (sym off ∙ ap not one))
          | inr on ↦ let x = two-true _ _ on in let y = two-true _ _ x.0 in record { corner = y.0; level = y.1 }
        ])

    module _ (m : MessageFound v p h g s a) where
      l : ℕ
      l = a.end_line

      -- the row is that of a label within the line
      pub found-within : IsInlineHere s.sheet a.end_line m.label
      unfolding is_start
      found-within = go (label-here s.sheet a.end_line m.rank m.label m.arrow_row.there)
        where
          go : IsHere s.sheet a.end_line m.label → IsInlineHere s.sheet a.end_line m.label
          go (inl k) = absurd (true≢false (sym (ap is_start k.side) ∙ m.no_start))
          go (inr (inl k)) =
              let o : IsGutterLabelOf v g s m.label.gutter_column m.label.info = record { group = there; owned = k.owned } in
              absurd (not-several m.label.gutter_column m.label.info k.owned
              (sym m.row ∙ sym (arrow-shows v m.arrow_row m.no_start) ∙ sym (end-row v p h g s m.label.gutter_column m.label.info o)))
          go (inr (inr k)) = k

      -- columns and places of the line
      abbrev pub column : ℕ → ℕ
      column = column_of s.sheet.switches (layout_of s.sheet a.end_line)

      -- its corner is a place of the line
      place-few : m.label.place < places_of s a.end_line
      place-few = column-place s.sheet (placed g s there) a.end_line m.rank m.label m.arrow_row.there (inr (inr found-within))

      attach-few : a.attach < p.places g a.end_line
      attach-few =
          (holds-from g s a.end_line (p.message_row a.position) a.attach (a.attach + 1) a.attach (is_glyph (set_of s) Lbot) traced-here.corner
          (omega arith) (omega arith)).0

      -- p has as many columns below the line as there are
      same-end : column (p.places g a.end_line) ≡ column (places_of s a.end_line)
      same-end = m.same_cells ∙ ap column (places-are v m.line)

      -- what the row shows
      row-cell : (k : ℕ) → k < places_of s a.end_line → has_cell s a.end_line k ≡ true
          → first_cell v s a.end_line (p.message_row a.position) k ≡ ink_cell v s (inline_ink v m.arrow_row found-within.side k)
      row-cell k few some = ap (λ n. first_cell v s a.end_line n k) (sym m.row) ∙ label-cell v m.arrow_row k few some

      -- no cell lies between its corner and one further right
      not-right : column a.attach < column m.label.place → ⊥
      unfolding is_glyph is_level has_cell
      not-right less =
          let c = cell-between s.sheet.switches (layout_of s.sheet a.end_line) a.attach m.label.place less in
          let k : ℕ = c.place in
          let low = c.low in
          let high = c.high in
          let few = place-few in
          let some : has_cell s a.end_line k ≡ true = lt-ltb 0 _ c.some in
          let cell = row-cell k (omega arith) some in
          let left = left-no-own (set_of s) _ (inline-left v m.arrow_row found-within.side k high) in
          elim (cases_lt a.attach k) [
            | inr first ↦
                let shown =
                (holds-from g s a.end_line (p.message_row a.position) a.attach (a.attach + 1) k (is_glyph (set_of s) Lbot) traced-here.corner
                low (omega arith)).1 some in
                true≢false (sym shown ∙ ap (is_glyph (set_of s) Lbot) cell ∙ left.no_lbot)
            | inl later ↦ elim (cases_lt k (p.places g a.end_line)) [
              | inl inside ↦
                  let shown =
                  (holds-from g s a.end_line (p.message_row a.position) (a.attach + 1) (p.places g a.end_line) k (is_level (set_of s)) traced-here.level
                  (omega arith) inside).1 some in
                  elim (or-cases _ _ (sym (ap (is_level (set_of s)) cell) ∙ shown)) [
                    | inl bar ↦ true≢false (sym bar ∙ left.no_hbar)
                    | inr bar ↦ true≢false (sym bar ∙ left.no_xbar)
                  ]
              | inr outside ↦
                  let y = layout_of s.sheet a.end_line in
                  let one = column-le s.sheet.switches y (p.places g a.end_line) k outside in
                  let next = column-next s.sheet.switches y k in
                  let two = column-le s.sheet.switches y (suc k) m.label.place (omega arith) in
                  let three = column-le s.sheet.switches y m.label.place (places_of s a.end_line) (omega arith) in
                  let more = c.some in
                  let end = same-end in
                  absurd (omega (arith, one, next, two, three, more, end))
            ]
          ]

      -- ---- nor one further left

      -- the row is one of the block of p, so each cell has a cause
      caused-here : (k : ℕ) → k < p.places g a.end_line → has_cell s a.end_line k ≡ true
          → has_cause (rows_of v) v.sections p g s a.end_line (p.message_row a.position) k true (first_cell v s a.end_line (p.message_row a.position) k) ≡ true
      unfolding has_no_other_strokes is_line_caused is_place_caused block_rows Rattle.ariadne_picture.specs.Placing.Together.is_in_block has_cell
      caused-here k few some =
          let n : ℕ = p.message_row a.position in
          let l : ℕ = a.end_line in
          let line = each-line v (is_line_caused (rows_of v) v.sections p) g s l h.and_no_stroke_stands_elsewhere m.line in
          let within =
          two-true (nat_lt (p.source_row g l) n) (nat_le n (p.source_row g l + p.block_len g l)) (message-in v p h g s a there has) in
          let low = ltb-true (p.source_row g l) n within.0 in
          let high = leb-true n (p.source_row g l + p.block_len g l) within.1 in
          let below : ℕ = p.source_row g l + 1 in
          let row : below + (n - below) ≡ n = omega arith in
          let places : list_all (is_place_caused (rows_of v) v.sections p g s l n) (upto (p.places g l)) ≡ true =
          passes-at (λ n. list_all (is_place_caused (rows_of v) v.sections p g s l n) (upto (p.places g l))) (range_with_len below (p.block_len g l))
          (n - below) n line (range-at below (p.block_len g l) (n - below) (omega arith) ∙ ap Some row) in
          let here : 0 + k ≡ k = omega arith in
          let place : is_place_caused (rows_of v) v.sections p g s l n k ≡ true =
          passes-at (is_place_caused (rows_of v) v.sections p g s l n) (upto (p.places g l)) k k places
          (range-at 0 (p.places g l) k few ∙ ap Some here) in
          let first : ℕ = place_cell s l k in
          let wide = place-cells s l k in
          let more = ltb-true 0 (width s.sheet.switches (layout_of s.sheet l) k) some in
          let start : first + 0 ≡ first = omega arith in
          let test : ℕ → Bool =
          λ c. has_cause (rows_of v) v.sections p g s l n k (c == first) (cell_at (rows_of v) n c) in
          let shown : test first ≡ true =
          passes-at test (between first (place_cell s l (k + 1))) 0 first place
          (range-at first (place_cell s l (k + 1) - first) 0 (omega (arith, wide, more)) ∙ ap Some start) in
          let same : (first == first) ≡ true = eq-eqb first first refl in
          subst (λ b. has_cause (rows_of v) v.sections p g s l n k b (first_cell v s l n k) ≡ true) same
          (subst (λ c. has_cause (rows_of v) v.sections p g s l n k (first == first) c ≡ true) (same-cell n first) shown)

      -- underlines stand in an alternate row
      no-underline : (k : ℕ) (c : Cell) → is_underline_of (rows_of v) v.sections p g s a.end_line (p.message_row a.position) k c ≡ true → ⊥
      unfolding is_underline_of layout_of
      no-underline k c e =
          let x = two-true _ _ e in
          let y = two-true _ _ x.0 in
          let z = two-true _ _ y.0 in
          let on = two-true (s.sheet.switches.underlines && not s.sheet.switches.compact) _ z.0 in
          let form = two-true s.sheet.switches.underlines (not s.sheet.switches.compact) on.0 in
          let open_form = not-true s.sheet.switches.compact form.1 in
          let here = eqb-true _ _ z.1 in
          let line = line-row v p h a.end_line m.line in
          let own = number-at v (arrow-at v m.arrow_row) in
          let src = source-at v m.line in
          let row = m.row in
          let labels = line_labels s.sheet.labels a.end_line in
          let first = block-first s.sheet a.end_line open_form on.1 in
          let top : m.arrow_row.index ≡ 0 = omega (arith, here, line, own, src, row) in
          let same : Some (alternate a.end_line (silent labels)) ≡ Some (arrow a.end_line m.rank) =
          sym first ∙ ap (slice_get (shown_rows s.sheet a.end_line)) (sym top) ∙ m.arrow_row.row in
          cc

      -- a head of another label stands in the row of that label
      no-head : (i : ℕ) (b : LabelInfo) → slice_get (gutter_labels s.sheet.labels) i ≡ Some b → b.start_line ≡ a.end_line
          → is_at_margin s.sheet b.start_line i ≡ false → p.message_row a.position ≡ p.head_row g i → ⊥
      no-head i b owned line off same =
          let o : IsGutterLabelOf v g s i b = record { group = there; owned = owned } in
          let head = head-place v o off in
          let own = subst (λ l. IsArrowRow v g s l head.rank head.label) line head.arrow_row in
          let moved : number v g s (arrow b.start_line head.rank) ≡ number v g s (arrow a.end_line head.rank) =
          ap (λ l. number v g s (arrow l head.rank)) line in
          let one : m.rank ≡ head.rank =
          same-rank v m.arrow_row own (m.row ∙ same ∙ head-found v p h g s i b o ∙ head.row ∙ moved) in
          let mine = m.arrow_row.there in
          let other = own.there in
          let label : m.label ≡ head.label = cc in
          let sides : Inline ≡ Starts = sym found-within.side ∙ ap (λ (x : LineLabel). x.side) label ∙ head.start.side in
          cc

      module _ (k : ℕ) (left : k < a.attach) (c : Cell) (glyph : Glyph) (shown : c.text ≡ glyph_text (set_of s) glyph) (own : IsOwn glyph) where
        only : IsOwnOnly (set_of s) glyph
        only = own-only (set_of s) glyph own

        shows-it : (other : Glyph) → is_glyph (set_of s) other c ≡ shows (set_of s) glyph other
        unfolding is_glyph
        shows-it other = ap (λ t. is_text t (glyph_text (set_of s) other)) shown

        no-upright : is_upright (set_of s) c ≡ true → ⊥
        unfolding is_upright
        no-upright e = elim (or-cases _ _ e) [
          | inl two ↦ elim (or-cases _ _ two) [
            | inl one ↦ true≢false (sym one ∙ shows-it Vbar ∙ only.no_vbar)
            | inr one ↦ true≢false (sym one ∙ shows-it Uarrow ∙ only.no_uarrow)
          ]
          | inr one ↦ true≢false (sym one ∙ shows-it Underbar ∙ only.no_underbar)
        ]

        -- it is no stroke of trace t
        abbrev IsNone : Trace → Type 0
        IsNone t = is_stroke_of (set_of s) t (p.message_row a.position) k true c ≡ true → ⊥

        none-inline : (b : LabelInfo) → Has (messages_of s) b → IsNone (inline_trace (rows_of v) v.sections p b)
        unfolding inline_trace
        none-inline b other e = go (stroke-kind _ _ _ _ _ e)
          where
            mine : p.message_row a.position ≡ p.message_row b.position → a.attach ≡ b.attach
            mine same = ap (λ (a : LabelInfo). a.attach) (rows-apart v p h g s a b there has other same)

            go : Stroke (set_of s) (inline_trace (rows_of v) v.sections p b) (p.message_row a.position) k c → ⊥
            go (upright up) = no-upright up
            go (corner place row on) = let same = mine row in absurd (omega (arith, left, place, same))
            go (level row reaches on) = let same = mine row in let low = leb-true b.attach k reaches in absurd (omega (arith, left, low, same))

        none-end : (l i : ℕ) (b : LabelInfo) → slice_get (gutter_labels s.sheet.labels) i ≡ Some b → IsNone (end_trace (rows_of v) v.sections p s l i b)
        unfolding end_trace
        none-end l i b owned e = go (stroke-kind _ _ _ _ _ e)
          where
            go : Stroke (set_of s) (end_trace (rows_of v) v.sections p s l i b) (p.message_row a.position) k c → ⊥
            go (upright up) = no-upright up
            go (corner place row on) = not-several i b owned row
            go (level row reaches on) = not-several i b owned row

        none-start : (i : ℕ) (b : LabelInfo) → slice_get (gutter_labels s.sheet.labels) i ≡ Some b → b.start_line ≡ a.end_line
            → is_at_margin s.sheet b.start_line i ≡ false → IsNone (start_trace (rows_of v) v.sections p g i b)
        unfolding start_trace
        none-start i b owned line off e = go (stroke-kind _ _ _ _ _ e)
          where
            go : Stroke (set_of s) (start_trace (rows_of v) v.sections p g i b) (p.message_row a.position) k c → ⊥
            go (upright up) = no-upright up
            go (corner place row on) = no-head i b owned line off row
            go (level row reaches on) = no-head i b owned line off row

        none-gutter : (i : ℕ) (b : LabelInfo) → slice_get (gutter_labels s.sheet.labels) i ≡ Some b
            → AllByRecursion IsNone (gutter_traces (rows_of v) v.sections p g s a.end_line i b)
        unfolding gutter_traces
        none-gutter i b owned =
            let l : ℕ = a.end_line in
            let end = end_trace (rows_of v) v.sections p s l i b in
            let start = start_trace (rows_of v) v.sections p g i b in
            all-append IsNone (if b.end_line == l then end ∷ [] else []) (if (b.start_line == l) && not (is_at_margin s.sheet l i) then start ∷ [] else [])
            (cond_both (b.end_line == l) (end ∷ []) [] (AllByRecursion IsNone) (λ _. (none-end l i b owned, tt)) (λ _. tt))
            (cond_both ((b.start_line == l) && not (is_at_margin s.sheet l i)) (start ∷ []) [] (AllByRecursion IsNone)
            (λ on.
            let two = two-true (b.start_line == l) (not (is_at_margin s.sheet l i)) on in
            let line = eqb-true b.start_line l two.0 in
            (none-start i b owned line (ap (λ m. is_at_margin s.sheet m i) line ∙ not-true _ two.1), tt)) (λ _. tt))

        none-below : AllByRecursion IsNone (traces_below (rows_of v) v.sections p g s a.end_line)
        unfolding traces_below
        none-below =
            let test : LabelInfo → Bool = λ b. is_on_one_line b && (b.start_line == a.end_line) in
            all-append IsNone (map (inline_trace (rows_of v) v.sections p) (filter test (messages_of s))) _
            (all-map IsNone (inline_trace (rows_of v) v.sections p) (filter test (messages_of s))
            (all-filtered (λ b. IsNone (inline_trace (rows_of v) v.sections p b)) test (messages_of s)
            (all-from _ (messages_of s) (λ j b at on. none-inline b (record { place = j; there = at })))))
            (all-joined IsNone (λ e. slice_get (gutter_labels s.sheet.labels) e.0 ≡ Some e.1) (λ e. gutter_traces (rows_of v) v.sections p g s a.end_line e.0 e.1)
            (enumerate_from 0 (gutter_labels s.sheet.labels)) (λ e owned. none-gutter e.0 e.1 owned)
            (all-numbered (λ e. slice_get (gutter_labels s.sheet.labels) e.0 ≡ Some e.1) (gutter_labels s.sheet.labels) (λ i b owned. owned)))

        no-cause : has_cause (rows_of v) v.sections p g s a.end_line (p.message_row a.position) k true c ≡ true → ⊥
        unfolding has_cause
        no-cause e = elim (or-cases _ _ e) [
          | inl blank ↦ true≢false (sym blank ∙ ap (λ t. is_text t (32 ∷ [])) shown ∙ only.no_blank)
          | inr some ↦ elim (or-cases _ _ some) [
            | inl traced ↦
                let t = any-from _ (traces_below (rows_of v) v.sections p g s a.end_line) traced in
                all-at IsNone _ t.1.place t.0 t.1.there none-below t.2
            | inr under ↦ no-underline k c under
          ]
        ]

      not-left : column m.label.place < column a.attach → ⊥
      unfolding has_cell
      not-left less =
          let y = layout_of s.sheet a.end_line in
          let c = cell-between s.sheet.switches y m.label.place a.attach less in
          let k : ℕ = c.place in
          let low = c.low in
          let high = c.high in
          let some : has_cell s a.end_line k ≡ true = lt-ltb 0 _ c.some in
          let attach = attach-few in
          elim (cases_lt k (places_of s a.end_line)) [
            | inl few ↦
                let ink = inline_ink v m.arrow_row found-within.side k in
                let cell = row-cell k few some in
                no-cause k high (first_cell v s a.end_line (p.message_row a.position) k) ink.first (ap (λ (c : Cell). c.text) cell)
                (inline-own v m.arrow_row found-within.side k low) (caused-here k (omega arith) some)
            | inr outside ↦
                let one = column-le s.sheet.switches y (places_of s a.end_line) k outside in
                let next = column-next s.sheet.switches y k in
                let two = column-le s.sheet.switches y (suc k) a.attach (omega arith) in
                let three = column-le s.sheet.switches y a.attach (p.places g a.end_line) (omega arith) in
                let more = c.some in
                let end = same-end in
                absurd (omega (arith, one, next, two, three, more, end))
          ]

      -- so both are attached at one column
      pub same-column : column a.attach ≡ column m.label.place
      same-column = elim (cases_lt (column a.attach) (column m.label.place)) [
        | inl less ↦ absurd (not-right less)
        | inr no_less ↦ elim (cases_lt (column m.label.place) (column a.attach)) [
          | inl more ↦ absurd (not-left more)
          | inr no_more ↦ omega arith
        ]
      ]
