-- The line that a row shows or stands below is found, by its number and its source, and so is the first cell of the text
-- behind its gutter.
use Rattle.ariadne_picture.specs.ReadBack.Rows.{Known}
use Rattle.std.proofs.Common.{◌≡◌, ℕ, zero, suc, ◌+◌, ◌-◌, ◌<◌, false, List, [], ◌∷◌, ◌++◌, length, map, Some, refl, sym, ap, ◌∙◌, subst, arith}
use Rattle.std.specs.Prelude.{slice_get, slice_index_or, find, chars, codes, decimal, unwrap_or}
use Rattle.std.specs.List.{AllByRecursion}
use Rattle.std.specs.Prelude.{◌*◌, if◌then◌else◌, None, option_to_list}
use Rattle.std.proofs.Common.{inl, inr}
use Rattle.std.specs.Str.{drop_trailing_whitespace}
use Rattle.std.proofs.lemmas.Bool.{cond-true, true≢false, false_from_ne_true}
use Rattle.std.proofs.lemmas.List.{length-map, append_cancel_right}
use Rattle.std.proofs.lemmas.Option.{get_or_from_slice_get}
use Rattle.ariadne_base.specs.Locations.{upto, line_text, line_offset}
use Rattle.ariadne_base.specs.Ranges.{last_offset}
use Rattle.ariadne_base.specs.Listing.{listed_lines}
use Rattle.ariadne_base.proofs.LocationLemmas.{line_at_is}
use Rattle.ariadne_base.proofs.LineLaws.{some_line}
use Rattle.ariadne_picture.specs.declared.switches.CharSet.{CharSet}
use Rattle.ariadne_picture.specs.declared.switches.Switches.{Switches}
use Rattle.ariadne_picture.specs.declared.cell.Glyph.TheVariants.{Vbar}
use Rattle.ariadne_picture.specs.declared.label_info.LabelInfo.{LabelInfo}
use Rattle.ariadne_picture.specs.Groups.{greatest, group_end_line, printed_number}
use Rattle.ariadne_picture.specs.Ranks.{multi_line_labels, margin_label, line_labels, last_line}
use Rattle.ariadne_picture.specs.Rows.{Row, group_header, source, rows}
use Rattle.ariadne_picture.specs.Columns.{layout_of, is_too_wide}
use Rattle.ariadne_picture.specs.Pieces.{Piece, Section, glyph_text, gutter_len, column_size, shown_pieces}
use Rattle.ariadne_picture.specs.ReadBack.Reports.{HasWholeLines}
use Rattle.ariadne_picture.specs.Canvas.{Cell}
use Rattle.ariadne_picture.specs.Placing.Cells.{is_text}
use Rattle.ariadne_picture.specs.Placing.Group.{text_cell, column_cell, shown_cells}
use Rattle.ariadne_picture.specs.Placing.Rows.{row_at}
use Rattle.ariadne_picture.specs.Placing.Together.{unindented}
use Rattle.ariadne_picture.specs.ReadBack.Rows.{last_before, shows_line, unlabelled, margin_of, group_of, source_of, line_row, has_number, line_of, text_begin_by, text_begin}
use Rattle.ariadne_picture.proofs.Lists.Elements.{pointwise-same}
use Rattle.ariadne_picture.proofs.Lists.ListFacts.{all-map, all-weaker}
use Rattle.ariadne_picture.proofs.Labels.LabelPlaces.{IsPlaced}
use Rattle.ariadne_picture.proofs.Cells.MarginTexts.{margin-cell, source-margin, plain_cells, shown-texts}
use Rattle.ariadne_picture.proofs.Rows.RowOrder.{shown_rows}
use Rattle.ariadne_picture.proofs.Rows.RowPlacing.{row_list}
use Rattle.ariadne_picture.proofs.Reading.Pictures.{Picture, RowAt, rows_of, number}
use Rattle.ariadne_picture.proofs.Reading.PlaceCounts.{ArePlaced}
use Rattle.ariadne_picture.proofs.Reading.ShownLine.{IsShownLine, source-row-is, block-row-is}
use Rattle.ariadne_picture.proofs.Reading.TextRows.{source-text, front-at, row-length}
use Rattle.ariadne_picture.proofs.OneReading.LinesFound.{text-equal}
use Rattle.ariadne_picture.proofs.ReadingBack.RowKinds.{names_heading, line-kind}
use Rattle.ariadne_picture.proofs.ReadingBack.RowPlaces.{group-is}
use Rattle.ariadne_picture.proofs.ReadingBack.BlockRows.{block-line}
use Rattle.ariadne_picture.proofs.ReadingBack.LineTexts.{AreSources, ArePrintedApart, find-range, cells-same, whole-sights}

-- ---- lines of a source

greatest-less : (n : ℕ) (ns : List ℕ) → 0 < n → AllByRecursion (λ m. m < n) ns → greatest ns < n
unfolding greatest
greatest-less n [] some a = some
greatest-less n (m ∷ ns) some a = let here = a.0 in let rest = greatest-less n ns some a.1 in omega (arith, here, rest)

-- a placed label ends at a line of its source
ends-at : (ls : List (List ℕ)) (a : LabelInfo) → IsPlaced ls a → a.end_line < length ls
ends-at ls a h =
    subst (λ l. l < length ls) (sym h.ends) (line_at_is length ls (last_offset a.start a.end) h.some).there

-- so each shown line is one of its source
line-within : (v : Picture) → ArePlaced v → {g : ℕ} {s : Section} {l : ℕ} → IsShownLine v g s l → 0 < length s.sheet.lines → l < length s.sheet.lines
unfolding last_line group_end_line
line-within v placed {g} {s} {l} h some =
    let last = greatest-less (length s.sheet.lines) (map (λ (a : LabelInfo). a.end_line) s.sheet.labels) some
    (all-map _ (λ (a : LabelInfo). a.end_line) s.sheet.labels (all-weaker (IsPlaced s.sheet.lines) _ s.sheet.labels (ends-at s.sheet.lines) (placed g s h.group))) in
    let high = h.high in
    omega (arith, last, high)

-- ---- the rows of a group

-- only the group header stands at its head
pub some-above : (v : Picture) {g : ℕ} {s : Section} (k : ℕ) {x : Row} → RowAt v g s k x → names_heading x ≡ false → 0 < k
unfolding row_list rows
some-above v zero {x} is other =
    let name = is.name in let same : group_header ≡ x = cc in absurd (true≢false (ap names_heading same ∙ other))
some-above v (suc k) is other = omega arith

-- ---- margins

-- the margin of line l
abbrev numbered : CharSet → ℕ → ℕ → List ℕ
numbered set display_offset l = decimal (printed_number display_offset l) ++ codes " " ++ glyph_text set Vbar

numbers-same : (set : CharSet) (display_offset l m : ℕ) → numbered set display_offset l ≡ numbered set display_offset m
    → decimal (printed_number display_offset l) ≡ decimal (printed_number display_offset m)
numbers-same set display_offset l m same =
    append_cancel_right _ _ (codes " ") (append_cancel_right _ _ (glyph_text set Vbar) same)

module _ (v : Picture) (sources : List Known) (from : AreSources v sources) (placed : ArePlaced v) {g : ℕ} {s : Section} {l : ℕ}
    (h : IsShownLine v g s l) (apart : ArePrintedApart s) where
  abbrev switches : Switches
  switches = v.texts.switches

  -- the source of the group
  abbrev listing : Known
  listing = (from.there g s h.group).0

  lines : listed_lines listing.listing ≡ s.sheet.lines
  lines = (from.there g s h.group).2

  within : l < length s.sheet.lines
  within = line-within v placed h (subst (λ ls. 0 < length ls) lines (some_line (chars listing.listing.text)))

  -- the row of the line
  abbrev top : ℕ
  top = number v g s (source l)

  top-group : group_of (rows_of v) sources switches top ≡ g
  top-group = let is = source-row-is v h in group-is v sources is (some-above v _ is refl)

  -- the source of a row of the group is found
  source-is : (n : ℕ) → group_of (rows_of v) sources switches n ≡ g → source_of (rows_of v) sources switches n ≡ listing
  unfolding source_of
  source-is n group =
      let none : Known = record { listing = record { text = []; display_offset = 0 }; gutter = None } in
      ap (λ k. slice_index_or sources k none) group ∙ get_or_from_slice_get sources g listing none (from.there g s h.group).1

  -- the margin of the line has its number
  margin-is : margin_of (rows_of v) sources switches top ≡ numbered s.sheet.switches.char_set s.display_offset l
  unfolding margin_of
  margin-is =
      ap (λ (c : Cell). unindented c.text) (front-at v (source-text v (source-row-is v h)) 1 _ (margin-cell v.width s (source l)))
      ∙ source-margin s.sheet.switches.char_set v.width s.display_offset l

  number-is : (j : ℕ) → has_number (rows_of v) sources switches top j
      ≡ is_text (numbered s.sheet.switches.char_set s.display_offset l) (numbered s.sheet.switches.char_set s.display_offset j)
  unfolding has_number
  number-is j =
      let offset = ap (λ (source : Known). source.listing.display_offset) (source-is top top-group) ∙ (from.there g s h.group).3 in
      let set = ap (λ (switches : Switches). switches.char_set) (v.drawn.same_switches g s h.group) in
      λ i. is_text (margin-is i) (numbered (sym set i) (offset i) j)

  -- and no other line's
  number-other : (j : ℕ) → j < l → has_number (rows_of v) sources switches top j ≡ false
  number-other j less =
      let few = within in
      number-is j
      ∙ false_from_ne_true _ (λ same.
      let one = apart l j few (omega (arith, few)) (numbers-same s.sheet.switches.char_set s.display_offset l j (text-equal _ _ same)) in
      absurd (omega (arith, one)))

  -- ---- a row that stands below the line

  module _ (n : ℕ) (group : group_of (rows_of v) sources switches n ≡ g) (row : line_row (rows_of v) sources switches n ≡ top) where
    -- finds it
    pub line-below : line_of (rows_of v) sources switches n ≡ l
    unfolding line_of
    line-below =
        let few = within in
        let size = ap length lines in
        let z : 0 + l ≡ l = omega arith in
        let all = find-range (has_number (rows_of v) sources switches top) 0 (length (listed_lines listing.listing)) l (omega (arith, few, size))
        (ap (has_number (rows_of v) sources switches top) z ∙ number-is l
        ∙ pointwise-same (numbered s.sheet.switches.char_set s.display_offset l))
        (λ j less. let y : 0 + j ≡ j = omega arith in ap (has_number (rows_of v) sources switches top) y ∙ number-other j less) in
        (λ i. unwrap_or (find (has_number (rows_of v) sources switches (row i)) (upto (length (listed_lines (source-is n group i).listing)))) 0)
        ∙ ap (λ o. unwrap_or o 0) all ∙ z

    same-switches : s.sheet.switches ≡ switches
    same-switches = v.drawn.same_switches g s h.group

    gutter-is : (source_of (rows_of v) sources switches n).gutter ≡ listing.gutter
    gutter-is = ap (λ (source : Known). source.gutter) (source-is n group)

    -- where its text begins, by the number of gutter columns
    told-begin : listing.gutter ≡ Some (gutter_len s.sheet) → text_begin (rows_of v) sources switches n ≡ text_cell s
    unfolding text_begin text_begin_by text_cell column_cell
    told-begin told =
        ap (text_begin_by (rows_of v) sources switches n) (gutter-is ∙ told)
        ∙ (λ i. (if (sym same-switches i).compact then 2 else 3) + gutter_len s.sheet * column_size (sym same-switches i))

    -- or by the cells of its line, if that is shown whole
    cells-are : HasWholeLines s → shown_cells (unlabelled switches listing.listing) l ≡ plain_cells switches (layout_of s.sheet l)
    unfolding shown_cells unlabelled layout_of
    cells-are whole =
        let bare = unlabelled switches listing.listing in
        let is : is_too_wide switches (drop_trailing_whitespace (line_text bare.lines l)) ≡ false =
        (λ i. is_too_wide (sym same-switches i) (drop_trailing_whitespace (line_text (lines i) l))) ∙ whole l in
        cells-same switches (layout_of bare l) (layout_of s.sheet l) (ap (λ ls. line_text ls l) lines)
        (whole-sights switches (line_offset length bare.lines l) (option_to_list (margin_label bare.labels l) ++ line_labels bare.labels l)
        (drop_trailing_whitespace (line_text bare.lines l)) is
        ∙ sym (whole-sights s.sheet.switches (line_offset length s.sheet.lines l) (option_to_list (margin_label s.sheet.labels l) ++ line_labels s.sheet.labels l)
        (drop_trailing_whitespace (line_text s.sheet.lines l)) (whole l)))

    whole-begin : listing.gutter ≡ None → HasWholeLines s → text_begin (rows_of v) sources switches n ≡ text_cell s
    unfolding text_begin text_begin_by
    whole-begin untold whole =
        let shown = shown_pieces switches (multi_line_labels s.sheet.labels) (layout_of s.sheet l) in
        let text : Piece → List ℕ = λ q. q.text in
        let long = row-length v (source-text v (source-row-is v h)) in
        let size : length shown ≡ length (plain_cells switches (layout_of s.sheet l)) =
        sym (length-map shown text) ∙ ap length (shown-texts switches (multi_line_labels s.sheet.labels) (layout_of s.sheet l)) ∙ length-map _ text in
        let cells = ap length (cells-are whole) in
        let same : text_begin (rows_of v) sources switches n
        ≡ length (row_at (rows_of v) top) - length (shown_cells (unlabelled switches listing.listing) l) =
        ap (text_begin_by (rows_of v) sources switches n) (gutter-is ∙ untold)
        ∙ (λ i. length (row_at (rows_of v) (row i)) - length (shown_cells (unlabelled switches (source-is n group i).listing) (line-below i))) in
        same ∙ omega (arith, long, size, cells)

    -- and where its text begins
    pub begin-below : text_begin (rows_of v) sources switches n ≡ text_cell s
    begin-below = elim (from.there g s h.group).4 [
      | inl told ↦ told-begin told
      | inr untold ↦ whole-begin untold.0 untold.1
    ]

  -- ---- the rows of the block

  module _ (i : ℕ) (y : Row) (there : slice_get (shown_rows s.sheet l) i ≡ Some y) where
    block-group : group_of (rows_of v) sources switches (number v g s y) ≡ g
    block-group = group-is v sources (block-row-is v h i y there) (omega arith)

    pub line-is : line_of (rows_of v) sources switches (number v g s y) ≡ l
    line-is = line-below (number v g s y) block-group (block-line v sources h i y there)

    pub begin-is : text_begin (rows_of v) sources switches (number v g s y) ≡ text_cell s
    begin-is = begin-below (number v g s y) block-group (block-line v sources h i y there)

  -- ---- the source row

  -- its line stands in itself
  source-line : line_row (rows_of v) sources switches top ≡ top
  unfolding line_row last_before
  source-line = cond-true (shows_line (rows_of v) sources switches top) top _ (line-kind v sources (source-row-is v h))

  pub source-line-is : line_of (rows_of v) sources switches top ≡ l
  source-line-is = line-below top top-group source-line

  pub source-begin-is : text_begin (rows_of v) sources switches top ≡ text_cell s
  source-begin-is = begin-below top top-group source-line
