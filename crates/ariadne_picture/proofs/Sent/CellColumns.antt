-- Each cell of a picture takes the columns of the characters of its text, as each piece does.
use Rattle.std.proofs.Common.{◌≡◌, ℕ, zero, suc, ◌+◌, ◌-◌, ◌≤◌, Bool, true, false, ◌&&◌, max, List, [], ◌∷◌, ◌++◌, length, map}
use Rattle.std.proofs.Common.{refl, sym, ap, ◌∙◌, subst, arith, ◌==◌, nat_lt, Some, inl, inr, if◌then◌else◌}
use Rattle.std.specs.Prelude.{slice_get, slice_index, decimal, codes}
use Rattle.std.specs.Char.{is_whitespace}
use Rattle.std.specs.List.{AllByRecursion, enumerate_from}
use Rattle.std.proofs.lemmas.Bool.{cond_both, cases_Bool}
use Rattle.std.proofs.lemmas.List.{length-append, length-replicate}
use Rattle.unicode_width.proofs.Computing.{unicode_width}
use Rattle.ariadne_base.specs.Locations.{upto}
use Rattle.ariadne_picture.specs.Rows.{lone_rows, is_lone}
use Rattle.ariadne_picture.specs.declared.switches.CharSet.{CharSet}
use Rattle.ariadne_picture.specs.declared.switches.CharSet.TheVariants.{Unicode, Ascii}
use Rattle.ariadne_picture.specs.declared.switches.Switches.{Switches}
use Rattle.ariadne_picture.specs.declared.label_info.LabelInfo.{LabelInfo}
use Rattle.ariadne_picture.specs.declared.label_info.LineLabel.{LineLabel}
use Rattle.ariadne_picture.specs.declared.cell.Glyph.{Glyph}
use Rattle.ariadne_picture.specs.declared.cell.Glyph.TheVariants.{Blank, Vbar}
use Rattle.ariadne_picture.specs.declared.cell.Ink.{Ink}
use Rattle.ariadne_picture.specs.declared.cell.Paint.{Paint}
use Rattle.ariadne_picture.specs.Lists.{joined, total}
use Rattle.ariadne_picture.specs.Report.{ReportFields, World}
use Rattle.ariadne_picture.specs.Groups.{greatest, printed_number}
use Rattle.ariadne_picture.specs.Ranks.{Sheet, is_start, is_hidden_line, line_labels, first_line, last_line, group_lines}
use Rattle.ariadne_picture.specs.Rows.{Aside, help, note, Row, group_header, spacer, source, alternate, arrow, gap, bare, blank, piece, tail, rows}
use Rattle.ariadne_picture.specs.Rows.{label_rows, is_inside, line_rows, aside_rows, asides}
use Rattle.std.specs.Str.Lines.{lines}
use Rattle.ariadne_picture.specs.declared.sight.Sight.{Sight}
use Rattle.ariadne_picture.specs.declared.sight.Sight.TheVariants.{Seen, Marked, Unseen}
use Rattle.ariadne_picture.specs.Columns.{Layout, char_columns, text_columns, shown, shown_columns, width, arrow_len, whole_column, sight_of, mark_columns}
use Rattle.ariadne_picture.specs.Cells.{glyph_code, column_ink}
use Rattle.ariadne_picture.specs.Pieces.{Piece, plain_text, blank_piece, spaces, stroke, glyph_text, ink_pieces, shown_text, char_pieces}
use Rattle.ariadne_picture.specs.Pieces.{mark_text, seen_pieces, source_pieces, char_paint, shown_pieces, area_pieces, margin_text, margin_pieces, column_size}
use Rattle.ariadne_picture.specs.Pieces.{gutter_len, gutter_pieces, Texts, Section, group_header_pieces, spacer_pieces, tail_pieces}
use Rattle.ariadne_picture.specs.Pieces.{message_pieces, aside_pieces, text_pieces, rest_pieces, row_pieces, section_rows, message_at}
use Rattle.ariadne_picture.specs.Canvas.{sheet_of, cell_of, palette_of, header_pieces, texts_of, group_source, section_of, groups, number_width}
use Rattle.ariadne_picture.specs.Canvas.{sheet_of, outline, canvas}
use Rattle.ariadne_picture.proofs.Lists.ListFacts.{none≢some, all-append, all-weaker, all-map, all-every, all-joined}
use Rattle.ariadne_picture.proofs.Lists.Elements.{all-numbered}
use Rattle.ariadne_picture.proofs.Variants.CleanTexts.{all-parts}
use Rattle.ariadne_picture.proofs.Cells.RowCells.{all-replicate}
use Rattle.ariadne_picture.proofs.Reading.ShownLine.{all-group-lines}
use Rattle.ariadne_picture.specs.Sent.{HasColumnsOfText, HaveColumnsOfTexts}
use Rattle.ariadne_picture.proofs.Sent.TextColumns.{columns-encode, columns-one, IsLow, columns-low, low-spaces, low-decimal, decimal-rises}
use Rattle.ariadne_picture.proofs.Parts.{number_len, place_pieces, outline-is}

-- ---- pieces

-- a piece takes the columns of its text
abbrev pub IsWide : Piece → Type 0
IsWide q = q.columns ≡ text_columns q.text

abbrev pub AreWide : List Piece → Type 0
AreWide = AllByRecursion IsWide

-- the character of a stroke takes one, in either set of characters
code-columns : (set : CharSet) (glyph : Glyph) → char_columns (glyph_code set glyph) ≡ 1
unfolding glyph_code char_columns unicode_width
code-columns Unicode Blank = refl
code-columns Ascii Blank = refl
code-columns Unicode glyph = refl
code-columns Ascii glyph = refl

-- so a stroke does, and so many as they are in front of a text
stroke-columns : (set : CharSet) (glyph : Glyph) (t : List ℕ) → text_columns (glyph_text set glyph ++ t) ≡ 1 + text_columns t
unfolding glyph_text
stroke-columns set glyph t = columns-encode (glyph_code set glyph) t ∙ ap (λ n. n + text_columns t) (code-columns set glyph)

glyph-columns : (set : CharSet) (glyph : Glyph) → 1 ≡ text_columns (glyph_text set glyph)
unfolding glyph_text
glyph-columns set glyph = sym (columns-one (glyph_code set glyph) ∙ code-columns set glyph)

-- and a blank
blank-text : glyph_text Ascii Blank ≡ 32 ∷ []
unfolding glyph_text glyph_code lib.Utf8.encode
blank-text = refl

blank-columns : 1 ≡ text_columns (32 ∷ [])
blank-columns = glyph-columns Ascii Blank ∙ ap text_columns blank-text

-- an ink: strokes
wide-ink : (set : CharSet) (ink : Ink) (n : ℕ) → AreWide (ink_pieces set ink n)
unfolding ink_pieces
wide-ink set ink zero = tt
wide-ink set ink (suc n) =
    (glyph-columns set ink.first, all-replicate IsWide n (stroke set ink.rest ink.rest_paint) (glyph-columns set ink.rest))

wide-inks : (set : CharSet) (ink_at : ℕ → Ink) (size : ℕ → ℕ) (n : ℕ)
    → AreWide (joined (λ k. ink_pieces set (ink_at k) (size k)) (upto n))
wide-inks set ink_at size n =
    all-parts IsWide (λ k. ink_pieces set (ink_at k) (size k)) (λ k. wide-ink set (ink_at k) (size k)) (upto n)

-- a text area, and a gutter
wide-area : (switches : Switches) (y : Layout) (ink_at : ℕ → Ink) → AreWide (area_pieces switches y ink_at)
unfolding area_pieces
wide-area switches y ink_at = wide-inks switches.char_set ink_at (width switches y) (arrow_len switches y)

wide-gutter : (s : Sheet) (x : Row) → AreWide (gutter_pieces s x)
unfolding gutter_pieces
wide-gutter s x = wide-inks s.switches.char_set (column_ink s x) (λ i. column_size s.switches) (gutter_len s)

-- ---- source rows

-- a character that is shown: each blank of a tab takes one column, white space one, and any other its own
wide-char : (switches : Switches) (paint : Paint) (x c : ℕ) → AreWide (char_pieces switches paint x c)
unfolding char_pieces shown_columns shown_text
wide-char switches paint x c = elim (cases_Bool (c == 9)) [
  | inl tab ↦ rw tab (all-replicate IsWide _ (record { text = 32 ∷ []; paint = paint; columns = 1 }) blank-columns)
  | inr other ↦ elim (cases_Bool (is_whitespace c)) [
    | inl white ↦ rw (other, white) (blank-columns, tt)
    | inr black ↦ rw (other, black) (sym (columns-one c), tt)
  ]
]

-- the mark
mark-wide : (set : CharSet) → mark_columns set ≡ text_columns (mark_text set)
unfolding mark_columns mark_text text_columns char_columns total unicode_width lib.Utf8.encode
mark-wide Unicode = refl
mark-wide Ascii = refl

-- what is seen of a place
wide-seen : (switches : Switches) (paint : Paint) (y : Layout) (k c : ℕ) (sight : Sight)
    → AreWide (seen_pieces switches paint y k c sight)
unfolding seen_pieces
wide-seen switches paint y k c Seen = wide-char switches paint (whole_column switches.tab_width (shown y) k) c
wide-seen switches paint y k c Marked = (mark-wide switches.char_set, tt)
wide-seen switches paint y k c Unseen = tt

wide-source : (switches : Switches) (paint : Paint) (y : Layout) (k c : ℕ) → AreWide (source_pieces switches paint y k c)
unfolding source_pieces
wide-source switches paint y k c = wide-seen switches paint y k c (sight_of y k)

wide-line : (switches : Switches) (labels : List LabelInfo) (y : Layout) → AreWide (shown_pieces switches labels y)
unfolding shown_pieces
wide-line switches labels y =
    all-parts IsWide (place_pieces switches labels y)
    (λ k. wide-source switches (char_paint labels y k) y k (slice_index (shown y) k)) (upto (length (shown y)))

-- ---- margins, headers and tails

-- a margin has room for its number
abbrev HasRoom : ℕ → ℕ → Row → Type 0
HasRoom w display_offset (source l) = length (decimal (printed_number display_offset l)) ≤ w
HasRoom w display_offset x = Unit {0}

-- blanks and a stroke
spaced-stroke : (set : CharSet) (glyph : Glyph) (n : ℕ) → n + 1 ≡ text_columns (spaces n ++ glyph_text set glyph)
unfolding spaces
spaced-stroke set glyph n =
    let e = columns-low (spaces n) (glyph_text set glyph) (low-spaces n) in
    let one = glyph-columns set glyph in
    let size = length-replicate {A = ℕ} n 32 in
    omega (arith, e, one, size)

margin-columns : (set : CharSet) (w display_offset : ℕ) (x : Row) → HasRoom w display_offset x
    → w + 2 ≡ text_columns (margin_text set w display_offset x)
unfolding margin_text spaces
margin-columns set w display_offset (source l) room =
    let number : List ℕ = decimal (printed_number display_offset l) in
    let n : ℕ = w - length number in
    let front : List ℕ = spaces n ++ number ++ codes " " in
    let low : AllByRecursion IsLow front =
    all-append IsLow (spaces n ++ number) (codes " ") (all-append IsLow (spaces n) number (low-spaces n) (low-decimal _)) (low-spaces 1) in
    let e = columns-low front (glyph_text set Vbar) low in
    let one = glyph-columns set Vbar in
    let size : length front ≡ n + length number + 1 =
    length-append (spaces n ++ number) (codes " ") ∙ ap (λ m. m + 1) (length-append (spaces n) number ∙ ap (λ m. m + length number) (length-replicate {A = ℕ} n 32)) in
    omega (arith, e, one, size, room)
margin-columns set w display_offset (gap l) room = let z : w + 2 ≡ w + 1 + 1 = omega arith in z ∙ spaced-stroke set _ (w + 1)
margin-columns set w display_offset x room = let z : w + 2 ≡ w + 1 + 1 = omega arith in z ∙ spaced-stroke set Vbar (w + 1)

wide-margin : (switches : Switches) (w display_offset : ℕ) (x : Row) → HasRoom w display_offset x → AreWide (margin_pieces switches w display_offset x)
unfolding margin_pieces
wide-margin switches w display_offset x room =
    let gap = cond_both switches.compact [] (blank_piece ∷ []) AreWide (λ _. tt) (λ _. (blank-columns, tt)) in
    (blank-columns, (margin-columns switches.char_set w display_offset x room, gap))

wide-header : (g : Section) (w : ℕ) → AreWide (group_header_pieces g w)
unfolding group_header_pieces
wide-header g w = (refl, (glyph-columns _ _, (glyph-columns _ _, (glyph-columns _ _, (refl, (glyph-columns _ _, tt))))))

wide-spacer : (set : CharSet) (w : ℕ) → AreWide (spacer_pieces set w)
unfolding spacer_pieces
wide-spacer set w = (refl, (glyph-columns set Vbar, tt))

wide-tail : (set : CharSet) (w : ℕ) (is_last : Bool) → AreWide (tail_pieces set w is_last)
unfolding tail_pieces
wide-tail set w false = wide-spacer set w
wide-tail set w true = (refl, tt)

-- ---- rows

module _ (t : Texts) (w : ℕ) (g : Section) where
  wide-message : (x : Rattle.std.proofs.Common.Option LineLabel) → AreWide (message_pieces t x)
  unfolding message_pieces
  wide-message Rattle.std.proofs.Common.None = tt
  wide-message (Some x) =
      cond_both (is_start x.side) [] (blank_piece ∷ plain_text (message_at t x.info.position) ∷ []) AreWide
      (λ _. tt) (λ _. (blank-columns, (refl, tt)))

  wide-aside : (a : Aside) (k p : ℕ) → AreWide (aside_pieces t a k p)
  unfolding aside_pieces
  wide-aside a k zero = (refl, (refl, tt))
  wide-aside a k (suc p) = (refl, tt)

  wide-text : (x : Row) → AreWide (text_pieces t g x)
  unfolding text_pieces
  wide-text (source l) = wide-line _ _ _
  wide-text (alternate l r) = wide-area _ _ _
  wide-text (arrow l r) = search (all-append, wide-area, wide-message)
  wide-text (piece a k p) = wide-aside a k p
  wide-text x = tt

  wide-rest : (x : Row) → AreWide (rest_pieces t g x)
  unfolding rest_pieces
  wide-rest (bare l) = tt
  wide-rest x = all-append IsWide _ _ (wide-gutter g.sheet x) (wide-text x)

  -- a row whose margin has room
  wide-row : (x : Row) → HasRoom w g.display_offset x → AreWide (row_pieces t w g x)
  unfolding row_pieces
  wide-row group_header room = wide-header g w
  wide-row spacer room = wide-spacer g.sheet.switches.char_set w
  wide-row tail room = wide-tail g.sheet.switches.char_set w g.is_last
  wide-row x room = all-append IsWide _ _ (wide-margin g.sheet.switches w g.display_offset x room) (wide-rest x)

  -- ---- each line of the group is at most the last one, whose number has room

  module _ (room : number_len g.display_offset g.sheet ≤ w) where
    abbrev HaveRoom : List Row → Type 0
    HaveRoom = AllByRecursion (HasRoom w g.display_offset)

    one-or-none : (b : Bool) (x : Row) → HasRoom w g.display_offset x → HaveRoom (if b then [] else x ∷ [])
    one-or-none b x h = cond_both b [] (x ∷ []) HaveRoom (λ _. tt) (λ e. (h, tt))

    line-rooms : (l : ℕ) → l ≤ last_line g.sheet → HaveRoom (line_rows g.sheet l)
    unfolding line_rows label_rows lone_rows printed_number
    line-rooms l high =
        let s = g.sheet in
        let rise = decimal-rises (l + 1 + g.display_offset) (last_line s + 1 + g.display_offset) (omega (arith, high)) in
        let bare_row = if s.switches.compact then [] else bare l ∷ [] in
        let row = if is_inside s l then gap l ∷ [] else bare_row in
        let later : Bool = nat_lt (first_line s) l && is_hidden_line s (l - 1) in
        let label : (e : ℕ × LineLabel) → HaveRoom (label_rows s.switches.compact l e) =
        λ e. cond_both e.1.info.has_message ((if s.switches.compact then [] else alternate l e.0 ∷ []) ++ arrow l e.0 ∷ []) [] HaveRoom
        (λ _. all-append (HasRoom w g.display_offset) (if s.switches.compact then [] else alternate l e.0 ∷ []) (arrow l e.0 ∷ [])
        (one-or-none s.switches.compact (alternate l e.0) tt) (tt, tt)) (λ _. tt) in
        cond_both (is_hidden_line s l) (if later then [] else row) _ HaveRoom
        (λ _. cond_both later [] row HaveRoom (λ _. tt)
        (λ _. cond_both (is_inside s l) (gap l ∷ []) bare_row HaveRoom (λ _. (tt, tt)) (λ _. one-or-none s.switches.compact (bare l) tt)))
        (λ _. (
          omega (arith, room, rise),
          all-append (HasRoom w g.display_offset) (joined (label_rows s.switches.compact l) (enumerate_from 0 (line_labels s.labels l))) (lone_rows s l)
              (all-parts (HasRoom w g.display_offset) (label_rows s.switches.compact l) label (enumerate_from 0 (line_labels s.labels l)))
              (cond_both (is_lone s l) (alternate l (length (line_labels s.labels l)) ∷ []) [] HaveRoom (λ _. (tt, tt)) (λ _. tt)),
        ))

    aside-rooms : (compact : Bool) (a : Aside) (texts : List (List ℕ)) → HaveRoom (asides compact a texts)
    unfolding asides aside_rows
    aside-rooms compact a texts =
        all-parts (HasRoom w g.display_offset) (aside_rows compact a)
        (λ e. all-append (HasRoom w g.display_offset) (if compact then [] else blank a e.0 ∷ []) _ (one-or-none compact (blank a e.0) tt)
        (all-map (HasRoom w g.display_offset) (piece a e.0) _ (all-every (λ p. HasRoom w g.display_offset (piece a e.0 p)) (λ p. tt) (upto (length (lines e.1))))))
        (enumerate_from 0 texts)

    rooms : (is_last : Bool) (helps notes : List (List ℕ)) → HaveRoom (rows g.sheet is_last helps notes)
    unfolding rows
    rooms is_last helps notes =
        let compact = g.sheet.switches.compact in
        let top = group_header ∷ (if compact then [] else spacer ∷ []) in
        let body = joined (line_rows g.sheet) (group_lines g.sheet) in
        let aside = (if is_last then asides compact help helps ++ asides compact note notes else []) in
        let All = HasRoom w g.display_offset in
        all-append All (top ++ body ++ aside) _
        (all-append All (top ++ body) aside
        (all-append All top body (tt, one-or-none compact spacer tt)
        (all-joined All (λ l. l ≤ last_line g.sheet) (line_rows g.sheet) (group_lines g.sheet)
        line-rooms (all-group-lines _ g.sheet (λ l low high. high))))
        (cond_both is_last _ [] HaveRoom
        (λ _. all-append All _ (asides compact note notes) (aside-rooms compact help helps) (aside-rooms compact note notes)) (λ _. tt)))
        (one-or-none compact tail tt)

    pub wide-rows : AllByRecursion AreWide (section_rows t w g)
    unfolding section_rows
    wide-rows =
        let names = rows g.sheet g.is_last t.helps t.notes in
        all-map AreWide (row_pieces t w g) names
        (all-weaker (HasRoom w g.display_offset) (λ x. AreWide (row_pieces t w g x)) names wide-row (rooms g.is_last t.helps t.notes))

module _ {S Id : Type 0} (w : World S Id) (r : ReportFields S) where
  -- the number width has room for each group
  width-most : (gs : List (List LabelInfo)) (k : ℕ) (group : List LabelInfo) → slice_get gs k ≡ Some group
      → number_len (group_source w r group).display_offset (sheet_of w r group) ≤ number_width w r gs
  unfolding number_width greatest
  width-most [] k group e = absurd (none≢some group e)
  width-most (x ∷ gs) zero group e =
      let same : x ≡ group = cc in
      subst (λ y. number_len (group_source w r y).display_offset (sheet_of w r y) ≤ max (number_len (group_source w r x).display_offset (sheet_of w r x)) (number_width w r gs))
      same (omega arith)
  width-most (x ∷ gs) (suc k) group e = let more = width-most gs k group e in omega (arith, more)

  wide-outline : (infos : List LabelInfo) → AllByRecursion AreWide (outline w r infos)
  unfolding header_pieces section_of
  wide-outline infos =
      let gs = groups w r infos in
      let t = texts_of r in let m = number_width w r gs in let n = length gs in
      let IsNarrow : ℕ × List LabelInfo → Type 0 = λ e. number_len (group_source w r e.1).display_offset (sheet_of w r e.1) ≤ m in
      subst (AllByRecursion AreWide) (sym (outline-is w r infos)) (
        (refl, (refl, tt)),
        all-joined AreWide IsNarrow (λ e. section_rows t m (section_of w r n e)) (enumerate_from 0 gs)
            (λ e room. wide-rows t m (section_of w r n e) room)
            (all-numbered IsNarrow gs (λ k group e. width-most gs k group e)),
      )

-- each cell is that of its piece
pub columns-of-texts : {S Id : Type 0} (w : World S Id) (r : ReportFields S) (infos : List LabelInfo)
    → HaveColumnsOfTexts (canvas w r infos)
unfolding canvas
columns-of-texts w r infos =
    let pieces = outline w r infos in let cell = cell_of (palette_of r) in
    all-map (AllByRecursion HasColumnsOfText) (map cell) pieces
    (all-weaker AreWide (λ ps. AllByRecursion HasColumnsOfText (map cell ps)) pieces (λ ps a. all-map HasColumnsOfText cell ps a) (wide-outline w r infos))
