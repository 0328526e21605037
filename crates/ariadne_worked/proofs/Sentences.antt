-- What may be taken from each sentence of the headline: what is proved here needs each field of the records, and no field of a
-- premise that these reports don't meet.
use Rattle.std.proofs.Common.{◌≡◌, ◌⊎◌, ℕ, true, List, Option}
use Rattle.std.specs.Cmp.Derive.{both_true}
use Rattle.std.specs.Prelude.{Some, [], ◌∷◌, slice_get, Contains, IsPermutation}
use Rattle.std.specs.List.{AllByRecursion}
use Rattle.ariadne_color.specs.declared.color.Color.{Color}
use Rattle.ariadne_picture.specs.declared.cell.Paint.{Paint}
use Rattle.ariadne_picture.specs.declared.cell.Paint.TheVariants.{Label}
use Rattle.ariadne_picture.specs.declared.label_info.LabelInfo.{LabelInfo}
use Rattle.ariadne_picture.specs.declared.verdict.Verdict.TheVariants.{Accepted}
use Rattle.ariadne_picture.specs.Report.{ReportFields, World, switches_of}
use Rattle.ariadne_picture.specs.Pieces.{Section, Texts, message_at}
use Rattle.ariadne_picture.specs.Canvas.{Cell, canvas, color_of, palette_of, sections, texts_of}
use Rattle.ariadne_picture.specs.Print.{printed, erased, unescaped}
use Rattle.ariadne_picture.specs.Sent.{HaveColumnsOfTexts, HaveNoLineFeeds, RowsAreLines, row_text}
use Rattle.ariadne_picture.specs.Ranks.{gutter_labels, is_on_one_line}
use Rattle.ariadne_picture.specs.Placing.Group.{messages_of, shown_lines}
use Rattle.ariadne_picture.specs.Placing.Rows.{Placing}
use Rattle.ariadne_picture.specs.LabelColors.{has_label_colors}
use Rattle.ariadne_picture.specs.LoneLines.{has_lone_underlines}
use Rattle.ariadne_picture.specs.OtherRows.{has_other_rows}
use Rattle.ariadne_picture.specs.TextColors.{has_text_colors}
use Rattle.ariadne_picture.specs.ReadBack.{HaveShortNumbers, HaveWholeLines, IsReadBack, IsReadBackByGutters, group_sources}
use Rattle.ariadne_picture.specs.ReadBack.{group_sources_and_gutters, headers_told, labels_told, read_back, read_headers}
use Rattle.ariadne_picture.specs.Readings.{AgreeOnEnds, HasSameRow, AreTwins, attach_column}
use Rattle.ariadne_picture.specs.Variants.{HaveNoEscapes, ColorsMoveNothing, BytesDrawAsCharacters, colorless, char_world, char_report, verdict_at}
use Rattle.ariadne_picture.specs.Headline.{IsReadBy, IsTraced, AreReadInOneWay, Headline}
use Rattle.ariadne_picture.proofs.Rows.RowPlacing.{is_read}
use Rattle.ariadne_worked.proofs.Sample.{world, one, drawn}
use Rattle.ariadne_worked.proofs.Readings.{infos}
use Rattle.ariadne_worked.proofs.Changes.{plain}
use Rattle.ariadne_worked.proofs.Premises.{sources, colored, no_text_has_an_escape, no_row_is_cut, lines_have_short_numbers, in_bytes, its_own_start_is_a_boundary}

-- row numbers that a picture is read by meet every clause
all_clauses : (rows : List (List Cell)) (groups : List Section) (t : Texts) (p : Placing) → IsReadBy rows groups (message_at t) p
    → is_read rows groups t p ≡ true
unfolding is_read
all_clauses rows groups t p h =
    both_true (both_true (both_true (both_true (both_true (both_true (both_true (both_true h.rows_belong_together h.each_message_has_one_row_of_its_own)
    h.strokes_lead_from_it_to_the_attach_character) h.or_to_both_ends_of_the_gutter_column) h.and_along_the_gutter_column)
    h.in_the_columns_where_the_source_row_shows_them) h.blocks_are_whole) h.and_no_stroke_stands_elsewhere)
    h.nor_in_the_gutter

-- the headline is all of these
all_sentences : {S Id : Type 0} (w : World S Id) (r : ReportFields S) (labels : List LabelInfo) (bytes : List ℕ)
    → Headline w r labels bytes
    → (bytes ≡ printed (canvas w r labels))
    × IsTraced (canvas w r labels) (sections w r labels) (texts_of r) (color_of (palette_of r))
    × AreReadInOneWay (canvas w r labels) (sections w r labels) (message_at (texts_of r))
    × (HaveShortNumbers w → HaveWholeLines w r labels → IsReadBack w r labels)
    × (HaveShortNumbers w → IsReadBackByGutters w r labels)
    × HaveColumnsOfTexts (canvas w r labels) × (HaveNoEscapes w r → HaveNoLineFeeds w r → RowsAreLines (canvas w r labels))
    × ColorsMoveNothing w r labels × BytesDrawAsCharacters w r labels
all_sentences w r labels bytes h = (
  h.they_are_exactly_the_printed_canvas,
  h.each_message_is_traced,
  h.in_one_way,
  h.and_can_be_read_back,
  h.by_their_gutters_also_where_lines_are_cut,
  h.each_cell_takes_the_columns_of_its_text,
  h.its_rows_are_the_lines_that_are_sent,
  h.colors_move_nothing,
  h.bytes_draw_as_characters,
)

-- the cells and the bytes of a report in colours are those of the same report without
without_colors : let labels = infos sources colored in
    ColorsMoveNothing (world sources) colored labels
    → (erased (canvas (world sources) colored labels) ≡ canvas (world sources) (colorless colored) labels)
    × (unescaped (printed (canvas (world sources) colored labels)) ≡ printed (canvas (world sources) (colorless colored) labels))
without_colors h = (h.cells, h.bytes no_text_has_an_escape)

-- what its rows tell, with its sources and switches alone, is what its labels are, and what its headers are to say
told_back : let w = world sources in
    let labels = infos sources colored in
    (HaveShortNumbers w → HaveWholeLines w colored labels → IsReadBack w colored labels)
    → HaveWholeLines w colored labels
    → IsPermutation (read_back (canvas w colored labels) (group_sources w colored labels) (switches_of colored.config))
    (labels_told (message_at (texts_of colored)) (sections w colored labels))
    × (read_headers (canvas w colored labels) (group_sources w colored labels) (switches_of colored.config)
    ≡ headers_told (texts_of colored) (sections w colored labels))
told_back h whole = let back = h lines_have_short_numbers whole in (back.labels, back.headers)

-- and so is what they tell one who also knows how many gutter columns its groups have
told_back_by_gutters : let w = world sources in
    let labels = infos sources colored in
    (HaveShortNumbers w → IsReadBackByGutters w colored labels)
    → IsPermutation (read_back (canvas w colored labels) (group_sources_and_gutters w colored labels) (switches_of colored.config))
    (labels_told (message_at (texts_of colored)) (sections w colored labels))
    × (read_headers (canvas w colored labels) (group_sources_and_gutters w colored labels) (switches_of colored.config)
    ≡ headers_told (texts_of colored) (sections w colored labels))
told_back_by_gutters h = let back = h lines_have_short_numbers in (back.labels, back.headers)

-- its rows are the lines that are sent
whole_lines : let labels = infos sources colored in
    (HaveNoEscapes (world sources) colored → HaveNoLineFeeds (world sources) colored → RowsAreLines (canvas (world sources) colored labels))
    → RowsAreLines (canvas (world sources) colored labels)
whole_lines h = h no_text_has_an_escape no_row_is_cut

-- a report in bytes draws as the one in characters, which accepts its labels
in_characters : let w = world (one "éb") in
    let labels = infos (one "éb") in_bytes in
    BytesDrawAsCharacters w in_bytes labels
    → AllByRecursion (λ (a : LabelInfo). verdict_at (char_world w in_bytes) (char_report w in_bytes) a.position ≡ Some (Accepted a)) labels
    × (canvas w in_bytes labels ≡ canvas (char_world w in_bytes) (char_report w in_bytes) labels)
in_characters h = (h.labels, h.cells its_own_start_is_a_boundary)

-- a picture that can be read has row numbers that meet every clause, the colours of its labels, and lines of underlines alone
row_numbers : (rows : List (List Cell)) (groups : List Section) (t : Texts) (color_of_paint : Paint → Option Color)
    → IsTraced rows groups t color_of_paint
    → (p : Placing) × (is_read rows groups t p ≡ true) × (has_label_colors rows groups p (λ k. color_of_paint (Label k)) ≡ true)
    × (has_lone_underlines rows groups p (λ k. color_of_paint (Label k)) ≡ true) × (has_text_colors rows groups p color_of_paint ≡ true)
    × (has_other_rows rows groups p t ≡ true)
row_numbers rows groups t color_of_paint h = (
  h.placing,
  all_clauses rows groups t h.placing h.reads,
  h.strokes_have_the_colors_of_their_labels,
  h.lines_without_messages_are_underlined,
  h.characters_and_underlines_have_theirs,
  h.other_rows_show_what_is_theirs,
)

-- two readings of a picture have one row for each line, for the head of each gutter label, and for each message but those of twins
module _ (rows : List (List Cell)) (groups : List Section) (message_of : ℕ → List ℕ) (one : AreReadInOneWay rows groups message_of) (p q : Placing)
    (by_p : IsReadBy rows groups message_of p) (by_q : IsReadBy rows groups message_of q) where
  one_row_of_a_line : (g : ℕ) (s : Section) (l : ℕ) → slice_get groups g ≡ Some s → Contains (shown_lines s) l → p.source_row g l ≡ q.source_row g l
  one_row_of_a_line = (one p q by_p by_q).lines

  one_row_of_a_head : (g : ℕ) (s : Section) (i : ℕ) (a : LabelInfo) → slice_get groups g ≡ Some s → slice_get (gutter_labels s.sheet.labels) i ≡ Some a
      → p.head_row g i ≡ q.head_row g i
  one_row_of_a_head = (one p q by_p by_q).heads

  one_row_of_a_message : (g : ℕ) (s : Section) (a : LabelInfo) → slice_get groups g ≡ Some s → Contains (messages_of s) a
      → HasSameRow message_of s p q a
  one_row_of_a_message = (one p q by_p by_q).messages

-- the message of a gutter label has one row in two placings that agree on ends
one_row_of_an_end : (groups : List Section) (p q : Placing) → AgreeOnEnds groups p q
    → (g : ℕ) (s : Section) (i : ℕ) (a : LabelInfo) → slice_get groups g ≡ Some s → slice_get (gutter_labels s.sheet.labels) i ≡ Some a
    → p.message_row a.position ≡ q.message_row a.position
one_row_of_an_end groups p q h = h

-- a row that has a message in two placings has that of one label in both, or those of twins
whose_message_it_has : (message_of : ℕ → List ℕ) (s : Section) (p q : Placing) (a : LabelInfo) → HasSameRow message_of s p q a
    → (b : LabelInfo) × Contains (messages_of s) b × (p.message_row a.position ≡ q.message_row b.position)
    × ((a ≡ b) ⊎ AreTwins message_of s a b)
whose_message_it_has message_of s p q a h = (h.label, h.there, h.same_row, h.same_label)

-- twins are two labels within one line, with one message, attached at one column
what_twins_share : (message_of : ℕ → List ℕ) (s : Section) (a b : LabelInfo) → AreTwins message_of s a b
    → (is_on_one_line a ≡ true) × (is_on_one_line b ≡ true) × (a.start_line ≡ b.start_line)
    × (message_of a.position ≡ message_of b.position) × (attach_column s a ≡ attach_column s b)
what_twins_share message_of s a b h = (h.first_within_a_line, h.second_within_a_line, h.same_line, h.same_message, h.same_column)

-- rows whose cells don't take the columns of their texts, and that are no lines
a_wide_character_in_one_column : HaveColumnsOfTexts ((plain "漢" ∷ []) ∷ []) → ⊥
unfolding drawn plain
a_wide_character_in_one_column h = let e = h.0.0 in cc

a_letter_in_two_columns : HaveColumnsOfTexts ((record (plain "a") { columns = 2 } ∷ []) ∷ []) → ⊥
unfolding drawn plain
a_letter_in_two_columns h = let e = h.0.0 in cc

a_wide_character_in_the_second_cell : HaveColumnsOfTexts ((plain "a" ∷ plain "漢" ∷ []) ∷ []) → ⊥
unfolding drawn plain
a_wide_character_in_the_second_cell h = let e = h.0.1.0 in cc

a_wide_character_in_the_second_row : HaveColumnsOfTexts ((plain "a" ∷ []) ∷ (plain "漢" ∷ []) ∷ []) → ⊥
unfolding drawn plain
a_wide_character_in_the_second_row h = let e = h.1.0.0 in cc

a_row_with_a_line_feed : RowsAreLines ((plain "a\nb" ∷ []) ∷ []) → ⊥
unfolding drawn plain row_text
a_row_with_a_line_feed h = cc

a_second_row_with_a_line_feed : RowsAreLines ((plain "a" ∷ []) ∷ (plain "a\nb" ∷ []) ∷ []) → ⊥
unfolding drawn plain row_text
a_second_row_with_a_line_feed h = cc
