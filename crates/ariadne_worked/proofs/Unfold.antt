-- Every word of the picture, to be unfolded together: `unfolding evaluated unicode_width` lets `refl` compute a picture.
use Rattle.std.specs.Fmt.{digits}
use Rattle.ariadne_base.specs.Lines.{is_separator, begins_with_line_feed, ends_line, in_front, full_lines_of, lines_of}
use Rattle.ariadne_base.specs.Locations.{line_offset, line_at, column_at, char_offset}
use Rattle.ariadne_picture.specs.Lists.{inserted, in_order, best, joined, total}
use Rattle.ariadne_picture.specs.Accept.{text_len, offset_in_chars, attach_offset, info_of, within, verdict}
use Rattle.ariadne_picture.specs.Groups.{ordered, is_cut, last_of, ahead, groups_of, greatest, least_below, group_end_line, group_start_line}
use Rattle.ariadne_picture.specs.Groups.{printed_number}
use Rattle.ariadne_picture.specs.Ranks.{is_inline, is_start, is_end, span_len, is_on_one_line, multi_line_labels, gutter_labels, gutter_label_ends, first_line, last_line, group_lines}
use Rattle.ariadne_picture.specs.Ranks.{ends_at, is_nearer_margin, margin_label, is_of_gutter_label, is_margin, inline_labels, is_before, line_labels}
use Rattle.ariadne_picture.specs.Ranks.{is_hidden_line, is_unlabelled, lines_near}
use Rattle.ariadne_picture.specs.Rows.{aside_part, before, label_rows, is_lone, lone_rows, is_inside, line_rows, aside_rows, asides, rows, row_key}
use Rattle.ariadne_picture.specs.Columns.{layout_of, char_columns, text_columns, shown, shown_columns, whole_column, whole_width, goes_on, letter_start, letter_end}
use Rattle.ariadne_picture.specs.Columns.{is_in, sight_in, mark_columns, columns_of, cut_columns, widened_part, widened, fits_with, context, place_part, span_part}
use Rattle.ariadne_picture.specs.Columns.{needed_labels, or_begin, needed_parts, parts_of, is_too_wide, sights_of, sight_of, column_of, width, places_to_end}
use Rattle.ariadne_picture.specs.Columns.{arrow_len}
use Rattle.ariadne_picture.specs.Strokes.{has_vertical, vertical_at, spot_of, is_crossed, holds, is_preferred, underlines_at, underline_at}
use Rattle.ariadne_picture.specs.Strokes.{rank_at, first_row, last_row, has_tee, bar_at}
use Rattle.ariadne_picture.specs.Cells.{glyph_code, alternate_ink, corner_glyph, arrow_ink, alternate_place, arrow_place, gutter_label_paint}
use Rattle.ariadne_picture.specs.Cells.{margin_glyph, turn_glyph, margin_ink, beside_ink, below_ink, turn_ink, column_ink}
use Rattle.ariadne_picture.specs.Pieces.{spaces, glyph_text, ink_pieces, painters, char_paint, shown_text, char_pieces, mark_text, seen_pieces, source_pieces}
use Rattle.ariadne_picture.specs.Pieces.{shown_pieces, area_pieces, margin_text, margin_paint, margin_pieces, column_size, gutter_len, gutter_pieces}
use Rattle.ariadne_picture.specs.Pieces.{location_text, group_header_pieces, spacer_pieces, repeated, tail_pieces, message_at, message_pieces, aside_texts}
use Rattle.ariadne_picture.specs.Pieces.{aside_name, aside_prefix, aside_line, aside_pieces, text_pieces, rest_pieces, row_pieces, section_rows}
use Rattle.ariadne_picture.specs.Canvas.{header_pieces, paint_color, color_of, label_id, is_same_id, same_source, texts_of, group_id, group_source}
use Rattle.ariadne_picture.specs.Canvas.{header_offset, section_of, groups, number_width, outline, sections, canvas}
use Rattle.ariadne_picture.specs.Print.{cell_bytes, line_bytes, printed, pieces_bytes, is_parameter, sequence_len, unescaped_after, unescaped}
use Rattle.ariadne_picture.specs.Placing.Cells.{is_glyph, is_level}
use Rattle.ariadne_picture.specs.Placing.Group.{shown_lines, column_cell, text_cell, place_cell, has_cell, shown_cells, messages_of}
use Rattle.ariadne_picture.specs.Placing.Rows.{row_at, cell_at, block_rows, holds_at_places, is_traced_at}
use Rattle.ariadne_picture.specs.Placing.Together.{unindented, has_margin, is_source_row, is_in_group, is_in_block, all_pairs, is_line_placed, is_gutter_label_placed, is_group_placed, is_placing}
use Rattle.ariadne_picture.specs.Placing.MessageRows.{is_message_row, are_block_ends, has_message_rows}
use Rattle.ariadne_picture.specs.Placing.InlineTraces.{is_inline_traced, is_underlined, has_inline_traces}
use Rattle.ariadne_picture.specs.Placing.GutterEnds.{is_level_right_of, is_end_traced, is_start_traced, leads_on, is_pointed, has_ends_of_gutter_traces}
use Rattle.ariadne_picture.specs.Placing.GutterBars.{ends_in, gutter_rows, is_gap_row, is_bar, is_column_traced, is_last_column_free, has_gutter_bars}
use Rattle.ariadne_picture.specs.Placing.Alignment.{columns_before, is_line_aligned, is_aligned}
use Rattle.ariadne_picture.specs.Blocks.{block_size, has_whole_blocks}
use Rattle.ariadne_picture.specs.Causes.{is_upright, is_stroke_of, inline_trace, end_trace, start_trace, gutter_traces, traces_below, is_underline_of}
use Rattle.ariadne_picture.specs.Causes.{has_cause, is_place_caused, is_line_caused, has_no_other_strokes}
use Rattle.ariadne_picture.specs.GutterCauses.{has_gutter_level, has_gutter_arrow, is_own_gutter_stroke, is_gutter_stroke_of, has_gutter_cause}
use Rattle.ariadne_picture.specs.GutterCauses.{is_gutter_column_caused, has_no_other_gutter_strokes}
use Rattle.ariadne_picture.specs.LabelColors.{has_color, is_covered, is_vertical_colored_in, is_vertical_colored, is_inline_colored, is_end_colored}
use Rattle.ariadne_picture.specs.LabelColors.{is_start_colored, is_pointer_colored, is_bar_colored, is_gutter_label_colored, has_label_colors}

unfoldable pub evaluated : Unit {0}
unfolding digits is_separator begins_with_line_feed ends_line in_front full_lines_of lines_of line_offset line_at column_at char_offset inserted
    in_order best joined total text_len offset_in_chars attach_offset info_of within verdict ordered is_cut
    last_of ahead groups_of greatest least_below group_end_line group_start_line first_line last_line group_lines printed_number is_inline is_start is_end
    span_len is_on_one_line multi_line_labels gutter_labels gutter_label_ends ends_at is_nearer_margin margin_label is_of_gutter_label is_margin
    inline_labels is_before line_labels is_unlabelled lines_near is_hidden_line aside_part row_key before label_rows is_lone lone_rows is_inside line_rows aside_rows asides rows
    layout_of char_columns text_columns shown shown_columns whole_column whole_width goes_on letter_start letter_end
    is_in sight_in mark_columns columns_of cut_columns widened_part widened fits_with context place_part span_part needed_labels or_begin
    needed_parts parts_of is_too_wide sights_of sight_of column_of width places_to_end arrow_len has_vertical vertical_at spot_of
    is_crossed holds is_preferred underlines_at underline_at rank_at first_row last_row has_tee bar_at glyph_code
    alternate_ink corner_glyph arrow_ink alternate_place arrow_place gutter_label_paint margin_glyph turn_glyph margin_ink beside_ink below_ink
    turn_ink column_ink spaces glyph_text ink_pieces painters char_paint shown_text char_pieces mark_text seen_pieces source_pieces shown_pieces area_pieces
    margin_text margin_paint margin_pieces column_size gutter_len gutter_pieces location_text group_header_pieces spacer_pieces repeated tail_pieces
    message_at message_pieces aside_texts aside_name aside_prefix aside_line aside_pieces text_pieces rest_pieces row_pieces section_rows header_pieces paint_color color_of
    label_id is_same_id same_source texts_of group_id group_source header_offset section_of groups number_width outline sections
    canvas cell_bytes line_bytes printed pieces_bytes is_parameter sequence_len unescaped_after unescaped is_glyph is_level unindented ends_in row_at
    cell_at shown_lines column_cell text_cell place_cell has_cell block_rows holds_at_places is_traced_at is_level_right_of shown_cells
    has_margin is_source_row is_in_group is_in_block all_pairs messages_of is_line_placed is_gutter_label_placed is_group_placed
    is_placing is_message_row are_block_ends has_message_rows is_inline_traced is_underlined has_inline_traces is_end_traced is_start_traced
    leads_on is_pointed has_ends_of_gutter_traces gutter_rows is_gap_row is_bar is_column_traced is_last_column_free has_gutter_bars columns_before
    is_line_aligned is_aligned block_size has_whole_blocks is_upright is_stroke_of inline_trace end_trace start_trace gutter_traces traces_below
    is_underline_of has_cause is_place_caused is_line_caused has_no_other_strokes has_gutter_level has_gutter_arrow is_own_gutter_stroke
    is_gutter_stroke_of has_gutter_cause is_gutter_column_caused has_no_other_gutter_strokes has_color is_covered is_vertical_colored_in is_vertical_colored
    is_inline_colored is_end_colored is_start_colored is_pointer_colored is_bar_colored is_gutter_label_colored has_label_colors
evaluated = tt
