-- Finished pictures that were changed by hand, and that the placing of their rows' names doesn't read.
-- Each theorem computes the verdicts of the six clauses on the changed rows, so a clause that looks at
-- less lets one of them through.
use Rattle.std.specs.Prelude.{◌≡◌, Bool, true, false, refl, [], ◌∷◌, ◌++◌, List, take, drop}
use Rattle.ariadne_worked.proofs.Sample.{one, label, report, configured, compact_config, texts}
use Rattle.ariadne_worked.proofs.Readings.{nested, apart, wide}
use Rattle.ariadne_worked.proofs.Changes.{Rows, as_drawn, on_row, shows, is_blue, takes, plain, verdicts, verdicts_behind, all_hold, not_placed}
use Rattle.ariadne_worked.proofs.Changes.{no_message_rows, no_inline_traces, no_ends, no_bars, not_aligned, judged}

-- ---- the pictures

-- a label over two lines within one over three; here, for two labels on one line and for one on a wide character, a group of
-- one line stands in front that isn't counted
unfoldable of_nested : (Rows → Rows) → List Bool
of_nested = verdicts_behind (one "aa\nbb\ncc") nested

-- the same in two groups; lines without labels stand behind the first line of one
unfoldable of_apart : (Rows → Rows) → List Bool
of_apart = verdicts (one "aa\nbb\ncc") apart

-- a label on a wide character behind a tab
unfoldable of_wide : (Rows → Rows) → List Bool
of_wide = verdicts_behind (one "\t漢x") wide

-- two labels on one line
unfoldable of_fruit : (Rows → Rows) → List Bool
of_fruit = verdicts_behind (one "apple == orange;") (report (label 0 5 "apple" ∷ label 9 15 "orange" ∷ []))

-- a bare row between a label over two lines and another line
unfoldable of_far : (Rows → Rows) → List Bool
of_far = verdicts (one "aa\nbb\ncc\ndd\nee") (report (label 0 4 "two lines" ∷ label 13 14 "far" ∷ []))

-- three labels over the same lines. Row 7 has the head of the third one, in cell 7, row 10 its bar, and row 11 its message
unfoldable of_three : (Rows → Rows) → List Bool
of_three = verdicts (one "aaa\nbbb\nccc") (report (label 0 11 "x" ∷ label 1 10 "y" ∷ label 2 9 "z" ∷ []))

-- a compact picture whose last row is that of a note
unfoldable of_noted : (Rows → Rows) → List Bool
of_noted = verdicts (one "aa\nbb") (record (configured compact_config (label 0 5 "x" ∷ [])) { notes = texts ("n" ∷ []) })

unfoldable computed : Unit {0}
unfolding judged nested apart wide of_nested of_apart of_wide of_fruit of_far of_three of_noted
computed = tt

unchanged_nested_labels_are_read : of_nested as_drawn ≡ all_hold
unfolding computed
unchanged_nested_labels_are_read = refl

unchanged_labels_on_one_line_are_read : of_fruit as_drawn ≡ all_hold
unfolding computed
unchanged_labels_on_one_line_are_read = refl

unchanged_far_labels_are_read : of_far as_drawn ≡ all_hold
unfolding computed
unchanged_far_labels_are_read = refl

three_labels_are_read : of_three as_drawn ≡ all_hold
unfolding computed
three_labels_are_read = refl

a_compact_picture_with_a_note_is_read : of_noted as_drawn ≡ all_hold
unfolding computed
a_compact_picture_with_a_note_is_read = refl

-- ---- not placed

another_number_in_the_margin : of_nested (shows 6 1 "3 |") ≡ not_placed
unfolding computed
another_number_in_the_margin = refl

another_character_in_a_source_row : of_nested (shows 6 10 "x") ≡ not_placed
unfolding computed
another_character_in_a_source_row = refl

a_row_behind_the_last : of_wide (λ rows. rows ++ (plain "x" ∷ []) ∷ []) ≡ not_placed
unfolding computed
a_row_behind_the_last = refl

a_source_row_that_begins_with_two_blanks : of_nested (shows 6 0 "  ") ≡ not_placed
unfolding computed
a_source_row_that_begins_with_two_blanks = refl

a_source_row_with_a_stroke_behind_its_margin : of_nested (shows 6 2 "-") ≡ not_placed
unfolding computed
a_source_row_with_a_stroke_behind_its_margin = refl

a_row_below_a_line_that_begins_with_a_stroke : of_nested (shows 7 0 "|") ≡ not_placed
unfolding computed
a_row_below_a_line_that_begins_with_a_stroke = refl

a_row_below_a_line_with_a_stroke_behind_its_margin : of_nested (shows 7 2 "-") ≡ not_placed
unfolding computed
a_row_below_a_line_with_a_stroke_behind_its_margin = refl

-- ---- message rows

a_message_on_another_labels_row : of_nested (λ rows. shows 8 15 "all" (shows 11 14 "mid" rows)) ≡ no_message_rows
unfolding computed
a_message_on_another_labels_row = refl

a_message_in_color : of_nested (is_blue 8 15) ≡ no_message_rows
unfolding computed
a_message_in_color = refl

a_blank_in_color_before_a_message : of_wide (is_blue 5 11) ≡ no_message_rows
unfolding computed
a_blank_in_color_before_a_message = refl

another_message : of_wide (shows 5 12 "v") ≡ no_message_rows
unfolding computed
another_message = refl

text_behind_an_alternate_row : of_nested (on_row 4 (λ row. row ++ plain "x" ∷ [])) ≡ no_message_rows
unfolding computed
text_behind_an_alternate_row = refl

a_message_where_its_label_starts : of_nested (on_row 5 (λ row. row ++ plain " " ∷ plain "mid" ∷ [])) ≡ no_message_rows
unfolding computed
a_message_where_its_label_starts = refl

a_message_that_is_cut_short : of_fruit (shows 5 21 "appl") ≡ no_message_rows
unfolding computed
a_message_that_is_cut_short = refl

a_message_that_goes_on : of_fruit (shows 5 21 "apples") ≡ no_message_rows
unfolding computed
a_message_that_goes_on = refl

-- ---- inline traces

a_horizontal_that_ends_a_place_early : of_fruit (shows 5 19 " ") ≡ no_inline_traces
unfolding computed
a_horizontal_that_ends_a_place_early = refl

a_corner_without_its_vertical : of_fruit (shows 6 15 " ") ≡ no_inline_traces
unfolding computed
a_corner_without_its_vertical = refl

a_blank_in_a_horizontal_where_a_vertical_crosses_it : of_fruit (shows 5 15 " ") ≡ no_inline_traces
unfolding computed
a_blank_in_a_horizontal_where_a_vertical_crosses_it = refl

a_vertical_beside_its_character : of_wide (λ rows. shows 4 7 " " (shows 4 9 "|" rows)) ≡ no_inline_traces
unfolding computed
a_vertical_beside_its_character = refl

an_underline_with_a_hole_at_its_start : of_fruit (shows 4 3 " ") ≡ no_inline_traces
unfolding computed
an_underline_with_a_hole_at_its_start = refl

an_underline_with_a_hole_at_its_end : of_fruit (shows 4 17 " ") ≡ no_inline_traces
unfolding computed
an_underline_with_a_hole_at_its_end = refl

-- ---- ends of gutter traces

a_horizontal_out_of_the_gutter_that_ends_a_place_early : of_nested (shows 8 13 " ") ≡ no_ends
unfolding computed
a_horizontal_out_of_the_gutter_that_ends_a_place_early = refl

a_hole_right_behind_a_corner_in_the_gutter : of_nested (shows 8 6 " ") ≡ no_ends
unfolding computed
a_hole_right_behind_a_corner_in_the_gutter = refl

a_head_of_a_third_label_without_its_level : of_three (shows 7 11 " ") ≡ no_ends
unfolding computed
a_head_of_a_third_label_without_its_level = refl

a_blank_in_the_horizontal_to_a_message : of_nested (shows 8 9 " ") ≡ no_ends
unfolding computed
a_blank_in_the_horizontal_to_a_message = refl

a_head_without_its_vertical : of_nested (shows 4 10 " ") ≡ no_ends
unfolding computed
a_head_without_its_vertical = refl

a_blank_in_the_stroke_to_an_arrow_head : of_nested (shows 3 5 " ") ≡ no_ends
unfolding computed
a_blank_in_the_stroke_to_an_arrow_head = refl

a_blank_in_the_stroke_to_the_last_arrow_head : of_nested (shows 9 5 " ") ≡ no_ends
unfolding computed
a_blank_in_the_stroke_to_the_last_arrow_head = refl

a_hole_behind_the_head_that_an_arrow_head_leads_to : of_nested (shows 3 4 " ") ≡ no_ends
unfolding computed
a_hole_behind_the_head_that_an_arrow_head_leads_to = refl

a_hole_right_before_an_arrow_head : of_nested (shows 3 6 " ") ≡ no_ends
unfolding computed
a_hole_right_before_an_arrow_head = refl

a_hole_behind_a_tee : of_nested (shows 9 4 " ") ≡ no_ends
unfolding computed
a_hole_behind_a_tee = refl

a_letter_in_the_stroke_to_an_arrow_head : of_nested (shows 3 4 "x") ≡ no_ends
unfolding computed
a_letter_in_the_stroke_to_an_arrow_head = refl

a_bar_right_before_an_arrow_head : of_nested (shows 3 6 "|") ≡ no_ends
unfolding computed
a_bar_right_before_an_arrow_head = refl

a_blank_for_an_arrow_head_of_the_second_group : of_apart (shows 11 5 " ") ≡ no_ends
unfolding computed
a_blank_for_an_arrow_head_of_the_second_group = refl

-- ---- gutter bars

a_bar_of_a_third_label_with_a_hole : of_three (shows 10 7 " ") ≡ no_bars
unfolding computed
a_bar_of_a_third_label_with_a_hole = refl

a_bar_in_the_last_row_of_a_group : of_noted (shows 5 2 "|") ≡ no_bars
unfolding computed
a_bar_in_the_last_row_of_a_group = refl

a_bar_a_row_early : of_nested (shows 4 5 "|") ≡ no_bars
unfolding computed
a_bar_a_row_early = refl

a_bar_with_a_hole : of_nested (shows 7 3 " ") ≡ no_bars
unfolding computed
a_bar_with_a_hole = refl

a_gap_row_without_gutter_inside_a_label : of_apart (shows 4 3 " ") ≡ no_bars
unfolding computed
a_gap_row_without_gutter_inside_a_label = refl

a_gap_row_with_an_unbroken_bar : of_apart (shows 4 3 "|") ≡ no_bars
unfolding computed
a_gap_row_with_an_unbroken_bar = refl

a_gap_row_that_begins_with_two_blanks : of_apart (shows 4 0 "  ") ≡ no_bars
unfolding computed
a_gap_row_that_begins_with_two_blanks = refl

a_bar_with_a_hole_in_the_second_group : of_apart (shows 13 3 " ") ≡ no_bars
unfolding computed
a_bar_with_a_hole_in_the_second_group = refl

a_gap_row_that_ends_with_its_bar : of_apart (on_row 4 (λ row. take 4 row)) ≡ no_bars
unfolding computed
a_gap_row_that_ends_with_its_bar = refl

a_bare_row_inside_a_label : of_apart (on_row 4 (λ row. plain " " ∷ plain "  |" ∷ plain " " ∷ [])) ≡ no_bars
unfolding computed
a_bare_row_inside_a_label = refl

a_bare_row_with_strokes : of_far (on_row 7 (λ row. row ++ plain "|" ∷ plain " " ∷ plain " " ∷ plain " " ∷ [])) ≡ no_bars
unfolding computed
a_bare_row_with_strokes = refl

a_stroke_in_the_column_of_arrow_heads : of_nested (shows 7 7 "|") ≡ no_bars
unfolding computed
a_stroke_in_the_column_of_arrow_heads = refl

a_broken_stroke_in_the_column_of_arrow_heads : of_apart (shows 4 5 ":") ≡ no_bars
unfolding computed
a_broken_stroke_in_the_column_of_arrow_heads = refl

-- ---- alignment

a_wide_character_taken_as_one_column : of_wide (takes 3 7 1) ≡ not_aligned
unfolding computed
a_wide_character_taken_as_one_column = refl

a_blank_of_a_tab_taken_as_two_columns : of_wide (takes 3 3 2) ≡ not_aligned
unfolding computed
a_blank_of_a_tab_taken_as_two_columns = refl

an_arrow_row_whose_text_begins_a_column_early : of_wide (λ rows. shows 5 1 " |" (takes 5 1 2 rows)) ≡ not_aligned
unfolding computed
an_arrow_row_whose_text_begins_a_column_early = refl

a_character_of_two_columns_in_the_second_group : of_apart (takes 12 7 2) ≡ not_aligned
unfolding computed
a_character_of_two_columns_in_the_second_group = refl

a_stroke_of_two_columns : of_fruit (takes 4 4 2) ≡ not_aligned
unfolding computed
a_stroke_of_two_columns = refl

-- an arrow row without the blank of its margin: its strokes stand a place early, and so does its message
an_arrow_row_a_cell_early : of_wide (on_row 5 (λ row. take 2 row ++ drop 3 row)) ≡ true ∷ false ∷ false ∷ true ∷ true ∷ true ∷ []
unfolding computed
an_arrow_row_a_cell_early = refl
