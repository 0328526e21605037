-- Finished pictures in box-drawing characters that were changed by hand, and that the placing of their
-- rows' names doesn't read: the verdicts of the six clauses, by computation. In ASCII a tee, a bar and the stroke below an
-- underline are one character, and so are an underline and the corner below a last character: here they are told apart.
-- What is refused stands in a second group or a later one.
use Rattle.std.specs.Prelude.{◌≡◌, Bool, true, false, refl, [], ◌∷◌, ◌++◌, List, take}
use Rattle.ariadne_worked.proofs.Sample.{one, label, silent_label, configured, unicode_config}
use Rattle.ariadne_worked.proofs.Changes.{Rows, as_drawn, on_row, shows, plain, verdicts, verdicts_behind, all_hold, not_placed}
use Rattle.ariadne_worked.proofs.Changes.{no_message_rows, no_inline_traces, no_ends, no_bars, judged}

-- ---- the pictures, with the numbers of their rows. Cell 1 is the margin and cell 3 the first of the gutter or, where
-- there is none, of the text; a gutter column has two cells. A group of one line stands in front of all but one of them,
-- and isn't counted

--     3   1 │ ╭───▶ aa
--     4     │ │      ▲
--     5     │ │ ╭────╯
--     6     ┆ ┆ ┆
--     7   3 │ │ ├─▶ cc
--     8     │ │ │    ▲
--     9     │ │ ╰─────── near
--    10     │ │      │
--    11     │ ╰──────┴── far
unfoldable of_crossed : (Rows → Rows) → List Bool
of_crossed = verdicts_behind (one "aa\nbb\ncc") (configured unicode_config (label 0 8 "far" ∷ label 1 7 "near" ∷ []))

-- a second group, with a label within a line
--
--     9     ├─[ <unknown>:1:1 ]
--    10     │
--    11   2 │ cd
--    12     │ ─┬
--    13     │  ╰── n
unfoldable of_two : (Rows → Rows) → List Bool
of_two = verdicts (one "ab\ncd\nef") (configured unicode_config (label 0 8 "over" ∷ label 3 5 "n" ∷ []))

-- a label without message before one that has a message
--
--     3   1 │ ab cd
--     4     │ ── ─┬
--     5     │     ╰── n
unfoldable of_silent : (Rows → Rows) → List Bool
of_silent = verdicts_behind (one "ab cd") (configured unicode_config (silent_label 0 2 ∷ label 3 5 "n" ∷ []))

-- a label within the line where one over several lines ends
--
--     3   1 │ ╭─▶ ab
--     4   2 │ ├─▶ cd ef
--     5     │ │      ─┬
--     6     │ ╰────────── over
--     7     │         │
--     8     │         ╰── n
unfoldable of_mixed : (Rows → Rows) → List Bool
of_mixed = verdicts_behind (one "ab\ncd ef") (configured unicode_config (label 0 5 "over" ∷ label 6 8 "n" ∷ []))

-- two labels over several lines of which the first ends within the second
--
--     4   2 │ │ ╭─▶ cd
--     5   3 │ ├───▶ ef
--     6     │ │ │
--     7     │ ╰─────── first
unfoldable of_chained : (Rows → Rows) → List Bool
of_chained = verdicts_behind (one "ab\ncd\nef\ngh") (configured unicode_config (label 0 8 "first" ∷ label 4 10 "second" ∷ []))

unfoldable computed : Unit {0}
unfolding judged of_crossed of_two of_silent of_mixed of_chained
computed = tt

unchanged_crossed_labels_are_read : of_crossed as_drawn ≡ all_hold
unfolding computed
unchanged_crossed_labels_are_read = refl

unchanged_labels_in_two_groups_are_read : of_two as_drawn ≡ all_hold
unfolding computed
unchanged_labels_in_two_groups_are_read = refl

an_unchanged_label_without_message_is_read : of_silent as_drawn ≡ all_hold
unfolding computed
an_unchanged_label_without_message_is_read = refl

unchanged_labels_at_an_end_are_read : of_mixed as_drawn ≡ all_hold
unfolding computed
unchanged_labels_at_an_end_are_read = refl

unchanged_chained_labels_are_read : of_chained as_drawn ≡ all_hold
unfolding computed
unchanged_chained_labels_are_read = refl

-- ---- not placed

a_row_below_a_line_without_a_margin : of_crossed (shows 10 1 "   ") ≡ not_placed
unfolding computed
a_row_below_a_line_without_a_margin = refl

a_row_below_a_line_with_the_number_of_the_line : of_crossed (shows 10 1 "3 │") ≡ not_placed
unfolding computed
a_row_below_a_line_with_the_number_of_the_line = refl

a_digit_in_front_of_a_number : of_crossed (shows 7 1 "13 │") ≡ not_placed
unfolding computed
a_digit_in_front_of_a_number = refl

-- ---- message rows

a_stroke_before_a_message : of_crossed (shows 9 13 "─") ≡ no_message_rows
unfolding computed
a_stroke_before_a_message = refl

text_behind_a_message : of_crossed (on_row 9 (λ row. row ++ plain "x" ∷ [])) ≡ no_message_rows
unfolding computed
text_behind_a_message = refl

another_message_in_the_second_group : of_two (shows 13 8 "x") ≡ no_message_rows
unfolding computed
another_message_in_the_second_group = refl

-- ---- inline traces

a_blank_in_a_horizontal_of_the_second_group : of_two (shows 13 5 " ") ≡ no_inline_traces
unfolding computed
a_blank_in_a_horizontal_of_the_second_group = refl

a_horizontal_for_a_corner : of_two (shows 13 4 "─") ≡ no_inline_traces
unfolding computed
a_horizontal_for_a_corner = refl

an_underline_with_a_hole_below_a_label_without_message : of_silent (shows 4 3 " ") ≡ no_inline_traces
unfolding computed
an_underline_with_a_hole_below_a_label_without_message = refl

an_underline_with_a_hole_above_the_end_of_a_longer_label : of_mixed (shows 5 10 " ") ≡ no_inline_traces
unfolding computed
an_underline_with_a_hole_above_the_end_of_a_longer_label = refl

a_bar_in_a_horizontal_of_the_second_group : of_two (shows 13 5 "│") ≡ no_inline_traces
unfolding computed
a_bar_in_a_horizontal_of_the_second_group = refl

-- ---- ends of gutter traces: beside a line

a_bar_for_the_tee_where_a_label_ends : of_crossed (shows 7 5 "│") ≡ no_ends
unfolding computed
a_bar_for_the_tee_where_a_label_ends = refl

no_arrow_head_where_a_label_ends : of_crossed (shows 7 7 "─") ≡ no_ends
unfolding computed
no_arrow_head_where_a_label_ends = refl

no_arrow_head_where_a_label_starts : of_crossed (shows 3 7 "─") ≡ no_ends
unfolding computed
no_arrow_head_where_a_label_starts = refl

a_bar_below_the_last_character_of_a_label_that_ends_beside_its_line : of_crossed (shows 9 9 "│") ≡ no_ends
unfolding computed
a_bar_below_the_last_character_of_a_label_that_ends_beside_its_line = refl

-- ---- ends of gutter traces: below a line

a_horizontal_for_the_corner_below_the_first_character : of_crossed (shows 5 10 "─") ≡ no_ends
unfolding computed
a_horizontal_for_the_corner_below_the_first_character = refl

a_horizontal_for_the_corner_below_the_last_character : of_crossed (shows 11 10 "─") ≡ no_ends
unfolding computed
a_horizontal_for_the_corner_below_the_last_character = refl

a_blank_above_the_corner_below_the_last_character : of_crossed (shows 10 10 " ") ≡ no_ends
unfolding computed
a_blank_above_the_corner_below_the_last_character = refl

a_blank_in_the_gutter_behind_a_head : of_crossed (shows 5 7 " ") ≡ no_ends
unfolding computed
a_blank_in_the_gutter_behind_a_head = refl

a_blank_in_the_gutter_behind_a_corner : of_crossed (shows 9 7 " ") ≡ no_ends
unfolding computed
a_blank_in_the_gutter_behind_a_corner = refl

an_arrow_head_in_the_gutter_behind_a_corner : of_crossed (shows 9 7 "▶") ≡ no_ends
unfolding computed
an_arrow_head_in_the_gutter_behind_a_corner = refl

a_blank_before_the_first_character : of_crossed (shows 5 9 " ") ≡ no_ends
unfolding computed
a_blank_before_the_first_character = refl

a_bar_before_the_first_character : of_crossed (shows 5 9 "│") ≡ no_ends
unfolding computed
a_bar_before_the_first_character = refl

a_bar_before_the_last_character : of_crossed (shows 11 9 "│") ≡ no_ends
unfolding computed
a_bar_before_the_last_character = refl

a_blank_between_the_last_character_and_the_message : of_crossed (shows 11 12 " ") ≡ no_ends
unfolding computed
a_blank_between_the_last_character_and_the_message = refl

a_bar_in_the_horizontal_to_a_message : of_crossed (shows 11 11 "│") ≡ no_ends
unfolding computed
a_bar_in_the_horizontal_to_a_message = refl

two_strokes_in_a_cell : of_crossed (shows 11 11 "──") ≡ no_ends
unfolding computed
two_strokes_in_a_cell = refl

-- ---- gutter bars

a_blank_in_a_bar_beside_a_line : of_crossed (shows 7 3 " ") ≡ no_bars
unfolding computed
a_blank_in_a_bar_beside_a_line = refl

-- the label whose message this is stands behind the bar, so its horizontal doesn't cross it
a_horizontal_in_a_bar_before_the_label_of_the_row : of_crossed (shows 9 3 "─") ≡ no_bars
unfolding computed
a_horizontal_in_a_bar_before_the_label_of_the_row = refl

a_horizontal_in_a_bar_where_none_crosses_it : of_crossed (shows 8 5 "─") ≡ no_bars
unfolding computed
a_horizontal_in_a_bar_where_none_crosses_it = refl

a_broken_bar_below_a_line : of_crossed (shows 8 3 "┆") ≡ no_bars
unfolding computed
a_broken_bar_below_a_line = refl

a_bar_below_its_corner : of_crossed (shows 10 5 "│") ≡ no_bars
unfolding computed
a_bar_below_its_corner = refl

a_bar_beside_a_line_before_its_head : of_crossed (shows 3 5 "│") ≡ no_bars
unfolding computed
a_bar_beside_a_line_before_its_head = refl

a_broken_bar_before_its_head : of_crossed (shows 4 5 "┆") ≡ no_bars
unfolding computed
a_broken_bar_before_its_head = refl

a_crossing_before_the_head_of_a_bar : of_crossed (shows 4 5 "┼") ≡ no_bars
unfolding computed
a_crossing_before_the_head_of_a_bar = refl

a_broken_bar_beside_a_line : of_crossed (shows 7 3 "┆") ≡ no_bars
unfolding computed
a_broken_bar_beside_a_line = refl

an_unbroken_bar_in_a_gap_row : of_crossed (shows 6 3 "│") ≡ no_bars
unfolding computed
an_unbroken_bar_in_a_gap_row = refl

a_gap_row_that_ends_in_the_gutter : of_crossed (on_row 6 (λ row. take 6 row)) ≡ no_bars
unfolding computed
a_gap_row_that_ends_in_the_gutter = refl

-- ---- two clauses refuse these

-- each asks for the head
a_horizontal_for_the_head_of_a_bar : of_crossed (shows 3 3 "─") ≡ true ∷ true ∷ true ∷ false ∷ false ∷ true ∷ []
unfolding computed
a_horizontal_for_the_head_of_a_bar = refl

-- the stroke to the arrow head is broken, and the column isn't free
a_letter_in_the_stroke_to_an_arrow_head : of_crossed (shows 3 5 "x") ≡ true ∷ true ∷ true ∷ false ∷ false ∷ true ∷ []
unfolding computed
a_letter_in_the_stroke_to_an_arrow_head = refl

-- the first label's horizontal is broken, and the second one's bar
a_letter_where_a_horizontal_crosses_a_bar : of_chained (shows 7 5 "x") ≡ true ∷ true ∷ true ∷ false ∷ false ∷ true ∷ []
unfolding computed
a_letter_where_a_horizontal_crosses_a_bar = refl

-- the bar has no end, and the label's trace no corner
a_horizontal_for_the_corner_of_a_bar : of_crossed (shows 9 5 "─") ≡ true ∷ true ∷ true ∷ false ∷ false ∷ true ∷ []
unfolding computed
a_horizontal_for_the_corner_of_a_bar = refl

-- it is too short for the places of its block, and too short beside the row above
an_alternate_row_without_its_last_cell : of_crossed (on_row 10 (λ row. take 12 row)) ≡ true ∷ false ∷ true ∷ true ∷ true ∷ false ∷ []
unfolding computed
an_alternate_row_without_its_last_cell = refl
