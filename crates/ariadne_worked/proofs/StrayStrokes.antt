-- The clause on other strokes, by computation: it holds on finished pictures, by the placing that the names of their rows give,
-- and alone refuses pictures with a stroke that no label has there.
use Rattle.std.specs.Prelude.{◌≡◌, Bool, true, false, refl, [], ◌∷◌, ◌++◌, List}
use Rattle.ariadne_picture.specs.Report.{ConfigFields}
use Rattle.ariadne_worked.proofs.Sample.{one, label, silent_label, report, configured, ascii_config, compact_config, unicode_config}
use Rattle.ariadne_worked.proofs.Readings.{choose, nested, apart, wide}
use Rattle.ariadne_worked.proofs.Changes.{Rows, as_drawn, on_row, shows, plain, further_verdicts, further_verdicts_by, further_verdicts_behind, judged}

-- the six clauses of `verdicts`, whole blocks, no other strokes
abbrev all_hold : List Bool
all_hold = true ∷ true ∷ true ∷ []

-- only the last one refuses it
abbrev stray : List Bool
stray = true ∷ true ∷ false ∷ []

-- ---- the pictures: of the first, of two labels on one line and of crossed ones a group of one line stands in front, and
-- isn't counted

unfoldable of_nested : (Rows → Rows) → List Bool
of_nested = further_verdicts_behind (one "aa\nbb\ncc") nested

unfoldable of_apart : (Rows → Rows) → List Bool
of_apart = further_verdicts (one "aa\nbb\ncc") apart

unfoldable of_wide : (Rows → Rows) → List Bool
of_wide = further_verdicts (one "\t漢x") wide

unfoldable of_fruit : (Rows → Rows) → List Bool
of_fruit = further_verdicts_behind (one "apple == orange;") (report (label 0 5 "apple" ∷ label 9 15 "orange" ∷ []))

unfoldable of_far : (Rows → Rows) → List Bool
of_far = further_verdicts (one "aa\nbb\ncc\ndd\nee") (report (label 0 4 "two lines" ∷ label 13 14 "far" ∷ []))

-- the same in other forms
unfoldable fruit_in : ConfigFields → (Rows → Rows) → List Bool
fruit_in config = further_verdicts_behind (one "apple == orange;") (configured config (label 0 5 "apple" ∷ label 9 15 "orange" ∷ []))

unfoldable crossed : ConfigFields
crossed = record ascii_config { cross_gap = false }

unfoldable bare_config : ConfigFields
bare_config = record ascii_config { underlines = false; multiline_arrows = false }

-- a label that starts at the margin and ends below, and one that starts below and ends at the margin
unfoldable of_crossed : (Rows → Rows) → List Bool
of_crossed = further_verdicts_behind (one "aa\nbb\ncc") (configured unicode_config (label 0 8 "far" ∷ label 1 7 "near" ∷ []))

-- a label without message above a line that begins with a blank
unfoldable of_silent : (Rows → Rows) → List Bool
of_silent = further_verdicts (one "a\n b") (report (silent_label 0 1 ∷ label 3 4 "m" ∷ []))

-- a label on a character that takes no column: the text is e, U+0301, x
unfoldable of_accent : (Rows → Rows) → List Bool
of_accent = further_verdicts (one "éx") (report (label 1 2 "m" ∷ []))

-- a label in each of two lines
unfoldable of_two_lines : (Rows → Rows) → List Bool
of_two_lines = further_verdicts (one "ab\ncd") (report (label 0 1 "m" ∷ label 4 5 "n" ∷ []))

-- a line above one where a label over several lines starts that has its head below
unfoldable of_late : (Rows → Rows) → List Bool
of_late = further_verdicts (one "ab\ncd\nef") (report (label 0 1 "m" ∷ label 3 7 "x" ∷ label 4 8 "y" ∷ []))

-- three labels over several lines: heads and ends that are no margin labels, with labels within the lines, and one without message
unfoldable tangled : ConfigFields → (Rows → Rows) → List Bool
tangled config = further_verdicts (one "ab漢d\nefgh\nijkl\nm") (configured config (label 0 12 "a" ∷ label 2 7 "b" ∷ label 1 8 "c" ∷ label 5 6 "d"
    ∷ silent_label 1 2 ∷ label 0 3 "e" ∷ []))

unfoldable computed : Unit {0}
unfolding judged nested apart wide of_nested of_apart of_wide of_fruit of_far fruit_in crossed bare_config of_crossed of_silent of_accent
    of_two_lines of_late tangled
computed = tt

-- ---- finished pictures

nested_labels : of_nested as_drawn ≡ all_hold
unfolding computed
nested_labels = refl

labels_in_two_groups : of_apart as_drawn ≡ all_hold
unfolding computed
labels_in_two_groups = refl

a_wide_character : of_wide as_drawn ≡ all_hold
unfolding computed
a_wide_character = refl

labels_on_one_line : of_fruit as_drawn ≡ all_hold
unfolding computed
labels_on_one_line = refl

far_labels : of_far as_drawn ≡ all_hold
unfolding computed
far_labels = refl

labels_in_unicode : fruit_in unicode_config as_drawn ≡ all_hold
unfolding computed
labels_in_unicode = refl

labels_in_compact_form : fruit_in compact_config as_drawn ≡ all_hold
unfolding computed
labels_in_compact_form = refl

labels_that_cross : fruit_in crossed as_drawn ≡ all_hold
unfolding computed
labels_that_cross = refl

labels_without_underlines : fruit_in bare_config as_drawn ≡ all_hold
unfolding computed
labels_without_underlines = refl

crossed_labels : of_crossed as_drawn ≡ all_hold
unfolding computed
crossed_labels = refl

a_silent_line : of_silent as_drawn ≡ all_hold
unfolding computed
a_silent_line = refl

a_character_without_columns : of_accent as_drawn ≡ all_hold
unfolding computed
a_character_without_columns = refl

labels_on_two_lines : of_two_lines as_drawn ≡ all_hold
unfolding computed
labels_on_two_lines = refl

late_labels : of_late as_drawn ≡ all_hold
unfolding computed
late_labels = refl

tangled_labels : tangled ascii_config as_drawn ≡ all_hold
unfolding computed
tangled_labels = refl

tangled_labels_in_unicode : tangled unicode_config as_drawn ≡ all_hold
unfolding computed
tangled_labels_in_unicode = refl

tangled_labels_that_cross : tangled crossed as_drawn ≡ all_hold
unfolding computed
tangled_labels_that_cross = refl

tangled_labels_in_compact_form : tangled compact_config as_drawn ≡ all_hold
unfolding computed
tangled_labels_in_compact_form = refl

-- ---- strokes that no label has there: the other clauses let them through

an_underline_a_place_before_its_label : of_fruit (shows 4 11 "^") ≡ stray
unfolding computed
an_underline_a_place_before_its_label = refl

an_underline_a_place_behind_its_label : of_fruit (shows 4 8 "^") ≡ stray
unfolding computed
an_underline_a_place_behind_its_label = refl

an_underline_in_the_second_row : of_fruit (shows 5 3 "^") ≡ stray
unfolding computed
an_underline_in_the_second_row = refl

a_vertical_under_a_wrong_character : of_fruit (shows 6 8 "|") ≡ stray
unfolding computed
a_vertical_under_a_wrong_character = refl

a_level_in_a_vertical : of_fruit (shows 6 15 "-") ≡ stray
unfolding computed
a_level_in_a_vertical = refl

a_vertical_left_of_a_corner : of_fruit (shows 5 3 "|") ≡ stray
unfolding computed
a_vertical_left_of_a_corner = refl

a_level_left_of_a_corner : of_fruit (shows 5 4 "-") ≡ stray
unfolding computed
a_level_left_of_a_corner = refl

a_second_corner : of_fruit (shows 7 5 "`") ≡ stray
unfolding computed
a_second_corner = refl

an_underline_between_two_spans : of_fruit (shows 4 9 "^") ≡ stray
unfolding computed
an_underline_between_two_spans = refl

an_underline_in_another_row : of_fruit (shows 6 13 "^") ≡ stray
unfolding computed
an_underline_in_another_row = refl

a_vertical_below_its_corner : of_fruit (shows 6 5 "|") ≡ stray
unfolding computed
a_vertical_below_its_corner = refl

a_corner_in_a_vertical : of_fruit (shows 6 15 "`") ≡ stray
unfolding computed
a_corner_in_a_vertical = refl

a_level_in_a_row_of_verticals : of_fruit (shows 6 8 "-") ≡ stray
unfolding computed
a_level_in_a_row_of_verticals = refl

a_letter_in_an_underline : of_fruit (shows 4 4 "x") ≡ stray
unfolding computed
a_letter_in_an_underline = refl

an_underline_where_none_are_drawn : fruit_in bare_config (shows 4 3 "^") ≡ stray
unfolding computed
an_underline_where_none_are_drawn = refl

a_vertical_above_the_message_of_a_label_that_ends_beside_its_line : of_nested (shows 7 9 "|") ≡ stray
unfolding computed
a_vertical_above_the_message_of_a_label_that_ends_beside_its_line = refl

a_letter_among_the_strokes : of_fruit (shows 6 8 "x") ≡ stray
unfolding computed
a_letter_among_the_strokes = refl

a_vertical_behind_a_wide_one : of_wide (shows 4 8 "|") ≡ stray
unfolding computed
a_vertical_behind_a_wide_one = refl

a_corner_behind_a_wide_one : of_wide (shows 5 8 "`") ≡ stray
unfolding computed
a_corner_behind_a_wide_one = refl

a_vertical_beside_that_of_a_head : of_nested (shows 4 9 "|") ≡ stray
unfolding computed
a_vertical_beside_that_of_a_head = refl

a_vertical_above_the_middle_of_a_label_over_several_lines : of_nested (shows 4 11 "|") ≡ stray
unfolding computed
a_vertical_above_the_middle_of_a_label_over_several_lines = refl

a_level_behind_a_head : of_nested (shows 5 11 "-") ≡ stray
unfolding computed
a_level_behind_a_head = refl

a_vertical_below_the_line_before_that_of_its_label : of_two_lines (shows 4 4 "|") ≡ stray
unfolding computed
a_vertical_below_the_line_before_that_of_its_label = refl

a_vertical_below_the_line_before_that_of_its_head : of_late (shows 4 10 "|") ≡ stray
unfolding computed
a_vertical_below_the_line_before_that_of_its_head = refl

a_vertical_in_the_last_place : of_fruit (shows 4 19 "|") ≡ stray
unfolding computed
a_vertical_in_the_last_place = refl

a_vertical_in_the_second_group : of_apart (shows 13 8 "|") ≡ stray
unfolding computed
a_vertical_in_the_second_group = refl

a_vertical_under_a_wrong_character_in_unicode : fruit_in unicode_config (shows 6 8 "│") ≡ stray
unfolding computed
a_vertical_under_a_wrong_character_in_unicode = refl

an_underline_in_another_row_in_unicode : fruit_in unicode_config (shows 6 13 "─") ≡ stray
unfolding computed
an_underline_in_another_row_in_unicode = refl

an_underline_below_a_label_over_several_lines : of_crossed (shows 4 11 "─") ≡ stray
unfolding computed
an_underline_below_a_label_over_several_lines = refl

-- the place of the accent has no cell, and nothing stands left of the horizontal behind it
a_corner_before_a_place_without_cell : of_accent (shows 5 3 "`") ≡ stray
unfolding computed
a_corner_before_a_place_without_cell = refl

a_level_before_a_place_without_cell : of_accent (shows 5 3 "-") ≡ stray
unfolding computed
a_level_before_a_place_without_cell = refl

a_vertical_before_a_place_without_cell : of_accent (shows 5 3 "|") ≡ stray
unfolding computed
a_vertical_before_a_place_without_cell = refl

-- ---- a label without message has no trace, whatever row numbers say of it: here they give it the row of another's message

unfoldable of_beside : (Rows → Rows) → List Bool
of_beside =
    further_verdicts_by
    (record {
      start = choose 1 7;
      source_row = λ g l. 3;
      block_len = λ g l. 2;
      places = λ g l. 7;
      message_row = λ k. 5;
      head_row = λ g i. 0;
    })
    (one "ab cd") (report (silent_label 0 2 ∷ label 3 5 "n" ∷ []))

a_label_without_message : of_beside as_drawn ≡ all_hold
unfolding computed choose of_beside
a_label_without_message = refl

a_vertical_below_a_label_without_message : of_beside (shows 5 4 "|") ≡ stray
unfolding computed choose of_beside
a_vertical_below_a_label_without_message = refl

-- ---- where another clause asks for the stroke, it refuses these too

a_letter_for_a_corner : of_fruit (shows 5 5 "x") ≡ false ∷ true ∷ false ∷ []
unfolding computed
a_letter_for_a_corner = refl

a_letter_in_a_horizontal : of_fruit (shows 5 6 "x") ≡ false ∷ true ∷ false ∷ []
unfolding computed
a_letter_in_a_horizontal = refl

-- ---- what stands behind a message the clause on message rows refuses alone

a_stroke_behind_a_message : of_fruit (on_row 5 (λ row. row ++ plain "|" ∷ [])) ≡ false ∷ true ∷ true ∷ []
unfolding computed
a_stroke_behind_a_message = refl
