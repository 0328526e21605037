-- The clause on colours, by computation: it holds on finished pictures, by the placing that the names of their rows give, and alone
-- refuses pictures where a stroke has another colour. Each picture is judged alone, and behind another group.
use Rattle.std.specs.Prelude.{◌≡◌, ℕ, pos, Bool, true, false, refl, [], ◌∷◌, ◌++◌, List, Option, Some, None}
use Rattle.ariadne_color.specs.declared.color.Color.{Color}
use Rattle.ariadne_color.specs.declared.color.Color.TheVariants.{Red, Blue, Green, Fixed}
use Rattle.ariadne_picture.specs.Report.{ConfigFields, LabelFields, ReportFields}
use Rattle.ariadne_picture.specs.Canvas.{Cell, texts_of}
use Rattle.ariadne_picture.specs.LabelColors.{label_color, has_label_colors}
use Rattle.ariadne_picture.proofs.Rows.RowPlacing.{row_placing}
use Rattle.ariadne_worked.proofs.Sample.{Span, Entry, one, label, silent_label, configured, ascii_config, color_config, compact_config}
use Rattle.ariadne_worked.proofs.Sample.{unicode_config}
use Rattle.ariadne_worked.proofs.Readings.{cells_of, parts_of}
use Rattle.ariadne_worked.proofs.Changes.{Rows, as_drawn, on_row, on_cell, further_verdicts, sources_behind, report_behind, change_behind, judged}

-- the six clauses of `verdicts`, whole blocks, no other strokes, colours: alone, and behind another group
abbrev all_hold : List Bool
all_hold = true ∷ true ∷ true ∷ true ∷ true ∷ true ∷ true ∷ true ∷ []

-- only the last one refuses it
abbrev miscolored : List Bool
miscolored = true ∷ true ∷ true ∷ false ∷ true ∷ true ∷ true ∷ false ∷ []

unfoldable verdicts_alone : List Entry → ReportFields Span → (Rows → Rows) → List Bool
verdicts_alone entries r change =
    let parts = parts_of entries r in
    further_verdicts entries r change
    ++ has_label_colors (change (cells_of entries r)) parts (row_placing (texts_of r) parts) (label_color r) ∷ []

unfoldable color_verdicts : List Entry → ReportFields Span → (Rows → Rows) → List Bool
color_verdicts entries r change =
    verdicts_alone entries r change ++ verdicts_alone (sources_behind entries) (report_behind r) (change_behind change)

-- cell c of row n has this colour
unfoldable has : ℕ → ℕ → Option Color → Rows → Rows
has n c color = on_row n (on_cell c (λ (cell : Cell). record cell { color = color }))

-- ---- the pictures

unfoldable in_color : Color → LabelFields Span → LabelFields Span
in_color color l = record l { color = Some color }

unfoldable fruit : List (LabelFields Span)
fruit = in_color Red (label 0 5 "apple") ∷ in_color Green (label 9 15 "orange") ∷ []

unfoldable of_fruit : (Rows → Rows) → List Bool
of_fruit = color_verdicts (one "apple == orange;") (configured color_config fruit)

unfoldable of_plain : (Rows → Rows) → List Bool
of_plain = color_verdicts (one "apple == orange;") (configured ascii_config fruit)

unfoldable on_one_character : (Rows → Rows) → List Bool
on_one_character = color_verdicts (one "ab") (configured color_config (in_color Red (label 0 1 "a") ∷ in_color Green (label 0 1 "b") ∷ []))

-- the outer label begins and ends beside its lines, and the inner one ends so
unfoldable of_nested : (Rows → Rows) → List Bool
of_nested = color_verdicts (one "aa\nbb\ncc") (configured color_config (in_color Red (label 1 4 "mid") ∷ in_color Green (label 0 8 "all") ∷ []))

-- one label begins beside its line and ends below, the other one begins below and ends beside its line
unfoldable crossed_config : ConfigFields
crossed_config = record unicode_config { color = true }

unfoldable of_crossed : (Rows → Rows) → List Bool
of_crossed = color_verdicts (one "aa\nbb\ncc") (configured crossed_config (in_color Red (label 0 8 "far") ∷ in_color Green (label 1 7 "near") ∷ []))

-- a bar stands in the way from the margin to the line beside which the outer label ends
unfoldable of_barred : (Rows → Rows) → List Bool
of_barred = color_verdicts (one "aa\nbb\ncc\ndd") (configured color_config (in_color Red (label 0 8 "far") ∷ in_color Green (label 4 11 "near") ∷ []))

-- one label ends beside its line, and below its message another one ends at the same place
unfoldable of_hanging : (Rows → Rows) → List Bool
of_hanging = color_verdicts (one "aa\nbb") (configured color_config
    (in_color Red (label 0 4 "far") ∷ record (in_color Green (label 3 4 "b")) { order = pos 1 } ∷ []))

-- the place of the first label has no cell: the text is e, U+0301, x
unfoldable of_accent : (Rows → Rows) → List Bool
of_accent = color_verdicts (one "éx") (configured color_config (in_color Red (label 1 2 "a") ∷ in_color Green (label 2 3 "b") ∷ []))

-- row 5 is `--|- x from cell 3 on: the horizontal passes a character of two cells
unfoldable of_passed : (Rows → Rows) → List Bool
of_passed = color_verdicts (one "a漢b") (configured color_config (in_color Red (label 0 1 "x") ∷ in_color Green (label 2 3 "y") ∷ []))

-- labels on neighbouring characters
unfoldable of_neighbours : (Rows → Rows) → List Bool
of_neighbours = color_verdicts (one "ab") (configured color_config (in_color Red (label 0 1 "x") ∷ in_color Green (label 1 2 "y") ∷ []))

-- three labels over the same lines. Row 10 has the bar of the third one, in cell 7
unfoldable of_three : (Rows → Rows) → List Bool
of_three = color_verdicts (one "aaa\nbbb\nccc")
    (configured color_config (in_color Red (label 0 11 "x") ∷ in_color Green (label 1 10 "y") ∷ in_color Blue (label 2 9 "z") ∷ []))

unfoldable tangled : ConfigFields → (Rows → Rows) → List Bool
tangled config = color_verdicts (one "ab漢d\nefgh\nijkl\nm") (configured (record config { color = true })
    (in_color Red (label 0 12 "a") ∷ in_color Blue (label 2 7 "b") ∷ in_color Green (label 1 8 "c") ∷ in_color (Fixed 9) (label 5 6 "d")
    ∷ in_color Blue (silent_label 1 2) ∷ label 0 3 "e" ∷ []))

unfoldable computed : Unit {0}
unfolding judged verdicts_alone color_verdicts has in_color fruit of_fruit of_plain on_one_character of_nested crossed_config of_crossed of_barred of_hanging
    of_accent of_passed of_neighbours of_three tangled
computed = tt

-- ---- finished pictures

labels_on_one_line : of_fruit as_drawn ≡ all_hold
unfolding computed
labels_on_one_line = refl

labels_without_colors : of_plain as_drawn ≡ all_hold
unfolding computed
labels_without_colors = refl

labels_on_one_character : on_one_character as_drawn ≡ all_hold
unfolding computed
labels_on_one_character = refl

nested_labels : of_nested as_drawn ≡ all_hold
unfolding computed
nested_labels = refl

crossed_labels : of_crossed as_drawn ≡ all_hold
unfolding computed
crossed_labels = refl

a_bar_before_an_arrow_head : of_barred as_drawn ≡ all_hold
unfolding computed
a_bar_before_an_arrow_head = refl

a_place_without_a_cell : of_accent as_drawn ≡ all_hold
unfolding computed
a_place_without_a_cell = refl

a_character_that_is_passed : of_passed as_drawn ≡ all_hold
unfolding computed
a_character_that_is_passed = refl

neighbours : of_neighbours as_drawn ≡ all_hold
unfolding computed
neighbours = refl

three_labels_over_lines : of_three as_drawn ≡ all_hold
unfolding computed
three_labels_over_lines = refl

tangled_labels : tangled ascii_config as_drawn ≡ all_hold
unfolding computed
tangled_labels = refl

tangled_labels_in_compact_form : tangled compact_config as_drawn ≡ all_hold
unfolding computed
tangled_labels_in_compact_form = refl

tangled_labels_that_cross : tangled (record unicode_config { cross_gap = false }) as_drawn ≡ all_hold
unfolding computed
tangled_labels_that_cross = refl

-- ---- a label within one line

the_second_cell_of_a_place : of_passed (has 5 5 (Some Green)) ≡ miscolored
unfolding computed
the_second_cell_of_a_place = refl

a_vertical_in_the_color_of_its_neighbour : of_neighbours (has 4 4 (Some Red)) ≡ miscolored
unfolding computed
a_vertical_in_the_color_of_its_neighbour = refl

a_corner : of_fruit (has 5 5 (Some Green)) ≡ miscolored
unfolding computed
a_corner = refl

a_horizontal : of_fruit (has 5 7 (Some Green)) ≡ miscolored
unfolding computed
a_horizontal = refl

the_end_of_a_horizontal : of_fruit (has 5 19 None) ≡ miscolored
unfolding computed
the_end_of_a_horizontal = refl

a_vertical_under_an_underline : of_fruit (has 4 15 (Some Red)) ≡ miscolored
unfolding computed
a_vertical_under_an_underline = refl

a_vertical : of_fruit (has 6 15 (Some Red)) ≡ miscolored
unfolding computed
a_vertical = refl

a_colored_stroke_where_there_are_none : of_plain (has 5 5 (Some Red)) ≡ miscolored
unfolding computed
a_colored_stroke_where_there_are_none = refl

-- the vertical of the upper label is seen as long as it goes on, and that of the lower one below
a_vertical_of_the_upper_label : on_one_character (has 4 3 (Some Green)) ≡ miscolored
unfolding computed
a_vertical_of_the_upper_label = refl

a_vertical_of_the_lower_label : on_one_character (has 6 3 (Some Red)) ≡ miscolored
unfolding computed
a_vertical_of_the_lower_label = refl

-- ---- gutter labels

the_first_place_of_an_end : of_nested (has 8 9 (Some Green)) ≡ miscolored
unfolding computed
the_first_place_of_an_end = refl

the_bar_of_a_third_label : of_three (has 10 7 (Some Red)) ≡ miscolored
unfolding computed
the_bar_of_a_third_label = refl

a_head : of_nested (has 3 3 (Some Red)) ≡ miscolored
unfolding computed
a_head = refl

an_arrow_head : of_nested (has 3 7 (Some Red)) ≡ miscolored
unfolding computed
an_arrow_head = refl

a_horizontal_to_an_arrow_head : of_nested (has 3 5 (Some Red)) ≡ miscolored
unfolding computed
a_horizontal_to_an_arrow_head = refl

the_second_cell_of_a_column : of_nested (has 3 4 (Some Red)) ≡ miscolored
unfolding computed
the_second_cell_of_a_column = refl

a_bar_beside_a_line : of_nested (has 6 3 (Some Red)) ≡ miscolored
unfolding computed
a_bar_beside_a_line = refl

a_bar_below_a_line : of_nested (has 7 3 (Some Red)) ≡ miscolored
unfolding computed
a_bar_below_a_line = refl

a_tee : of_nested (has 6 5 (Some Green)) ≡ miscolored
unfolding computed
a_tee = refl

a_head_below_a_line : of_nested (has 5 5 (Some Green)) ≡ miscolored
unfolding computed
a_head_below_a_line = refl

a_gutter_cell_of_a_head : of_nested (has 5 6 (Some Green)) ≡ miscolored
unfolding computed
a_gutter_cell_of_a_head = refl

a_horizontal_of_a_head : of_nested (has 5 9 (Some Green)) ≡ miscolored
unfolding computed
a_horizontal_of_a_head = refl

the_corner_of_a_head : of_nested (has 5 10 (Some Green)) ≡ miscolored
unfolding computed
the_corner_of_a_head = refl

the_vertical_of_a_head : of_nested (has 4 10 (Some Green)) ≡ miscolored
unfolding computed
the_vertical_of_a_head = refl

a_corner_of_an_end : of_nested (has 8 5 (Some Green)) ≡ miscolored
unfolding computed
a_corner_of_an_end = refl

a_gutter_cell_of_an_end : of_nested (has 8 6 (Some Green)) ≡ miscolored
unfolding computed
a_gutter_cell_of_an_end = refl

a_horizontal_of_an_end : of_nested (has 8 10 (Some Green)) ≡ miscolored
unfolding computed
a_horizontal_of_an_end = refl

a_vertical_of_an_end : of_crossed (has 10 10 (Some Green)) ≡ miscolored
unfolding computed
a_vertical_of_an_end = refl

a_broken_bar : of_crossed (has 6 3 (Some Green)) ≡ miscolored
unfolding computed
a_broken_bar = refl

-- the label above it ends at the same place, but it doesn't turn there
a_vertical_below_the_end_of_another_label : of_hanging (has 5 7 (Some Red)) ≡ miscolored
unfolding computed
a_vertical_below_the_end_of_another_label = refl

-- ---- what a label's horizontal crosses is not its own

-- in the row of the upper label the vertical of the lower one has its colour, and behind it there is none of the first
a_crossed_vertical : of_fruit (has 5 15 (Some Green)) ≡ miscolored
unfolding computed
a_crossed_vertical = refl
