-- The clause on lines whose labels have no message, by computation: it holds on finished pictures, by the placing that the names of
-- their rows give, and refuses pictures where the row below such a line shows another thing. Each picture is judged alone, and
-- behind another group. Rows and cells count from 0.
use Rattle.std.specs.Prelude.{◌≡◌, ℕ, Bool, true, false, refl, [], ◌∷◌, ◌++◌, List, Some}
use Rattle.ariadne_color.specs.declared.color.Color.{Color}
use Rattle.ariadne_color.specs.declared.color.Color.TheVariants.{Red, Green}
use Rattle.ariadne_picture.specs.Report.{LabelFields, ReportFields}
use Rattle.ariadne_picture.specs.Canvas.{texts_of}
use Rattle.ariadne_picture.specs.Placing.InlineTraces.{has_inline_traces}
use Rattle.ariadne_picture.specs.Blocks.{has_whole_blocks}
use Rattle.ariadne_picture.specs.Causes.{has_no_other_strokes}
use Rattle.ariadne_picture.specs.LabelColors.{label_color, has_label_colors}
use Rattle.ariadne_picture.specs.LoneLines.{holder, marks, is_place_marked, is_lone_marked, has_lone_underlines}
use Rattle.ariadne_picture.proofs.Rows.RowPlacing.{row_placing}
use Rattle.ariadne_worked.proofs.Sample.{Span, Entry, one, silent_label, silent_label_in, color_config, configured}
use Rattle.ariadne_worked.proofs.Readings.{cells_of, parts_of}
use Rattle.ariadne_worked.proofs.Changes.{Rows, as_drawn, shows, is_blue, sources_behind, change_behind, judged}

-- inline traces, no other strokes, colours of labels, underlines alone; and these behind another group
abbrev all_hold : List Bool
all_hold = true ∷ true ∷ true ∷ true ∷ true ∷ true ∷ true ∷ true ∷ []

-- a trace lacks an underline
abbrev no_trace : List Bool
no_trace = false ∷ true ∷ true ∷ false ∷ false ∷ true ∷ true ∷ false ∷ []

-- a stroke is none of a label's
abbrev stray : List Bool
stray = true ∷ false ∷ true ∷ false ∷ true ∷ false ∷ true ∷ false ∷ []

-- of these only the last clause refuses it
abbrev miscolored : List Bool
miscolored = true ∷ true ∷ true ∷ false ∷ true ∷ true ∷ true ∷ false ∷ []

unfoldable verdicts_alone : List Entry → ReportFields Span → (Rows → Rows) → List Bool
verdicts_alone entries r change =
    let cells = change (cells_of entries r) in
    let parts = parts_of entries r in
    let p = row_placing (texts_of r) parts in
    has_inline_traces cells parts p ∷ has_no_other_strokes cells parts p
    ∷ has_label_colors cells parts p (label_color r) ∷ has_lone_underlines cells parts p (label_color r) ∷ []

-- the label in front holds nothing, so that its group has four rows
unfoldable behind : ReportFields Span → ReportFields Span
behind r = record r { labels = silent_label_in "front" 0 0 ∷ r.labels }

unfoldable lone_verdicts : List Entry → ReportFields Span → (Rows → Rows) → List Bool
lone_verdicts entries r change =
    verdicts_alone entries r change ++ verdicts_alone (sources_behind entries) (behind r) (change_behind change)

-- ---- the pictures

unfoldable in_color : Color → ℕ → ℕ → LabelFields Span
in_color color start end = record (silent_label start end) { color = Some color }

unfoldable colored : List (LabelFields Span) → ReportFields Span
colored labels = configured (record color_config { lone_underlines = true }) labels

-- row 4 is ^ at cells 3, 6 and 7 of ten
unfoldable two : ReportFields Span
two = colored (in_color Red 0 1 ∷ in_color Green 3 5 ∷ [])

unfoldable of_two : (Rows → Rows) → List Bool
of_two = lone_verdicts (one "ab cd") two

-- row 4 is ^ at cells 3, 4 and 5, where the shorter label is preferred at 4
unfoldable of_nested : (Rows → Rows) → List Bool
of_nested = lone_verdicts (one "abc") (colored (in_color Green 0 3 ∷ in_color Red 1 2 ∷ []))

-- rows 4 and 6 are ^ at cell 3
unfoldable of_two_lines : (Rows → Rows) → List Bool
of_two_lines = lone_verdicts (one "a\nb") (colored (in_color Red 0 1 ∷ in_color Green 2 3 ∷ []))

-- row 4 is ^ at cells 3 and 4
unfoldable of_wide : (Rows → Rows) → List Bool
of_wide = lone_verdicts (one "漢") (colored (in_color Red 0 1 ∷ []))

unfoldable computed : Unit {0}
unfolding judged verdicts_alone behind lone_verdicts in_color colored two of_two of_nested of_two_lines of_wide holder marks is_place_marked is_lone_marked
    has_lone_underlines
computed = tt

-- ---- finished pictures

labels_on_one_line : of_two as_drawn ≡ all_hold
unfolding computed
labels_on_one_line = refl

a_label_within_another : of_nested as_drawn ≡ all_hold
unfolding computed
a_label_within_another = refl

labels_on_two_lines : of_two_lines as_drawn ≡ all_hold
unfolding computed
labels_on_two_lines = refl

a_wide_character : of_wide as_drawn ≡ all_hold
unfolding computed
a_wide_character = refl

-- ---- changed ones

a_place_without_its_underline : of_two (shows 4 7 " ") ≡ no_trace
unfolding computed
a_place_without_its_underline = refl

an_underline_where_no_label_is : of_two (shows 4 4 "^") ≡ stray
unfolding computed
an_underline_where_no_label_is = refl

an_underline_behind_the_text : of_two (shows 4 9 "^") ≡ stray
unfolding computed
an_underline_behind_the_text = refl

a_vertical_without_a_message : of_two (shows 4 6 "|") ≡ stray
unfolding computed
a_vertical_without_a_message = refl

an_underline_in_another_color : of_two (is_blue 4 7) ≡ miscolored
unfolding computed
an_underline_in_another_color = refl

an_underline_within_another_in_another_color : of_nested (is_blue 4 4) ≡ miscolored
unfolding computed
an_underline_within_another_in_another_color = refl

an_underline_of_a_later_line_in_another_color : of_two_lines (is_blue 6 3) ≡ miscolored
unfolding computed
an_underline_of_a_later_line_in_another_color = refl

the_second_cell_of_a_place_in_another_color : of_wide (is_blue 4 4) ≡ miscolored
unfolding computed
the_second_cell_of_a_place_in_another_color = refl

-- ---- the row left out: whole blocks, and underlines alone

unfoldable without_rows : List Entry → ReportFields Span → List Bool
without_rows entries r =
    let parts = parts_of entries r in
    let p = record (row_placing (texts_of r) parts) { block_len = λ g l. 0 } in
    has_whole_blocks parts p ∷ has_lone_underlines (cells_of entries r) parts p (label_color r) ∷ []

no_row : without_rows (one "ab cd") two ≡ false ∷ false ∷ []
unfolding computed without_rows
no_row = refl

no_row_behind_another_group : without_rows (sources_behind (one "ab cd")) (behind two) ≡ false ∷ false ∷ []
unfolding computed without_rows
no_row_behind_another_group = refl
