-- The clause on the colours of characters and underlines, by computation: it holds on finished pictures, by the placing that the
-- names of their rows give, and alone refuses pictures where a character or an underline has another colour. Each picture is judged
-- alone, and behind another group. Rows and cells count from 0.
use Rattle.std.specs.Prelude.{◌≡◌, ℕ, pos, Bool, true, false, refl, [], ◌∷◌, ◌++◌, List, Option, Some, None}
use Rattle.ariadne_color.specs.declared.color.Color.{Color}
use Rattle.ariadne_color.specs.declared.color.Color.TheVariants.{Red, Blue, Green}
use Rattle.ariadne_picture.specs.Report.{ConfigFields, LabelFields, ReportFields}
use Rattle.ariadne_picture.specs.Canvas.{Cell, color_of, palette_of, texts_of}
use Rattle.ariadne_picture.specs.LabelColors.{label_color, has_label_colors}
use Rattle.ariadne_picture.specs.LoneLines.{holder, marks, is_place_marked, is_lone_marked, has_lone_underlines}
use Rattle.ariadne_picture.specs.TextColors.{are_characters_colored, is_holder_shown, are_underlines_colored, has_text_colors}
use Rattle.ariadne_picture.proofs.Rows.RowPlacing.{row_placing}
use Rattle.ariadne_worked.proofs.Sample.{Span, Entry, one, label, silent_label, configured, ascii_config, color_config, compact_config}
use Rattle.ariadne_worked.proofs.Sample.{unicode_config}
use Rattle.ariadne_worked.proofs.Readings.{cells_of, parts_of}
use Rattle.ariadne_worked.proofs.Changes.{Rows, as_drawn, on_row, on_cell, gutter_verdicts, sources_behind, report_behind, change_behind, judged}

-- all clauses without colours, no other strokes in the gutter, colours of strokes, underlines alone, these colours: alone, and
-- behind another group
abbrev all_hold : List Bool
all_hold = true ∷ true ∷ true ∷ true ∷ true ∷ true ∷ true ∷ true ∷ true ∷ true ∷ []

-- only the last one refuses it
abbrev miscolored : List Bool
miscolored = true ∷ true ∷ true ∷ true ∷ false ∷ true ∷ true ∷ true ∷ true ∷ false ∷ []

unfoldable verdicts_alone : List Entry → ReportFields Span → (Rows → Rows) → List Bool
verdicts_alone entries r change =
    let cells = change (cells_of entries r) in
    let parts = parts_of entries r in
    let p = row_placing (texts_of r) parts in
    gutter_verdicts entries r change
    ++ has_label_colors cells parts p (label_color r) ∷ has_lone_underlines cells parts p (label_color r)
    ∷ has_text_colors cells parts p (color_of (palette_of r)) ∷ []

unfoldable text_verdicts : List Entry → ReportFields Span → (Rows → Rows) → List Bool
text_verdicts entries r change =
    verdicts_alone entries r change ++ verdicts_alone (sources_behind entries) (report_behind r) (change_behind change)

-- cell c of row n has this colour
unfoldable has : ℕ → ℕ → Option Color → Rows → Rows
has n c color = on_row n (on_cell c (λ (cell : Cell). record cell { color = color }))

-- ---- the pictures

unfoldable in_color : Color → LabelFields Span → LabelFields Span
in_color color l = record l { color = Some color }

-- row 4 is ^^|^^ from cell 3 on, and ^^^|^^ from cell 12 on
unfoldable of_fruit : (Rows → Rows) → List Bool
of_fruit = text_verdicts (one "apple == orange;")
    (configured color_config (in_color Red (label 0 5 "apple") ∷ in_color Green (label 9 15 "orange") ∷ []))

unfoldable of_plain : (Rows → Rows) → List Bool
of_plain = text_verdicts (one "apple == orange;") (configured ascii_config (in_color Red (label 0 5 "apple") ∷ []))

-- row 4 is ^^|^^: the shorter label is preferred at cells 4 and 5
unfoldable of_nested : (Rows → Rows) → List Bool
of_nested = text_verdicts (one "abcde") (configured color_config (in_color Red (label 0 5 "long") ∷ in_color Green (silent_label 1 3) ∷ []))

-- but the longer one is where it has the higher priority
unfoldable of_prior : (Rows → Rows) → List Bool
of_prior = text_verdicts (one "abcde")
    (configured color_config (record (in_color Red (label 0 5 "long")) { priority = pos 1 } ∷ in_color Green (silent_label 1 3) ∷ []))

-- row 4 is |^ at cells 3 and 4, two of one character; in Unicode a tee and a horizontal
unfoldable wide_in : ConfigFields → (Rows → Rows) → List Bool
wide_in config = text_verdicts (one "漢") (configured (record config { color = true }) (in_color Red (label 0 1 "w") ∷ in_color Green (silent_label 0 1) ∷ []))

-- two lines with labels, and between them one that a label over lines holds; characters begin at cell 7
unfoldable of_lines : (Rows → Rows) → List Bool
of_lines = text_verdicts (one "ab\ncd\nefg") (configured color_config
    (in_color Green (label 3 4 "c") ∷ in_color Blue (label 7 9 "f") ∷ in_color Red (label 0 7 "over") ∷ []))

-- no underlines are drawn
unfoldable compact : (Rows → Rows) → List Bool
compact = verdicts_alone (one "ab\ncd") (configured (record compact_config { color = true }) (in_color Red (label 0 1 "a") ∷ in_color Green (label 3 5 "d") ∷ []))

unfoldable computed : Unit {0}
unfolding judged holder marks is_place_marked is_lone_marked has_lone_underlines are_characters_colored is_holder_shown are_underlines_colored
    has_text_colors verdicts_alone text_verdicts has in_color of_fruit of_plain of_nested of_prior wide_in of_lines compact
computed = tt

-- ---- finished pictures

labels_on_one_line : of_fruit as_drawn ≡ all_hold
unfolding computed
labels_on_one_line = refl

labels_without_colors : of_plain as_drawn ≡ all_hold
unfolding computed
labels_without_colors = refl

nested_labels : of_nested as_drawn ≡ all_hold
unfolding computed
nested_labels = refl

a_label_of_higher_priority : of_prior as_drawn ≡ all_hold
unfolding computed
a_label_of_higher_priority = refl

a_wide_character : wide_in ascii_config as_drawn ≡ all_hold
unfolding computed
a_wide_character = refl

a_wide_character_in_unicode : wide_in unicode_config as_drawn ≡ all_hold
unfolding computed
a_wide_character_in_unicode = refl

labels_on_lines_of_another : of_lines as_drawn ≡ all_hold
unfolding computed
labels_on_lines_of_another = refl

labels_in_compact_form : compact as_drawn ≡ true ∷ true ∷ true ∷ true ∷ true ∷ []
unfolding computed
labels_in_compact_form = refl

-- ---- other colours

an_underline_in_the_color_of_no_label : of_fruit (has 4 3 (Some Blue)) ≡ miscolored
unfolding computed
an_underline_in_the_color_of_no_label = refl

an_underline_without_color : of_fruit (has 4 7 None) ≡ miscolored
unfolding computed
an_underline_without_color = refl

an_underline_in_the_color_of_another_label : of_fruit (has 4 17 (Some Red)) ≡ miscolored
unfolding computed
an_underline_in_the_color_of_another_label = refl

an_underline_in_the_color_of_a_longer_label : of_nested (has 4 4 (Some Red)) ≡ miscolored
unfolding computed
an_underline_in_the_color_of_a_longer_label = refl

an_underline_in_the_color_of_a_label_of_lower_priority : of_prior (has 4 4 (Some Green)) ≡ miscolored
unfolding computed
an_underline_in_the_color_of_a_label_of_lower_priority = refl

an_underline_beside_a_vertical_of_another_color : wide_in ascii_config (has 4 4 (Some Blue)) ≡ miscolored
unfolding computed
an_underline_beside_a_vertical_of_another_color = refl

an_underline_beside_a_tee_of_another_color : wide_in unicode_config (has 4 4 (Some Green)) ≡ miscolored
unfolding computed
an_underline_beside_a_tee_of_another_color = refl

an_underline_below_the_last_line : of_lines (has 8 8 (Some Red)) ≡ miscolored
unfolding computed
an_underline_below_the_last_line = refl

a_character_in_the_color_of_no_label : of_fruit (has 3 3 (Some Blue)) ≡ miscolored
unfolding computed
a_character_in_the_color_of_no_label = refl

a_character_outside_of_labels_in_the_color_of_one : of_fruit (has 3 9 (Some Red)) ≡ miscolored
unfolding computed
a_character_outside_of_labels_in_the_color_of_one = refl

a_character_in_color_where_there_is_none : of_plain (has 3 3 (Some Red)) ≡ miscolored
unfolding computed
a_character_in_color_where_there_is_none = refl

a_character_in_the_color_of_a_longer_label : of_nested (has 3 4 (Some Red)) ≡ miscolored
unfolding computed
a_character_in_the_color_of_a_longer_label = refl

a_character_in_the_color_of_a_label_of_lower_priority : of_prior (has 3 4 (Some Green)) ≡ miscolored
unfolding computed
a_character_in_the_color_of_a_label_of_lower_priority = refl

the_last_character_in_another_color : of_fruit (has 3 18 None) ≡ miscolored
unfolding computed
the_last_character_in_another_color = refl

a_character_in_the_color_of_a_label_over_lines : of_lines (has 4 7 (Some Red)) ≡ miscolored
unfolding computed
a_character_in_the_color_of_a_label_over_lines = refl

a_character_of_the_last_line : of_lines (has 7 7 (Some Blue)) ≡ miscolored
unfolding computed
a_character_of_the_last_line = refl

a_character_in_compact_form : compact (has 4 3 (Some Red)) ≡ true ∷ true ∷ true ∷ true ∷ false ∷ []
unfolding computed
a_character_in_compact_form = refl
