-- All clauses on lines that are cut, and on lines without labels that are shown near others, by computation: they hold on finished
-- pictures, by the placing that the names of their rows give, and refuse pictures where something of such a line is changed. Rows and
-- cells count from 0.
use Rattle.std.specs.Prelude.{◌≡◌, ℕ, ◌==◌, Bool, true, not, refl, [], ◌∷◌, ◌++◌, if◌then◌else◌, List, Some, map}
use Rattle.std.specs.List.{list_any}
use Rattle.ariadne_base.specs.Locations.{upto}
use Rattle.ariadne_color.specs.declared.color.Color.TheVariants.{Red}
use Rattle.ariadne_picture.specs.Report.{LabelFields, ReportFields}
use Rattle.ariadne_picture.specs.Canvas.{color_of, palette_of, texts_of}
use Rattle.ariadne_picture.specs.Placing.Rows.{Placing}
use Rattle.ariadne_picture.specs.Blocks.{has_whole_blocks}
use Rattle.ariadne_picture.specs.Causes.{has_no_other_strokes}
use Rattle.ariadne_picture.specs.GutterCauses.{has_no_other_gutter_strokes}
use Rattle.ariadne_picture.specs.LabelColors.{label_color, has_label_colors}
use Rattle.ariadne_picture.specs.LoneLines.{holder, marks, is_place_marked, is_lone_marked, has_lone_underlines}
use Rattle.ariadne_picture.specs.TextColors.{are_characters_colored, is_holder_shown, are_underlines_colored, has_text_colors}
use Rattle.ariadne_picture.specs.OtherRows.{all_aside_rows, has_texts, is_framed, is_of_line, others, ends_at_cell, is_hidden_row, is_aside_row}
use Rattle.ariadne_picture.specs.OtherRows.{has_own_others, has_other_rows}
use Rattle.ariadne_picture.proofs.Rows.RowPlacing.{row_placing}
use Rattle.ariadne_worked.proofs.Sample.{Span, Entry, one, label, silent_label, color_config, unicode_config, configured}
use Rattle.ariadne_worked.proofs.Readings.{cells_of, parts_of}
use Rattle.ariadne_worked.proofs.Changes.{Rows, as_drawn, shows, is_blue, takes, verdicts_by, judged}

-- ---- verdicts

-- the clauses by their numbers, in the order of their verdicts
abbrev placed : ℕ
placed = 0

abbrev messages : ℕ
messages = 1

abbrev traces : ℕ
traces = 2

abbrev ends : ℕ
ends = 3

abbrev bars : ℕ
bars = 4

abbrev alignment : ℕ
alignment = 5

abbrev blocks : ℕ
blocks = 6

abbrev strokes : ℕ
strokes = 7

abbrev gutter_strokes : ℕ
gutter_strokes = 8

abbrev stroke_colors : ℕ
stroke_colors = 9

abbrev alone : ℕ
alone = 10

abbrev text_colors : ℕ
text_colors = 11

-- the last verdict, on other rows, is 12: all hold but these
unfoldable all_but : List ℕ → List Bool
all_but clauses = map (λ k. not (list_any (λ clause. clause == k) clauses)) (upto 13)

unfoldable all_verdicts_by : Placing → List Entry → ReportFields Span → (Rows → Rows) → List Bool
all_verdicts_by p entries r change =
    let cells = change (cells_of entries r) in
    let parts = parts_of entries r in
    verdicts_by p entries r change
    ++ has_whole_blocks parts p ∷ has_no_other_strokes cells parts p ∷ has_no_other_gutter_strokes cells parts p
    ∷ has_label_colors cells parts p (label_color r) ∷ has_lone_underlines cells parts p (label_color r)
    ∷ has_text_colors cells parts p (color_of (palette_of r)) ∷ has_other_rows cells parts p (texts_of r) ∷ []

unfoldable all_verdicts : List Entry → ReportFields Span → (Rows → Rows) → List Bool
all_verdicts entries r = all_verdicts_by (row_placing (texts_of r) (parts_of entries r)) entries r

-- ---- the pictures

unfoldable red : LabelFields Span → LabelFields Span
red l = record l { color = Some Red }

-- row 3 is ...jkl... in five cells from cell 3 on; row 4 is ^^^^|^^^^, with three cells below each mark; row 5 has a corner at cell 7,
-- and the message at cell 13
unfoldable of_cut : (Rows → Rows) → List Bool
of_cut = all_verdicts (one "abcdefghijklmnopqrst") (configured (record color_config { width = 9 }) (red (label 4 16 "m") ∷ []))

-- row 3 is ...ghi...; row 4 is ^ at cell 7
unfoldable of_lone : (Rows → Rows) → List Bool
of_lone = all_verdicts (one "abcdefghijklmnop")
    (configured (record color_config { width = 9; lone_underlines = true }) (red (silent_label 7 8) ∷ []))

-- row 4 is …opqrst from cell 7 on; row 6 is level from cell 4 on to cell 15
unfoldable of_cut_ends : (Rows → Rows) → List Bool
of_cut_ends = all_verdicts (one "abcdefghij\nklmnopqrst") (configured (record unicode_config { width = 7; color = true }) (red (label 2 19 "m") ∷ []))

-- rows 4 and 6 show lines 2 and 6, with a bar at cell 3, arrow heads of other lines at cell 5, and their characters at cell 7
unfoldable of_near : (Rows → Rows) → List Bool
of_near = all_verdicts (one "a\nb\nc\nd\ne\nf\ng") (configured (record color_config { context_lines = 1 }) (red (label 0 13 "all") ∷ []))

-- row 6 shows line 2, which is line 1 counted from 0, and row 7 stands in place of line 3
unfoldable apart : ReportFields Span
apart = configured (record color_config { context_lines = 1 }) (label 0 1 "x" ∷ label 8 9 "y" ∷ [])

-- the row in place of line 3 is taken to be one of labels of line 2
unfoldable with_block : Placing → Placing
with_block p = record p {
  block_len = λ g l. if l == 1 then 1 else p.block_len g l;
  places = λ g l. if l == 1 then 0 else p.places g l;
}

unfoldable of_apart : (Placing → Placing) → List Bool
of_apart change =
    all_verdicts_by (change (row_placing (texts_of apart) (parts_of (one "a\nb\nc\nd\ne") apart))) (one "a\nb\nc\nd\ne") apart as_drawn

unfoldable computed : Unit {0}
unfolding judged holder marks is_place_marked is_lone_marked has_lone_underlines are_characters_colored is_holder_shown are_underlines_colored
    has_text_colors all_aside_rows has_texts is_framed is_of_line others ends_at_cell is_hidden_row is_aside_row has_own_others has_other_rows
    all_but all_verdicts_by all_verdicts red of_cut of_lone of_cut_ends of_near apart with_block of_apart
computed = tt

-- ---- finished pictures

a_cut_line : of_cut as_drawn ≡ all_but []
unfolding computed
a_cut_line = refl

a_cut_line_with_underlines_alone : of_lone as_drawn ≡ all_but []
unfolding computed
a_cut_line_with_underlines_alone = refl

cut_lines_of_a_label_over_lines : of_cut_ends as_drawn ≡ all_but []
unfolding computed
cut_lines_of_a_label_over_lines = refl

lines_near_the_ends_of_a_label : of_near as_drawn ≡ all_but []
unfolding computed
lines_near_the_ends_of_a_label = refl

lines_near_labels_within_others : of_apart (λ p. p) ≡ all_but []
unfolding computed
lines_near_labels_within_others = refl

-- ---- cut lines that are changed

another_character : of_cut (shows 3 4 "x") ≡ all_but (placed ∷ [])
unfolding computed
another_character = refl

another_mark : of_cut (shows 3 3 "..") ≡ all_but (placed ∷ [])
unfolding computed
another_mark = refl

a_mark_of_one_column : of_cut (takes 3 3 1) ≡ all_but (alignment ∷ [])
unfolding computed
a_mark_of_one_column = refl

a_mark_in_another_color : of_cut (is_blue 3 3) ≡ all_but (text_colors ∷ [])
unfolding computed
a_mark_in_another_color = refl

a_mark_that_is_not_underlined : of_cut (shows 4 3 " ") ≡ all_but (traces ∷ [])
unfolding computed
a_mark_that_is_not_underlined = refl

an_underline_below_a_mark_in_another_color : of_cut (is_blue 4 3) ≡ all_but (text_colors ∷ [])
unfolding computed
an_underline_below_a_mark_in_another_color = refl

no_corner_below_a_cut_line : of_cut (shows 5 7 " ") ≡ all_but (traces ∷ [])
unfolding computed
no_corner_below_a_cut_line = refl

a_corner_below_a_cut_line_in_another_color : of_cut (is_blue 5 7) ≡ all_but (stroke_colors ∷ [])
unfolding computed
a_corner_below_a_cut_line_in_another_color = refl

a_stroke_without_a_cause_below_a_cut_line : of_cut (shows 5 6 "|") ≡ all_but (strokes ∷ [])
unfolding computed
a_stroke_without_a_cause_below_a_cut_line = refl

another_message_below_a_cut_line : of_cut (shows 5 13 "n") ≡ all_but (messages ∷ [])
unfolding computed
another_message_below_a_cut_line = refl

underlines_alone_in_another_color : of_lone (is_blue 4 7) ≡ all_but (alone ∷ text_colors ∷ [])
unfolding computed
underlines_alone_in_another_color = refl

a_hole_in_the_level_below_a_cut_line : of_cut_ends (shows 6 9 " ") ≡ all_but (ends ∷ [])
unfolding computed
a_hole_in_the_level_below_a_cut_line = refl

-- ---- lines near others that are changed

another_character_of_a_line_near_others : of_near (shows 4 7 "x") ≡ all_but (placed ∷ [])
unfolding computed
another_character_of_a_line_near_others = refl

another_number_of_a_line_near_others : of_near (shows 6 1 "5 |") ≡ all_but (placed ∷ [])
unfolding computed
another_number_of_a_line_near_others = refl

another_color_of_a_line_near_others : of_near (is_blue 4 7) ≡ all_but (text_colors ∷ [])
unfolding computed
another_color_of_a_line_near_others = refl

no_bar_beside_a_line_near_others : of_near (shows 4 3 " ") ≡ all_but (bars ∷ [])
unfolding computed
no_bar_beside_a_line_near_others = refl

a_level_without_a_cause_beside_a_line_near_others : of_near (shows 4 5 "-") ≡ all_but (gutter_strokes ∷ [])
unfolding computed
a_level_without_a_cause_beside_a_line_near_others = refl

a_block_below_a_line_near_others : of_apart with_block ≡ all_but (blocks ∷ [])
unfolding computed
a_block_below_a_line_near_others = refl
