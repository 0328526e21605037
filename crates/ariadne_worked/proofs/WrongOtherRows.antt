-- The clause on the rows that no line has, by computation: it holds on finished pictures, by the placing that the names of their rows
-- give, and alone refuses pictures where such a row shows another thing, or a stroke in its text. Each picture is judged alone, and
-- behind another group. Rows and cells count from 0.
use Rattle.std.specs.Prelude.{◌≡◌, ℕ, Bool, true, false, refl, [], ◌∷◌, ◌++◌, List, Some, take, codes}
use Rattle.ariadne_picture.specs.Report.{ReportFields, warning}
use Rattle.ariadne_picture.specs.Canvas.{Cell, color_of, palette_of, texts_of}
use Rattle.ariadne_picture.specs.LabelColors.{label_color, has_label_colors}
use Rattle.ariadne_picture.specs.LoneLines.{holder, marks, is_place_marked, is_lone_marked, has_lone_underlines}
use Rattle.ariadne_picture.specs.TextColors.{are_characters_colored, is_holder_shown, are_underlines_colored, has_text_colors}
use Rattle.ariadne_picture.specs.OtherRows.{all_aside_rows, has_texts, is_framed, is_of_line, others, ends_at_cell, is_hidden_row, is_aside_row}
use Rattle.ariadne_picture.specs.OtherRows.{has_own_others, has_other_rows}
use Rattle.ariadne_picture.proofs.Rows.RowPlacing.{row_placing}
use Rattle.ariadne_worked.proofs.Sample.{Span, Entry, one, named, label, label_in, silent_label, report, titled, compact_config, unicode_config, texts}
use Rattle.ariadne_worked.proofs.Readings.{cells_of, parts_of, apart}
use Rattle.ariadne_worked.proofs.Changes.{Rows, as_drawn, on_row, shows, plain, gutter_verdicts, sources_behind, report_behind, change_behind, judged}

-- all clauses without colours, no other strokes in the gutter, the three on colours, other rows
abbrev all_hold : List Bool
all_hold = true ∷ true ∷ true ∷ true ∷ true ∷ true ∷ []

-- only the last one refuses it
abbrev refused : List Bool
refused = true ∷ true ∷ true ∷ true ∷ true ∷ false ∷ []

unfoldable verdicts_alone : List Entry → ReportFields Span → (Rows → Rows) → List Bool
verdicts_alone entries r change =
    let cells = change (cells_of entries r) in
    let parts = parts_of entries r in
    let p = row_placing (texts_of r) parts in
    gutter_verdicts entries r change
    ++ has_label_colors cells parts p (label_color r) ∷ has_lone_underlines cells parts p (label_color r)
    ∷ has_text_colors cells parts p (color_of (palette_of r)) ∷ has_other_rows cells parts p (texts_of r) ∷ []

unfoldable verdicts_behind : List Entry → ReportFields Span → (Rows → Rows) → List Bool
verdicts_behind entries r change = verdicts_alone (sources_behind entries) (report_behind r) (change_behind change)

-- row n has one more cell, or ends before cell c
unfoldable longer : ℕ → Cell → Rows → Rows
longer n cell = on_row n (λ row. row ++ cell ∷ [])

unfoldable cut_at : ℕ → ℕ → Rows → Rows
cut_at n c = on_row n (λ row. take c row)

-- ---- the pictures

-- row 4 stands in place of the middle line. Text begins at cell 7: that of the helps in rows 8 to 12, and of the note in rows 13 and
-- 14. Row 15 is the last
unfoldable full : ReportFields Span
full = record (titled "m" (label 0 8 "over" ∷ [])) {
  code = Some (codes "E");
  kind = warning;
  helps = texts ("h" ∷ "i\nj" ∷ []);
  notes = texts ("n" ∷ []);
}

unfoldable of_full : (Rows → Rows) → List Bool
of_full = verdicts_alone (one "aa\nbb\ncc") full

unfoldable full_behind : (Rows → Rows) → List Bool
full_behind = verdicts_behind (one "aa\nbb\ncc") full

-- the same in compact form: row 3 in place of the middle line, helps in rows 6 to 8, the note in row 9
unfoldable of_compact : (Rows → Rows) → List Bool
of_compact = verdicts_alone (one "aa\nbb\ncc") (record full { config = compact_config })

unfoldable of_unicode : (Rows → Rows) → List Bool
of_unicode = verdicts_alone (one "aa\nbb\ncc") (record full { config = unicode_config })

-- row 6 is a bare one, between two lines
unfoldable bare : ReportFields Span
bare = report (label 0 1 "x" ∷ label 4 5 "z" ∷ [])

unfoldable of_bare : (Rows → Rows) → List Bool
of_bare = verdicts_alone (one "a\nb\nc") bare

unfoldable bare_behind : (Rows → Rows) → List Bool
bare_behind = verdicts_behind (one "a\nb\nc") bare

-- row 6 stands in place of lines that a label without message and so without gutter holds
unfoldable silent : ReportFields Span
silent = report (label 0 1 "x" ∷ silent_label 0 5 ∷ [])

unfoldable of_silent : (Rows → Rows) → List Bool
of_silent = verdicts_alone (one "a\nb\nc") silent

unfoldable silent_behind : (Rows → Rows) → List Bool
silent_behind = verdicts_behind (one "a\nb\nc") silent

-- two groups, of which row 8 is the last of the first, behind another group
unfoldable apart_behind : (Rows → Rows) → List Bool
apart_behind = verdicts_behind (one "aa\nbb\ncc") apart

-- the header says a name
unfoldable of_named : (Rows → Rows) → List Bool
of_named = verdicts_alone (named "f.rs" "a\nb" ∷ []) (report (label_in "f.rs" 2 3 "x" ∷ []))

unfoldable computed : Unit {0}
unfolding judged apart holder marks is_place_marked is_lone_marked has_lone_underlines are_characters_colored is_holder_shown are_underlines_colored
    has_text_colors all_aside_rows has_texts is_framed is_of_line others ends_at_cell is_hidden_row is_aside_row has_own_others has_other_rows verdicts_alone verdicts_behind longer cut_at full of_full full_behind of_compact of_unicode bare
    of_bare bare_behind silent of_silent silent_behind apart_behind of_named
computed = tt

-- ---- finished pictures

helps_and_notes : of_full as_drawn ≡ all_hold
unfolding computed
helps_and_notes = refl

helps_and_notes_behind_a_group : full_behind as_drawn ≡ all_hold
unfolding computed
helps_and_notes_behind_a_group = refl

helps_and_notes_in_compact_form : of_compact as_drawn ≡ all_hold
unfolding computed
helps_and_notes_in_compact_form = refl

helps_and_notes_in_unicode : of_unicode as_drawn ≡ all_hold
unfolding computed
helps_and_notes_in_unicode = refl

a_bare_row : of_bare as_drawn ≡ all_hold
unfolding computed
a_bare_row = refl

a_bare_row_behind_a_group : bare_behind as_drawn ≡ all_hold
unfolding computed
a_bare_row_behind_a_group = refl

a_gap_row_without_gutter : of_silent as_drawn ≡ all_hold
unfolding computed
a_gap_row_without_gutter = refl

a_gap_row_without_gutter_behind_a_group : silent_behind as_drawn ≡ all_hold
unfolding computed
a_gap_row_without_gutter_behind_a_group = refl

three_groups : apart_behind as_drawn ≡ all_hold
unfolding computed
three_groups = refl

a_source_with_a_name : of_named as_drawn ≡ all_hold
unfolding computed
a_source_with_a_name = refl

-- ---- the first row

another_kind : of_full (shows 0 0 "[E] Error:") ≡ refused
unfolding computed
another_kind = refl

another_code : of_full (shows 0 0 "[F] Warning:") ≡ refused
unfolding computed
another_code = refl

no_code : of_full (shows 0 0 "Warning:") ≡ refused
unfolding computed
no_code = refl

another_message : of_full (shows 0 1 " n") ≡ refused
unfolding computed
another_message = refl

a_message_that_goes_on : of_full (longer 0 (plain "x")) ≡ refused
unfolding computed
a_message_that_goes_on = refl

no_message : of_full (cut_at 0 1) ≡ refused
unfolding computed
no_message = refl

-- ---- headers of groups

another_name : of_named (shows 1 4 " g.rs:2:1 ") ≡ refused
unfolding computed
another_name = refl

another_line : of_named (shows 1 4 " f.rs:1:1 ") ≡ refused
unfolding computed
another_line = refl

another_column : of_named (shows 1 4 " f.rs:2:2 ") ≡ refused
unfolding computed
another_column = refl

a_header_that_begins_with_a_stroke : of_named (shows 1 0 "  |") ≡ refused
unfolding computed
a_header_that_begins_with_a_stroke = refl

a_tee_above_the_first_group : of_named (shows 1 1 "|") ≡ refused
unfolding computed
a_tee_above_the_first_group = refl

a_header_that_goes_on : of_named (longer 1 (plain "z")) ≡ refused
unfolding computed
a_header_that_goes_on = refl

a_header_without_its_box : of_named (cut_at 1 5) ≡ refused
unfolding computed
a_header_without_its_box = refl

another_name_of_the_second_group : full_behind (shows 1 4 " z:1:1 ") ≡ refused
unfolding computed
another_name_of_the_second_group = refl

a_corner_above_the_second_group : full_behind (shows 1 1 ",") ≡ refused
unfolding computed
a_corner_above_the_second_group = refl

-- ---- the rows below headers, and the last ones

a_letter_below_a_header : of_bare (shows 2 1 "x") ≡ refused
unfolding computed
a_letter_below_a_header = refl

a_stroke_below_a_header : of_bare (longer 2 (plain "|")) ≡ refused
unfolding computed
a_stroke_below_a_header = refl

a_bar_below_a_header_a_column_late : of_bare (shows 2 0 "  |") ≡ refused
unfolding computed
a_bar_below_a_header_a_column_late = refl

a_stroke_below_the_header_of_the_second_group : bare_behind (longer 2 (plain "|")) ≡ refused
unfolding computed
a_stroke_below_the_header_of_the_second_group = refl

a_stroke_behind_the_last_row : of_full (longer 15 (plain "-")) ≡ refused
unfolding computed
a_stroke_behind_the_last_row = refl

a_last_row_that_is_longer : of_full (shows 15 0 "----'") ≡ refused
unfolding computed
a_last_row_that_is_longer = refl

a_last_row_without_its_corner : of_full (shows 15 0 "----") ≡ refused
unfolding computed
a_last_row_without_its_corner = refl

a_last_row_of_the_second_group_that_is_longer : full_behind (shows 15 0 "----'") ≡ refused
unfolding computed
a_last_row_of_the_second_group_that_is_longer = refl

a_stroke_behind_a_group_that_is_not_the_last : apart_behind (longer 8 (plain "-")) ≡ refused
unfolding computed
a_stroke_behind_a_group_that_is_not_the_last = refl

-- ---- rows in place of hidden lines

a_stroke_in_the_text_of_a_gap_row : of_full (longer 4 (plain "|")) ≡ refused
unfolding computed
a_stroke_in_the_text_of_a_gap_row = refl

a_stroke_in_the_text_of_a_gap_row_behind_a_group : full_behind (longer 4 (plain "|")) ≡ refused
unfolding computed
a_stroke_in_the_text_of_a_gap_row_behind_a_group = refl

a_stroke_in_a_gap_row_of_compact_form : of_compact (longer 3 (plain "-")) ≡ refused
unfolding computed
a_stroke_in_a_gap_row_of_compact_form = refl

a_stroke_in_a_bare_row : of_bare (longer 6 (plain "|")) ≡ refused
unfolding computed
a_stroke_in_a_bare_row = refl

a_stroke_in_a_bare_row_behind_a_group : bare_behind (longer 6 (plain "|")) ≡ refused
unfolding computed
a_stroke_in_a_bare_row_behind_a_group = refl

a_letter_in_the_margin_of_a_bare_row : of_bare (shows 6 1 " x|") ≡ refused
unfolding computed
a_letter_in_the_margin_of_a_bare_row = refl

a_letter_in_the_margin_of_a_bare_row_behind_a_group : bare_behind (shows 6 1 " x|") ≡ refused
unfolding computed
a_letter_in_the_margin_of_a_bare_row_behind_a_group = refl

a_letter_in_the_margin_of_a_gap_row : of_silent (shows 6 1 " x:") ≡ refused
unfolding computed
a_letter_in_the_margin_of_a_gap_row = refl

a_letter_in_the_margin_of_a_gap_row_behind_a_group : silent_behind (shows 6 1 " x:") ≡ refused
unfolding computed
a_letter_in_the_margin_of_a_gap_row_behind_a_group = refl

a_bare_row_that_is_cut : of_bare (cut_at 6 2) ≡ refused
unfolding computed
a_bare_row_that_is_cut = refl

-- ---- helps and notes

another_help : of_full (shows 9 8 ": g") ≡ refused
unfolding computed
another_help = refl

a_help_for_a_note : of_full (shows 14 7 "Help") ≡ refused
unfolding computed
a_help_for_a_note = refl

another_number_of_a_help : of_full (shows 11 7 "Help 3") ≡ refused
unfolding computed
another_number_of_a_help = refl

another_further_line_of_a_help : of_full (shows 12 7 "        k") ≡ refused
unfolding computed
another_further_line_of_a_help = refl

a_stroke_behind_a_note : of_full (longer 14 (plain "-")) ≡ refused
unfolding computed
a_stroke_behind_a_note = refl

a_stroke_above_a_help : of_full (longer 8 (plain "|")) ≡ refused
unfolding computed
a_stroke_above_a_help = refl

a_row_above_a_help_without_its_gutter : of_full (cut_at 8 3) ≡ refused
unfolding computed
a_row_above_a_help_without_its_gutter = refl

a_row_above_a_help_without_its_gutter_behind_a_group : full_behind (cut_at 8 3) ≡ refused
unfolding computed
a_row_above_a_help_without_its_gutter_behind_a_group = refl

a_note_that_is_cut_short : of_full (cut_at 14 8) ≡ refused
unfolding computed
a_note_that_is_cut_short = refl

a_letter_in_the_margin_of_a_help : of_full (shows 9 1 " x|") ≡ refused
unfolding computed
a_letter_in_the_margin_of_a_help = refl

a_letter_in_the_margin_of_a_help_behind_a_group : full_behind (shows 9 1 " x|") ≡ refused
unfolding computed
a_letter_in_the_margin_of_a_help_behind_a_group = refl

another_note_behind_a_group : full_behind (shows 14 8 ": m") ≡ refused
unfolding computed
another_note_behind_a_group = refl

another_help_in_compact_form : of_compact (shows 6 5 ": g") ≡ refused
unfolding computed
another_help_in_compact_form = refl
