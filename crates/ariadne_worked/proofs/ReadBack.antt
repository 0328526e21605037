-- Finished pictures that are read back, without their labels: what they tell is what the labels are. Where a stroke,
-- a number or a message is changed by hand, they tell otherwise.
use Rattle.std.specs.Prelude.{ℕ, ◌≡◌, refl, false, List, [], ◌∷◌, map, Option, Some, None}
use Prim.Native.String.{String}
use Rattle.ariadne_base.specs.Listing.{Listing}
use Rattle.ariadne_picture.specs.Report.{ConfigFields, ReportFields, switches_of}
use Rattle.ariadne_picture.specs.Canvas.{texts_of}
use Rattle.ariadne_picture.specs.Pieces.{Section, gutter_len, message_at}
use Rattle.ariadne_picture.specs.ReadBack.Rows.{last_before, Known, unlabelled, begins_with_digit, margin_of, is_heading, shows_line, is_below_lines}
use Rattle.ariadne_picture.specs.ReadBack.Rows.{group_of, source_of, line_row, has_line, has_number, line_of, text_begin_by, text_begin, has_strokes, is_arrow_row}
use Rattle.ariadne_picture.specs.ReadBack.Answer.{Told, first_showing, gutter_turn, has_message, message_of_row, text_of_row, attach_of_row}
use Rattle.ariadne_picture.specs.ReadBack.Answer.{start_of_head, head_of, told_with, told_by, read_back, read_headers}
use Rattle.ariadne_picture.specs.ReadBack.Labels.{told_within, gutter_end, told_over, group_told, labels_told, headers_told}
use Rattle.ariadne_worked.proofs.Sample.{Span, Entry, utf8, texts, one, named, nameless, silent_label, label_in, label, ascii_config}
use Rattle.ariadne_worked.proofs.Sample.{compact_config, unicode_config, report, configured}
use Rattle.ariadne_worked.proofs.Readings.{cells_of, parts_of, nested, apart, wide}
use Rattle.ariadne_worked.proofs.Changes.{Rows, as_drawn, shows, judged}

-- ---- what is told

-- a message, and the column of a line
unfoldable told : ℕ → ℕ → ℕ → String → Told
told group line column message =
    record { group = group; start = None; end = record { line = line; column = Some column }; message = utf8 message }

-- a message, and two lines, each with its column or with none
unfoldable told_from : ℕ → ℕ → Option ℕ → ℕ → Option ℕ → String → Told
told_from group first from last to message = record {
  group = group;
  start = Some (record { line = first; column = from });
  end = record { line = last; column = to };
  message = utf8 message;
}

-- a source whose first line has the number 1
unfoldable source : String → Listing
source t = record { text = utf8 t; display_offset = 0 }

-- what the reader is told of a group: its source alone
unfoldable untold : Listing → Known
untold listing = record { listing = listing; gutter = None }

-- what the rows of a report tell, changed or as they are drawn
unfoldable rows_tell : List Listing → List Entry → ReportFields Span → (Rows → Rows) → List Told
rows_tell sources entries r change = read_back (change (cells_of entries r)) (map untold sources) (switches_of r.config)

-- or its source and the number of its gutter columns
unfoldable with_gutters : List Listing → List Section → List Known
with_gutters (l ∷ ls) (s ∷ ss) = record { listing = l; gutter = Some (gutter_len s.sheet) } ∷ with_gutters ls ss
with_gutters ls ss = []

unfoldable rows_tell_by_gutters : List Listing → List Entry → ReportFields Span → (Rows → Rows) → List Told
rows_tell_by_gutters sources entries r change =
    read_back (change (cells_of entries r)) (with_gutters sources (parts_of entries r)) (switches_of r.config)

-- what its labels are
unfoldable labels_tell : List Entry → ReportFields Span → List Told
labels_tell entries r = labels_told (message_at (texts_of r)) (parts_of entries r)

unfoldable read : Unit {0}
unfolding judged nested apart wide last_before begins_with_digit untold with_gutters unlabelled margin_of is_heading shows_line is_below_lines group_of source_of line_row
    has_line has_number line_of text_begin_by text_begin has_strokes is_arrow_row first_showing gutter_turn has_message message_of_row text_of_row attach_of_row
    start_of_head head_of told_with told_by read_back read_headers headers_told told_within gutter_end told_over group_told labels_told told told_from source rows_tell rows_tell_by_gutters labels_tell
read = tt

-- a cut line: the column is that of the text as it is shown
a_cut_line_is_read_back : rows_tell_by_gutters (source "abcdefghijklmnop" ∷ []) (one "abcdefghijklmnop")
    (configured (record unicode_config { width = 9 }) (label 7 8 "h" ∷ [])) as_drawn ≡ told 0 0 4 "h" ∷ []
unfolding read
a_cut_line_is_read_back = refl

-- in ASCII a mark has three columns, so that the same line has two cells less than one without labels: who doesn't know how
-- many gutter columns it has looks two cells too far to the left, and is told nothing
unfoldable cut_in_ascii : ReportFields Span
cut_in_ascii = configured (record ascii_config { width = 9 }) (label 7 8 "h" ∷ [])

a_cut_line_in_ascii : rows_tell_by_gutters (source "abcdefghijklmnop" ∷ []) (one "abcdefghijklmnop") cut_in_ascii as_drawn ≡ told 0 0 4 "h" ∷ []
unfolding read cut_in_ascii
a_cut_line_in_ascii = refl

without_its_gutter : rows_tell (source "abcdefghijklmnop" ∷ []) (one "abcdefghijklmnop") cut_in_ascii as_drawn ≡ []
unfolding read cut_in_ascii
without_its_gutter = refl

-- ---- two labels within one line

unfoldable fruit : ConfigFields → ReportFields Span
fruit config = configured config (label 0 5 "apple" ∷ label 9 15 "orange" ∷ [])

fruit_is_read_back : rows_tell (source "apple == orange;" ∷ []) (one "apple == orange;") (fruit ascii_config) as_drawn
    ≡ told 0 0 2 "apple" ∷ told 0 0 12 "orange" ∷ []
unfolding read fruit
fruit_is_read_back = refl

its_labels_are_the_same : labels_tell (one "apple == orange;") (fruit ascii_config) ≡ told 0 0 2 "apple" ∷ told 0 0 12 "orange" ∷ []
unfolding read fruit
its_labels_are_the_same = refl

-- where the one crosses the other
crossed_fruit_is_read_back :
    rows_tell (source "apple == orange;" ∷ []) (one "apple == orange;") (fruit (record unicode_config { cross_gap = false })) as_drawn
    ≡ told 0 0 2 "apple" ∷ told 0 0 12 "orange" ∷ []
unfolding read fruit
crossed_fruit_is_read_back = refl

-- ---- a label over three lines, at the margin at both ends

unfoldable comparison : ReportFields Span
comparison = report (label 0 15 "illegal comparison" ∷ [])

a_label_over_lines_is_read_back : rows_tell (source "apple\n==\norange" ∷ []) (one "apple\n==\norange") comparison as_drawn
    ≡ told_from 0 0 None 2 None "illegal comparison" ∷ []
unfolding read comparison
a_label_over_lines_is_read_back = refl

its_label_is_the_same : labels_tell (one "apple\n==\norange") comparison ≡ told_from 0 0 None 2 None "illegal comparison" ∷ []
unfolding read comparison
its_label_is_the_same = refl

-- ---- nested labels over lines: the longer one comes first among the labels

nested_labels_are_read_back : rows_tell (source "aa\nbb\ncc" ∷ []) (one "aa\nbb\ncc") nested as_drawn
    ≡ told_from 0 0 (Some 1) 1 None "mid" ∷ told_from 0 0 None 2 None "all" ∷ []
unfolding read
nested_labels_are_read_back = refl

nested_labels_are_the_same : labels_tell (one "aa\nbb\ncc") nested ≡ told_from 0 0 None 2 None "all" ∷ told_from 0 0 (Some 1) 1 None "mid" ∷ []
unfolding read
nested_labels_are_the_same = refl

unfoldable compact_nested : ReportFields Span
compact_nested = record nested { config = compact_config }

compact_nested_labels_are_read_back : rows_tell (source "aa\nbb\ncc" ∷ []) (one "aa\nbb\ncc") compact_nested as_drawn
    ≡ told_from 0 0 (Some 1) 1 None "mid" ∷ told_from 0 0 None 2 None "all" ∷ []
unfolding read compact_nested
compact_nested_labels_are_read_back = refl

-- ---- two labels over lines that cross

unfoldable crossing : ReportFields Span
crossing = configured (record ascii_config { cross_gap = false }) (label 0 4 "A" ∷ label 1 5 "B" ∷ [])

crossing_labels_are_read_back : rows_tell (source "ab\ncd" ∷ []) (one "ab\ncd") crossing as_drawn
    ≡ told_from 0 0 None 1 None "A" ∷ told_from 0 0 (Some 1) 1 (Some 1) "B" ∷ []
unfolding read crossing
crossing_labels_are_read_back = refl

crossing_labels_are_the_same : labels_tell (one "ab\ncd") crossing
    ≡ told_from 0 0 None 1 None "A" ∷ told_from 0 0 (Some 1) 1 (Some 1) "B" ∷ []
unfolding read crossing
crossing_labels_are_the_same = refl

-- ---- two groups, over one source and over two

groups_are_read_back : rows_tell (source "aa\nbb\ncc" ∷ source "aa\nbb\ncc" ∷ []) (one "aa\nbb\ncc") apart as_drawn
    ≡ told_from 0 0 None 2 None "all" ∷ told_from 1 0 None 1 None "mid" ∷ []
unfolding read
groups_are_read_back = refl

groups_are_the_same : labels_tell (one "aa\nbb\ncc") apart ≡ told_from 0 0 None 2 None "all" ∷ told_from 1 0 None 1 None "mid" ∷ []
unfolding read
groups_are_the_same = refl

unfoldable two_files : List Entry
two_files = nameless "a" "x\ny" ∷ nameless "b" "zz" ∷ []

unfoldable in_two_files : ReportFields Span
in_two_files = report (label_in "a" 2 3 "first" ∷ label_in "b" 1 2 "second" ∷ [])

two_files_are_read_back : rows_tell (source "x\ny" ∷ source "zz" ∷ []) two_files in_two_files as_drawn
    ≡ told 0 1 0 "first" ∷ told 1 0 1 "second" ∷ []
unfolding read two_files in_two_files
two_files_are_read_back = refl

-- ---- a wide character behind a tab, and one without columns, which can't be told from the next

a_wide_character_is_read_back : rows_tell (source "\t漢x" ∷ []) (one "\t漢x") wide as_drawn ≡ told 0 0 4 "w" ∷ []
unfolding read
a_wide_character_is_read_back = refl

a_wide_character_is_the_same : labels_tell (one "\t漢x") wide ≡ told 0 0 4 "w" ∷ []
unfolding read
a_wide_character_is_the_same = refl

unfoldable on_accent : ReportFields Span
on_accent = report (label 1 2 "m" ∷ [])

unfoldable behind_accent : ReportFields Span
behind_accent = report (label 2 3 "m" ∷ [])

an_accent_is_read_back : rows_tell (source "éx" ∷ []) (one "éx") on_accent as_drawn ≡ told 0 0 1 "m" ∷ []
unfolding read on_accent
an_accent_is_read_back = refl

the_next_character_is_read_back : rows_tell (source "éx" ∷ []) (one "éx") behind_accent as_drawn ≡ told 0 0 1 "m" ∷ []
unfolding read behind_accent
the_next_character_is_read_back = refl

-- ---- rows that tell nothing: of labels without a message, of helps and notes, and in place of hidden lines

unfoldable aside : ReportFields Span
aside = record (report (label 0 1 "" ∷ silent_label 5 8 ∷ label 10 11 "far" ∷ []))
    { helps = texts ("`-- a\n|\n`-- b" ∷ []); notes = texts ("n" ∷ []) }

rows_without_a_message_tell_nothing : rows_tell (source "aa\nbb\ncc\ndd\nee" ∷ []) (one "aa\nbb\ncc\ndd\nee") aside as_drawn
    ≡ told 0 0 0 "" ∷ told 0 3 1 "far" ∷ []
unfolding read aside
rows_without_a_message_tell_nothing = refl

unfoldable silent : ReportFields Span
silent = record (report (silent_label 1 4 ∷ [])) { helps = texts ("h" ∷ []) }

a_group_without_a_shown_line_tells_nothing : rows_tell (source "ab\ncd" ∷ []) (one "ab\ncd") silent as_drawn ≡ []
unfolding read silent
a_group_without_a_shown_line_tells_nothing = refl

-- ---- headers

-- what those of a report say, changed or as they are drawn
unfoldable headers_tell : List Entry → ReportFields Span → (Rows → Rows) → List (List ℕ)
headers_tell entries r change = read_headers (change (cells_of entries r)) (map untold (source "aa" ∷ source "b" ∷ [])) (switches_of r.config)

unfoldable headed : ReportFields Span
headed = record (report (label_in "f.rs" 1 2 "x" ∷ label_in "g.rs" 0 1 "y" ∷ [])) { code = Some (utf8 "E"); message = Some (utf8 "m") }

unfoldable two_names : List Entry
two_names = named "f.rs" "aa" ∷ named "g.rs" "b" ∷ []

headers_are_read_back : headers_tell two_names headed as_drawn ≡ texts ("[E] Error:" ∷ " m" ∷ " f.rs:1:2 " ∷ " g.rs:1:1 " ∷ [])
unfolding read headers_tell headed two_names
headers_are_read_back = refl

its_headers_are_the_same : headers_told (texts_of headed) (parts_of two_names headed) ≡ texts ("[E] Error:" ∷ " m" ∷ " f.rs:1:2 " ∷ " g.rs:1:1 " ∷ [])
unfolding read headed two_names
its_headers_are_the_same = refl

-- ---- changed by hand

another_kind : headers_tell two_names headed (shows 0 0 "[E] Advice:") ≡ texts ("[E] Advice:" ∷ " m" ∷ " f.rs:1:2 " ∷ " g.rs:1:1 " ∷ [])
unfolding read headers_tell headed two_names
another_kind = refl

another_message_of_the_report : headers_tell two_names headed (shows 0 1 " n") ≡ texts ("[E] Error:" ∷ " n" ∷ " f.rs:1:2 " ∷ " g.rs:1:1 " ∷ [])
unfolding read headers_tell headed two_names
another_message_of_the_report = refl

another_name_of_the_last_source : headers_tell two_names headed (shows 7 4 " h.rs:1:1 ") ≡ texts ("[E] Error:" ∷ " m" ∷ " f.rs:1:2 " ∷ " h.rs:1:1 " ∷ [])
unfolding read headers_tell headed two_names
another_name_of_the_last_source = refl

a_corner_one_place_on : rows_tell (source "apple == orange;" ∷ []) (one "apple == orange;") (fruit ascii_config)
    (λ rows. shows 7 15 " " (shows 7 16 "`" rows)) ≡ told 0 0 2 "apple" ∷ told 0 0 13 "orange" ∷ []
unfolding read fruit
a_corner_one_place_on = refl

a_start_one_place_before : rows_tell (source "aa\nbb\ncc" ∷ []) (one "aa\nbb\ncc") nested (λ rows. shows 5 9 "'" (shows 5 10 " " rows))
    ≡ told_from 0 0 (Some 0) 1 None "mid" ∷ told_from 0 0 None 2 None "all" ∷ []
unfolding read
a_start_one_place_before = refl

another_number : rows_tell (source "aa\nbb\ncc" ∷ []) (one "aa\nbb\ncc") nested (shows 6 1 "3 |")
    ≡ told_from 0 0 (Some 1) 2 None "mid" ∷ told_from 0 0 None 2 None "all" ∷ []
unfolding read
another_number = refl

a_corner_in_another_column : rows_tell (source "aa\nbb\ncc" ∷ []) (one "aa\nbb\ncc") nested (λ rows. shows 8 3 "`" (shows 8 5 "-" rows))
    ≡ told_from 0 0 None 1 None "mid" ∷ told_from 0 0 None 2 None "all" ∷ []
unfolding read
a_corner_in_another_column = refl

a_message_on_another_row : rows_tell (source "aa\nbb\ncc" ∷ []) (one "aa\nbb\ncc") nested (λ rows. shows 8 15 "all" (shows 11 14 "mid" rows))
    ≡ told_from 0 0 (Some 1) 1 None "all" ∷ told_from 0 0 None 2 None "mid" ∷ []
unfolding read
a_message_on_another_row = refl

-- ---- the first two cells of a row, changed: row 6 of the compact picture shows line 2, and row 7 stands below it

unfoldable changed : ℕ → ℕ → String → List Told
changed row cell text = rows_tell (source "aa\nbb\ncc" ∷ []) (one "aa\nbb\ncc") compact_nested (shows row cell text)

-- what stands below line 2 is taken to stand below line 1
abbrev line_2_is_missed : List Told
line_2_is_missed = told_from 0 0 (Some 1) 1 None "mid" ∷ told_from 0 0 None 1 None "all" ∷ []

a_line_begins_with_a_blank : changed 6 0 "x" ≡ line_2_is_missed
unfolding read compact_nested changed
a_line_begins_with_a_blank = refl

a_mark_is_no_number : changed 6 1 "!" ≡ line_2_is_missed
unfolding read compact_nested changed
a_mark_is_no_number = refl

an_empty_margin_is_no_number : changed 6 1 "" ≡ line_2_is_missed
unfolding read compact_nested changed
an_empty_margin_is_no_number = refl

so_does_a_row_below_it : changed 7 0 "x" ≡ told_from 0 0 (Some 1) 1 None "mid" ∷ []
unfolding read compact_nested changed
so_does_a_row_below_it = refl

-- but no header, and a box behind a blank makes none
a_box_in_the_gutter_is_no_header : changed 4 3 "[" ≡ told_from 0 0 (Some 1) 1 None "mid" ∷ told_from 0 0 None 2 None "all" ∷ []
unfolding read compact_nested changed
a_box_in_the_gutter_is_no_header = refl
