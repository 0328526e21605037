-- Pictures of headers, helps and notes.
use Rattle.std.specs.Prelude.{◌≡◌, refl, ◌∷◌, [], Some}
use Rattle.ariadne_color.specs.declared.color.Color.TheVariants.{Blue}
use Rattle.ariadne_picture.specs.Report.{custom}
use Rattle.ariadne_worked.proofs.Sample.{drawn, picture, left_out, rows, one, label, report, titled, utf8, texts}

message_without_labels :
    picture (one "") (titled "can't compare apples with oranges" []) ≡ rows (
    "Error: can't compare apples with oranges" ∷ [])
unfolding drawn
message_without_labels = refl

-- without a label neither helps nor notes are drawn
header_alone :
    picture (one "") (record (titled "can't compare apples with oranges" []) { helps = texts ("h" ∷ []) })
    ≡ rows (
    "Error: can't compare apples with oranges" ∷ [])
unfolding drawn
header_alone = refl

header_alone_leaves_nothing_out :
    left_out (one "") (record (titled "can't compare apples with oranges" []) { helps = texts ("h" ∷ []) }) ≡ []
unfolding drawn
header_alone_leaves_nothing_out = refl

header_with_a_message :
    picture (one "") (titled "m" []) ≡ rows (
    "Error: m" ∷ [])
unfolding drawn
header_with_a_message = refl

-- a number is filled with zeros when it is set
header_with_a_numeric_code :
    picture (one "") (record (titled "m" []) { code = Some (utf8 "03") }) ≡ rows (
    "[03] Error: m" ∷ [])
unfolding drawn
header_with_a_numeric_code = refl

-- a text is filled with blanks when it is set
header_with_a_textual_code :
    picture (one "") (record (titled "m" []) { code = Some (utf8 "E ") }) ≡ rows (
    "[E ] Error: m" ∷ [])
unfolding drawn
header_with_a_textual_code = refl

-- with colours off its colour is dropped too
header_of_a_custom_kind :
    picture (one "") (record (titled "m" []) { kind = custom (utf8 "Hint") Blue }) ≡ rows (
    "Hint: m" ∷ [])
unfolding drawn
header_of_a_custom_kind = refl

help_below_an_empty_source :
    picture (one "") (record (titled "unexpected end of file" (label 0 0 "No more fruit!" ∷ []))
    { helps = texts ("have you tried going to the farmer's market?" ∷ []) }) ≡ rows (
    "Error: unexpected end of file" ∷
    "   ,-[ <unknown>:1:1 ]" ∷
    "   |" ∷
    " 1 | " ∷
    "   | | " ∷
    "   | `- No more fruit!" ∷
    "   | " ∷
    "   | Help: have you tried going to the farmer's market?" ∷
    "---'" ∷ [])
unfolding drawn
help_below_an_empty_source = refl

note_below_an_empty_source :
    picture (one "") (record (titled "unexpected end of file" (label 0 0 "No more fruit!" ∷ []))
    { notes = texts ("eat your greens!" ∷ []) }) ≡ rows (
    "Error: unexpected end of file" ∷
    "   ,-[ <unknown>:1:1 ]" ∷
    "   |" ∷
    " 1 | " ∷
    "   | | " ∷
    "   | `- No more fruit!" ∷
    "   | " ∷
    "   | Note: eat your greens!" ∷
    "---'" ∷ [])
unfolding drawn
note_below_an_empty_source = refl

help_and_note_below_an_empty_source :
    picture (one "") (record (titled "unexpected end of file" (label 0 0 "No more fruit!" ∷ []))
    { notes = texts ("eat your greens!" ∷ []); helps = texts ("have you tried going to the farmer's market?" ∷ []) })
    ≡ rows (
    "Error: unexpected end of file" ∷
    "   ,-[ <unknown>:1:1 ]" ∷
    "   |" ∷
    " 1 | " ∷
    "   | | " ∷
    "   | `- No more fruit!" ∷
    "   | " ∷
    "   | Help: have you tried going to the farmer's market?" ∷
    "   | " ∷
    "   | Note: eat your greens!" ∷
    "---'" ∷ [])
unfolding drawn
help_and_note_below_an_empty_source = refl

-- but its blank row, and it counts
empty_help_has_no_line :
    picture (one "") (record (report (label 0 0 "m" ∷ [])) { helps = texts ("" ∷ "h" ∷ []) }) ≡ rows (
    "Error: " ∷
    "   ,-[ <unknown>:1:1 ]" ∷
    "   |" ∷
    " 1 | " ∷
    "   | | " ∷
    "   | `- m" ∷
    "   | " ∷
    "   | " ∷
    "   | Help 2: h" ∷
    "---'" ∷ [])
unfolding drawn
empty_help_has_no_line = refl

note_below_two_labels :
    picture (one "apple == orange;") (record (titled "can't compare apples with oranges"
    (label 0 5 "This is an apple" ∷ label 9 15 "This is an orange" ∷ []))
    { notes = texts ("stop trying ... this is a fruitless endeavor" ∷ []) }) ≡ rows (
    "Error: can't compare apples with oranges" ∷
    "   ,-[ <unknown>:1:1 ]" ∷
    "   |" ∷
    " 1 | apple == orange;" ∷
    "   | ^^|^^    ^^^|^^  " ∷
    "   |   `-------------- This is an apple" ∷
    "   |             |    " ∷
    "   |             `---- This is an orange" ∷
    "   | " ∷
    "   | Note: stop trying ... this is a fruitless endeavor" ∷
    "---'" ∷ [])
unfolding drawn
note_below_two_labels = refl

help_below_two_labels :
    picture (one "apple == orange;") (record (titled "can't compare apples with oranges"
    (label 0 5 "This is an apple" ∷ label 9 15 "This is an orange" ∷ []))
    { helps = texts ("have you tried peeling the orange?" ∷ []) }) ≡ rows (
    "Error: can't compare apples with oranges" ∷
    "   ,-[ <unknown>:1:1 ]" ∷
    "   |" ∷
    " 1 | apple == orange;" ∷
    "   | ^^|^^    ^^^|^^  " ∷
    "   |   `-------------- This is an apple" ∷
    "   |             |    " ∷
    "   |             `---- This is an orange" ∷
    "   | " ∷
    "   | Help: have you tried peeling the orange?" ∷
    "---'" ∷ [])
unfolding drawn
help_below_two_labels = refl

help_and_note_below_two_labels :
    picture (one "apple == orange;") (record (titled "can't compare apples with oranges"
    (label 0 5 "This is an apple" ∷ label 9 15 "This is an orange" ∷ []))
    { helps = texts ("have you tried peeling the orange?" ∷ []); notes = texts ("stop trying ... this is a fruitless endeavor" ∷ []) })
    ≡ rows (
    "Error: can't compare apples with oranges" ∷
    "   ,-[ <unknown>:1:1 ]" ∷
    "   |" ∷
    " 1 | apple == orange;" ∷
    "   | ^^|^^    ^^^|^^  " ∷
    "   |   `-------------- This is an apple" ∷
    "   |             |    " ∷
    "   |             `---- This is an orange" ∷
    "   | " ∷
    "   | Help: have you tried peeling the orange?" ∷
    "   | " ∷
    "   | Note: stop trying ... this is a fruitless endeavor" ∷
    "---'" ∷ [])
unfolding drawn
help_and_note_below_two_labels = refl

one_note_of_one_line :
    picture (one "apple == orange;") (record (titled "can't compare apples with oranges"
    (label 0 15 "This is a strange comparison" ∷ []))
    { notes = texts ("No need to try, they can't be compared." ∷ []) }) ≡ rows (
    "Error: can't compare apples with oranges" ∷
    "   ,-[ <unknown>:1:1 ]" ∷
    "   |" ∷
    " 1 | apple == orange;" ∷
    "   | ^^^^^^^|^^^^^^^  " ∷
    "   |        `--------- This is a strange comparison" ∷
    "   | " ∷
    "   | Note: No need to try, they can't be compared." ∷
    "---'" ∷ [])
unfolding drawn
one_note_of_one_line = refl

several_notes_are_numbered :
    picture (one "apple == orange;") (record (titled "can't compare apples with oranges"
    (label 0 15 "This is a strange comparison" ∷ []))
    { notes = texts ("No need to try, they can't be compared." ∷ "Yeah, really, please stop." ∷ []) })
    ≡ rows (
    "Error: can't compare apples with oranges" ∷
    "   ,-[ <unknown>:1:1 ]" ∷
    "   |" ∷
    " 1 | apple == orange;" ∷
    "   | ^^^^^^^|^^^^^^^  " ∷
    "   |        `--------- This is a strange comparison" ∷
    "   | " ∷
    "   | Note 1: No need to try, they can't be compared." ∷
    "   | " ∷
    "   | Note 2: Yeah, really, please stop." ∷
    "---'" ∷ [])
unfolding drawn
several_notes_are_numbered = refl

lines_of_a_note_stand_below_its_first :
    picture (one "apple == orange;") (record (titled "can't compare apples with oranges"
    (label 0 15 "This is a strange comparison" ∷ []))
    { notes = texts ("No need to try, they can't be compared." ∷ "Yeah, really, please stop.\nIt has no resemblance." ∷ []) })
    ≡ rows (
    "Error: can't compare apples with oranges" ∷
    "   ,-[ <unknown>:1:1 ]" ∷
    "   |" ∷
    " 1 | apple == orange;" ∷
    "   | ^^^^^^^|^^^^^^^  " ∷
    "   |        `--------- This is a strange comparison" ∷
    "   | " ∷
    "   | Note 1: No need to try, they can't be compared." ∷
    "   | " ∷
    "   | Note 2: Yeah, really, please stop." ∷
    "   |         It has no resemblance." ∷
    "---'" ∷ [])
unfolding drawn
lines_of_a_note_stand_below_its_first = refl

lines_of_a_help_stand_below_its_first :
    picture (one "apple == orange;") (record (titled "can't compare apples with oranges"
    (label 0 15 "This is a strange comparison" ∷ []))
    { helps = texts ("No need to try, they can't be compared." ∷ "Yeah, really, please stop.\nIt has no resemblance." ∷ []) })
    ≡ rows (
    "Error: can't compare apples with oranges" ∷
    "   ,-[ <unknown>:1:1 ]" ∷
    "   |" ∷
    " 1 | apple == orange;" ∷
    "   | ^^^^^^^|^^^^^^^  " ∷
    "   |        `--------- This is a strange comparison" ∷
    "   | " ∷
    "   | Help 1: No need to try, they can't be compared." ∷
    "   | " ∷
    "   | Help 2: Yeah, really, please stop." ∷
    "   |         It has no resemblance." ∷
    "---'" ∷ [])
unfolding drawn
lines_of_a_help_stand_below_its_first = refl

note_is_cut_at_carriage_return_and_line_feed :
    picture (one "ab") (record (report (label 0 2 "x" ∷ [])) { notes = texts ("a\r\nb" ∷ []) }) ≡ rows (
    "Error: " ∷
    "   ,-[ <unknown>:1:1 ]" ∷
    "   |" ∷
    " 1 | ab" ∷
    "   | ^|  " ∷
    "   |  `-- x" ∷
    "   | " ∷
    "   | Note: a" ∷
    "   |       b" ∷
    "---'" ∷ [])
unfolding drawn
note_is_cut_at_carriage_return_and_line_feed = refl

-- the note `b`, and then `c`
notes_after_one_was_set :
    picture (one "ab") (record (report (label 0 2 "x" ∷ [])) { notes = texts ("b" ∷ "c" ∷ []) }) ≡ rows (
    "Error: " ∷
    "   ,-[ <unknown>:1:1 ]" ∷
    "   |" ∷
    " 1 | ab" ∷
    "   | ^|  " ∷
    "   |  `-- x" ∷
    "   | " ∷
    "   | Note 1: b" ∷
    "   | " ∷
    "   | Note 2: c" ∷
    "---'" ∷ [])
unfolding drawn
notes_after_one_was_set = refl

-- its cells are blank there, as beside every help and note
helps_keep_the_room_of_the_gutter :
    picture (one "a\nb") (record (report (label 0 3 "x" ∷ [])) { helps = texts ("h\ni" ∷ []) }) ≡ rows (
    "Error: " ∷
    "   ,-[ <unknown>:1:1 ]" ∷
    "   |" ∷
    " 1 | ,-> a" ∷
    " 2 | |-> b" ∷
    "   | |      " ∷
    "   | `------ x" ∷
    "   |     " ∷
    "   |     Help: h" ∷
    "   |           i" ∷
    "---'" ∷ [])
unfolding drawn
helps_keep_the_room_of_the_gutter = refl
