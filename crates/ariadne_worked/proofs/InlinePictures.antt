-- Pictures of labels that stand in one line each.
use Rattle.std.specs.Prelude.{◌≡◌, refl, ◌++◌, ◌∷◌, [], length, codes, Some, None, false}
use Rattle.ariadne_picture.specs.declared.switches.LabelAttach.TheVariants.{Start, End}
use Rattle.ariadne_picture.specs.Pieces.{repeated}
use Rattle.ariadne_worked.proofs.Sample.{drawn, picture, left_out, rows, one, nameless, span, silent_label, label, ascii_config, byte_config}
use Rattle.ariadne_worked.proofs.Sample.{report, titled, configured, text, past_its_source}

-- an arrow passes over the later label's bar
two_labels_in_a_line :
    picture (one "apple == orange;") (titled "can't compare apples with oranges"
    (label 0 5 "This is an apple" ∷ label 9 15 "This is an orange" ∷ [])) ≡ rows (
    "Error: can't compare apples with oranges" ∷
    "   ,-[ <unknown>:1:1 ]" ∷
    "   |" ∷
    " 1 | apple == orange;" ∷
    "   | ^^|^^    ^^^|^^  " ∷
    "   |   `-------------- This is an apple" ∷
    "   |             |    " ∷
    "   |             `---- This is an orange" ∷
    "---'" ∷ [])
unfolding drawn
two_labels_in_a_line = refl

-- 223 bytes in all
two_labels_in_a_line_bytes :
    length (picture (one "apple == orange;") (titled "can't compare apples with oranges"
    (label 0 5 "This is an apple" ∷ label 9 15 "This is an orange" ∷ []))) ≡ 223
unfolding drawn
two_labels_in_a_line_bytes = refl

-- with no gap where strokes cross, the crossing is seen
arrow_crosses_a_bar_without_gap :
    picture (one "apple == orange;") (record (titled "can't compare apples with oranges"
    (label 0 5 "This is an apple" ∷ label 9 15 "This is an orange" ∷ [])) { config = record ascii_config { cross_gap = false } })
    ≡ rows (
    "Error: can't compare apples with oranges" ∷
    "   ,-[ <unknown>:1:1 ]" ∷
    "   |" ∷
    " 1 | apple == orange;" ∷
    "   | ^^|^^    ^^^|^^  " ∷
    "   |   `---------+---- This is an apple" ∷
    "   |             |    " ∷
    "   |             `---- This is an orange" ∷
    "---'" ∷ [])
unfolding drawn
arrow_crosses_a_bar_without_gap = refl

-- the line is shown, and nothing below it
labels_without_messages_have_no_strokes :
    picture (one "apple == orange;") (titled "can't compare apples with oranges" (silent_label 0 5 ∷ silent_label 9 15 ∷ []))
    ≡ rows (
    "Error: can't compare apples with oranges" ∷
    "   ,-[ <unknown>:1:1 ]" ∷
    "   |" ∷
    " 1 | apple == orange;" ∷
    "---'" ∷ [])
unfolding drawn
labels_without_messages_have_no_strokes = refl

-- underlines stand in the row of the first label that has a message
underline_of_a_label_without_message :
    picture (one "ab cd") (report (silent_label 0 2 ∷ label 3 5 "n" ∷ [])) ≡ rows (
    "Error: " ∷
    "   ,-[ <unknown>:1:1 ]" ∷
    "   |" ∷
    " 1 | ab cd" ∷
    "   | ^^ ^|  " ∷
    "   |     `-- n" ∷
    "---'" ∷ [])
unfolding drawn
underline_of_a_label_without_message = refl

-- the shorter label's underline is seen where both stand
labels_that_overlap_partly :
    picture (one "https://example.com/") (report (label 0 20 "URL" ∷ label 0 5 "scheme" ∷ [])) ≡ rows (
    "Error: " ∷
    "   ,-[ <unknown>:1:1 ]" ∷
    "   |" ∷
    " 1 | https://example.com/" ∷
    "   | ^^|^^^^^^^|^^^^^^^^^  " ∷
    "   |   `------------------- scheme" ∷
    "   |           |           " ∷
    "   |           `----------- URL" ∷
    "---'" ∷ [])
unfolding drawn
labels_that_overlap_partly = refl

-- labels of one column are told one below the other, and the bar of the next one goes on
labels_with_the_same_spans :
    picture (one "apple == orange;") (titled "can't compare apples with oranges"
    (label 0 5 "This is an apple"
    ∷ label 0 5 "Have I mentioned that this is an apple?"
    ∷ label 0 5 "No really, have I mentioned that?"
    ∷ label 9 15 "This is an orange"
    ∷ label 9 15 "Have I mentioned that this is an orange?"
    ∷ label 9 15 "No really, have I mentioned that?" ∷ [])) ≡ rows (
    "Error: can't compare apples with oranges" ∷
    "   ,-[ <unknown>:1:1 ]" ∷
    "   |" ∷
    " 1 | apple == orange;" ∷
    "   | ^^|^^    ^^^|^^  " ∷
    "   |   `-------------- This is an apple" ∷
    "   |   |         |    " ∷
    "   |   `-------------- Have I mentioned that this is an apple?" ∷
    "   |   |         |    " ∷
    "   |   `-------------- No really, have I mentioned that?" ∷
    "   |             |    " ∷
    "   |             `---- This is an orange" ∷
    "   |             |    " ∷
    "   |             `---- Have I mentioned that this is an orange?" ∷
    "   |             |    " ∷
    "   |             `---- No really, have I mentioned that?" ∷
    "---'" ∷ [])
unfolding drawn
labels_with_the_same_spans = refl

-- a label of width zero at a line's start stands on that line alone
width_zero_has_its_own_line :
    picture (one "a\nb") (report (label 0 1 "x" ∷ label 2 2 "y" ∷ [])) ≡ rows (
    "Error: " ∷
    "   ,-[ <unknown>:1:1 ]" ∷
    "   |" ∷
    " 1 | a" ∷
    "   | |  " ∷
    "   | `-- x" ∷
    " 2 | b" ∷
    "   | | " ∷
    "   | `- y" ∷
    "---'" ∷ [])
unfolding drawn
width_zero_has_its_own_line = refl

-- no line begins after the last terminator, so the label stands behind the last line
width_zero_behind_the_last_line_feed :
    picture (one "apple ==\n") (record (report (label 9 9 "Unexpected end of file" ∷ []))
    { span = span 9 9; config = byte_config }) ≡ rows (
    "Error: " ∷
    "   ,-[ <unknown>:1:10 ]" ∷
    "   |" ∷
    " 1 | apple ==" ∷
    "   |          | " ∷
    "   |          `- Unexpected end of file" ∷
    "---'" ∷ [])
unfolding drawn
width_zero_behind_the_last_line_feed = refl

width_zero_at_the_end_of_a_line :
    picture (one "apple ==\n")
    (record (titled "unexpected end of file" (label 9 9 "Unexpected end of file" ∷ []))
    { config = byte_config }) ≡ rows (
    "Error: unexpected end of file" ∷
    "   ,-[ <unknown>:1:1 ]" ∷
    "   |" ∷
    " 1 | apple ==" ∷
    "   |          | " ∷
    "   |          `- Unexpected end of file" ∷
    "---'" ∷ [])
unfolding drawn
width_zero_at_the_end_of_a_line = refl

label_in_an_empty_source :
    picture (one "") (titled "unexpected end of file" (label 0 0 "No more fruit!" ∷ [])) ≡ rows (
    "Error: unexpected end of file" ∷
    "   ,-[ <unknown>:1:1 ]" ∷
    "   |" ∷
    " 1 | " ∷
    "   | | " ∷
    "   | `- No more fruit!" ∷
    "---'" ∷ [])
unfolding drawn
label_in_an_empty_source = refl

-- 0..3 is drawn as 0..2; 0..4 is left out
end_one_past_the_source_is_its_end :
    picture (one "ab") (report (label 0 3 "x" ∷ label 0 4 "z" ∷ [])) ≡ rows (
    "Error: " ∷
    "   ,-[ <unknown>:1:1 ]" ∷
    "   |" ∷
    " 1 | ab" ∷
    "   | ^|  " ∷
    "   |  `-- x" ∷
    "---'" ∷ [])
unfolding drawn
end_one_past_the_source_is_its_end = refl

-- 71 bytes in all
end_one_past_the_source_is_its_end_bytes :
    length (picture (one "ab") (report (label 0 3 "x" ∷ label 0 4 "z" ∷ []))) ≡ 71
unfolding drawn
end_one_past_the_source_is_its_end_bytes = refl

end_two_past_the_source_is_left_out :
    left_out (one "ab") (report (label 0 3 "x" ∷ label 0 4 "z" ∷ [])) ≡ None ∷ Some past_its_source ∷ []
unfolding drawn
end_two_past_the_source_is_left_out = refl

-- the program's picture where its second label ends far past the input
one_label_left_out_of_two :
    picture (one "ab") (titled "m" (label 0 2 "x" ∷ label 0 9 "z" ∷ [])) ≡ rows (
    "Error: m" ∷
    "   ,-[ <unknown>:1:1 ]" ∷
    "   |" ∷
    " 1 | ab" ∷
    "   | ^|  " ∷
    "   |  `-- x" ∷
    "---'" ∷ [])
unfolding drawn
one_label_left_out_of_two = refl

one_label_left_out_of_two_reasons :
    left_out (one "ab") (titled "m" (label 0 2 "x" ∷ label 0 9 "z" ∷ [])) ≡ None ∷ Some past_its_source ∷ []
unfolding drawn
one_label_left_out_of_two_reasons = refl

arrows_from_the_start_of_labels :
    picture (one "abc") (configured (record ascii_config { label_attach = Start }) (label 0 3 "x" ∷ []))
    ≡ rows (
    "Error: " ∷
    "   ,-[ <unknown>:1:1 ]" ∷
    "   |" ∷
    " 1 | abc" ∷
    "   | |^^  " ∷
    "   | `---- x" ∷
    "---'" ∷ [])
unfolding drawn
arrows_from_the_start_of_labels = refl

arrows_from_the_end_of_labels :
    picture (one "abc") (configured (record ascii_config { label_attach = End }) (label 0 3 "x" ∷ []))
    ≡ rows (
    "Error: " ∷
    "   ,-[ <unknown>:1:1 ]" ∷
    "   |" ∷
    " 1 | abc" ∷
    "   | ^^|  " ∷
    "   |   `-- x" ∷
    "---'" ∷ [])
unfolding drawn
arrows_from_the_end_of_labels = refl

arrows_without_underlines :
    picture (one "abc") (configured (record ascii_config { underlines = false }) (label 0 3 "x" ∷ []))
    ≡ rows (
    "Error: " ∷
    "   ,-[ <unknown>:1:1 ]" ∷
    "   |" ∷
    " 1 | abc" ∷
    "   |  |   " ∷
    "   |  `--- x" ∷
    "---'" ∷ [])
unfolding drawn
arrows_without_underlines = refl

-- a line of 906 characters is shown whole
label_at_the_end_of_a_long_line :
    picture (record (nameless "" "") {
      listing =
          record { text = text (repeated 100 (codes "apple == ") ++ codes "orange"); display_offset = 0 };
    } ∷ [])
    (titled "can't compare apples with oranges" (label 901 906 "This is an orange" ∷ []))
    ≡ rows (
    "Error: can't compare apples with oranges" ∷
    "   ,-[ <unknown>:1:1 ]" ∷
    "   |" ∷ [])
    ++ text (codes " 1 | " ++ repeated 100 (codes "apple == ") ++ codes "orange\n")
    ++ text (codes "   | " ++ repeated 901 (codes " ") ++ codes "^^|^^  \n")
    ++ text (codes "   | " ++ repeated 901 (codes " ") ++ codes "  `---- This is an orange\n")
    ++ rows ("---'" ∷ [])
unfolding drawn
label_at_the_end_of_a_long_line = refl
