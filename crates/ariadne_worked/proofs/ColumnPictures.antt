-- Pictures of characters of no column, of one, of two and of many, and of offsets in bytes.
use Rattle.std.specs.Prelude.{◌≡◌, refl, ◌∷◌, [], Some, None, false}
use Rattle.ariadne_worked.proofs.Sample.{drawn, picture, left_out, rows, one, span, label, ascii_config, byte_config, report, titled}
use Rattle.ariadne_worked.proofs.Sample.{configured, past_its_source, inside_a_character}

-- the label stands below the third character, behind four columns and two
strokes_below_a_tab_and_a_wide_character :
    picture (one "\t漢x") (report (label 2 3 "w" ∷ [])) ≡ rows (
    "Error: " ∷
    "   ,-[ <unknown>:1:1 ]" ∷
    "   |" ∷
    " 1 |     漢x" ∷
    "   |       |  " ∷
    "   |       `-- w" ∷
    "---'" ∷ [])
unfolding drawn
strokes_below_a_tab_and_a_wide_character = refl

strokes_below_a_tab_of_eight_columns :
    picture (one "\tx") (configured (record ascii_config { tab_width = 8 }) (label 1 2 "t" ∷ []))
    ≡ rows (
    "Error: " ∷
    "   ,-[ <unknown>:1:1 ]" ∷
    "   |" ∷
    " 1 |         x" ∷
    "   |         |  " ∷
    "   |         `-- t" ∷
    "---'" ∷ [])
unfolding drawn
strokes_below_a_tab_of_eight_columns = refl

-- a tab reaches to the next stop, behind a tab, a wide character, a combining one, and others
tabs_reach_to_columns :
    picture (one "\t\tx") (report (label 2 3 "w" ∷ [])) ≡ rows (
    "Error: " ∷
    "   ,-[ <unknown>:1:1 ]" ∷
    "   |" ∷
    " 1 |         x" ∷
    "   |         |  " ∷
    "   |         `-- w" ∷
    "---'" ∷ [])
unfolding drawn
tabs_reach_to_columns = refl

a_tab_behind_a_wide_character :
    picture (one "漢\tx") (report (label 2 3 "w" ∷ [])) ≡ rows (
    "Error: " ∷
    "   ,-[ <unknown>:1:1 ]" ∷
    "   |" ∷
    " 1 | 漢  x" ∷
    "   |     |  " ∷
    "   |     `-- w" ∷
    "---'" ∷ [])
unfolding drawn
a_tab_behind_a_wide_character = refl

a_tab_behind_a_combining_character :
    picture (one "é\tx") (report (label 3 4 "w" ∷ [])) ≡ rows (
    "Error: " ∷
    "   ,-[ <unknown>:1:1 ]" ∷
    "   |" ∷
    " 1 | é   x" ∷
    "   |     |  " ∷
    "   |     `-- w" ∷
    "---'" ∷ [])
unfolding drawn
a_tab_behind_a_combining_character = refl

a_tab_behind_two_characters :
    picture (one "ab\tx") (report (label 3 4 "w" ∷ [])) ≡ rows (
    "Error: " ∷
    "   ,-[ <unknown>:1:1 ]" ∷
    "   |" ∷
    " 1 | ab  x" ∷
    "   |     |  " ∷
    "   |     `-- w" ∷
    "---'" ∷ [])
unfolding drawn
a_tab_behind_two_characters = refl

-- the tab width is of no account where no tab is
greatest_tab_width_without_a_tab :
    picture (one "ab") (configured (record ascii_config { tab_width = 18446744073709551615 }) (label 0 2 "x" ∷ []))
    ≡ rows (
    "Error: " ∷
    "   ,-[ <unknown>:1:1 ]" ∷
    "   |" ∷
    " 1 | ab" ∷
    "   | ^|  " ∷
    "   |  `-- x" ∷
    "---'" ∷ [])
unfolding drawn
greatest_tab_width_without_a_tab = refl

-- nor where a tab stands among the blanks at a line's end, which are not shown
greatest_tab_width_before_a_hidden_tab :
    picture (one "x\t") (configured (record ascii_config { tab_width = 18446744073709551615 }) (label 0 1 "m" ∷ []))
    ≡ rows (
    "Error: " ∷
    "   ,-[ <unknown>:1:1 ]" ∷
    "   |" ∷
    " 1 | x" ∷
    "   | |  " ∷
    "   | `-- m" ∷
    "---'" ∷ [])
unfolding drawn
greatest_tab_width_before_a_hidden_tab = refl

-- a character of no column has no cell for its corner
combining_character_has_no_corner :
    picture (one "éx") (report (label 1 2 "m" ∷ [])) ≡ rows (
    "Error: " ∷
    "   ,-[ <unknown>:1:1 ]" ∷
    "   |" ∷
    " 1 | éx" ∷
    "   |    " ∷
    "   |  -- m" ∷
    "---'" ∷ [])
unfolding drawn
combining_character_has_no_corner = refl

-- the second column of the crossing is a blank
crossing_below_a_wide_character :
    picture (one "x漢y") (configured (record ascii_config { cross_gap = false }) (label 0 1 "p" ∷ label 1 2 "q" ∷ []))
    ≡ rows (
    "Error: " ∷
    "   ,-[ <unknown>:1:1 ]" ∷
    "   |" ∷
    " 1 | x漢y" ∷
    "   | ||^  " ∷
    "   | `+ -- p" ∷
    "   |  |   " ∷
    "   |  `--- q" ∷
    "---'" ∷ [])
unfolding drawn
crossing_below_a_wide_character = refl

offsets_in_characters :
    picture (one "äpplë == örängë;")
    (titled "can't compare äpplës with örängës"
    (label 0 5 "This is an äpplë" ∷ label 9 15 "This is an örängë" ∷ []))
    ≡ rows (
    "Error: can't compare äpplës with örängës" ∷
    "   ,-[ <unknown>:1:1 ]" ∷
    "   |" ∷
    " 1 | äpplë == örängë;" ∷
    "   | ^^|^^    ^^^|^^  " ∷
    "   |   `-------------- This is an äpplë" ∷
    "   |             |    " ∷
    "   |             `---- This is an örängë" ∷
    "---'" ∷ [])
unfolding drawn
offsets_in_characters = refl

offsets_in_bytes :
    picture (one "äpplë == örängë;")
    (record (titled "can't compare äpplës with örängës"
    (label 0 7 "This is an äpplë" ∷ label 11 20 "This is an örängë" ∷ []))
    { config = byte_config }) ≡ rows (
    "Error: can't compare äpplës with örängës" ∷
    "   ,-[ <unknown>:1:1 ]" ∷
    "   |" ∷
    " 1 | äpplë == örängë;" ∷
    "   | ^^|^^    ^^^|^^  " ∷
    "   |   `-------------- This is an äpplë" ∷
    "   |             |    " ∷
    "   |             `---- This is an örängë" ∷
    "---'" ∷ [])
unfolding drawn
offsets_in_bytes = refl

-- the report's own offset counts bytes too, and the column that is shown for it counts characters
report_offset_in_bytes :
    picture (one "äpplë == örängë;")
    (record (titled "can't compare äpplës with örängës"
    (label 0 7 "This is an äpplë" ∷ label 11 20 "This is an örängë" ∷ []))
    { span = span 11 11; config = byte_config }) ≡ rows (
    "Error: can't compare äpplës with örängës" ∷
    "   ,-[ <unknown>:1:10 ]" ∷
    "   |" ∷
    " 1 | äpplë == örängë;" ∷
    "   | ^^|^^    ^^^|^^  " ∷
    "   |   `-------------- This is an äpplë" ∷
    "   |             |    " ∷
    "   |             `---- This is an örängë" ∷
    "---'" ∷ [])
unfolding drawn
report_offset_in_bytes = refl

label_inside_a_character_is_left_out :
    picture (one "é") (configured byte_config (label 1 2 "m" ∷ [])) ≡ rows (
    "Error: " ∷ [])
unfolding drawn
label_inside_a_character_is_left_out = refl

label_inside_a_character_has_its_reason :
    left_out (one "é") (configured byte_config (label 1 2 "m" ∷ []))
    ≡ Some inside_a_character ∷ []
unfolding drawn
label_inside_a_character_has_its_reason = refl

-- the program's picture: the header alone
titled_report_whose_label_cuts_a_character :
    picture (one "é") (record (titled "m" (label 1 2 "x" ∷ [])) { span = span 1 2; config = byte_config })
    ≡ rows (
    "Error: m" ∷ [])
unfolding drawn
titled_report_whose_label_cuts_a_character = refl

place_inside_a_character_is_unknown :
    picture (one "é") (record (report (label 0 2 "m" ∷ []))
    { span = span 1 1; config = byte_config }) ≡ rows (
    "Error: " ∷
    "   ,-[ <unknown>:?:? ]" ∷
    "   |" ∷
    " 1 | é" ∷
    "   | |  " ∷
    "   | `-- m" ∷
    "---'" ∷ [])
unfolding drawn
place_inside_a_character_is_unknown = refl

-- the length of a source counts its characters, of which this has one in two bytes
place_past_the_characters_is_unknown :
    picture (one "é") (record (report (label 0 1 "m" ∷ [])) { span = span 2 2 }) ≡ rows (
    "Error: " ∷
    "   ,-[ <unknown>:?:? ]" ∷
    "   |" ∷
    " 1 | é" ∷
    "   | |  " ∷
    "   | `-- m" ∷
    "---'" ∷ [])
unfolding drawn
place_past_the_characters_is_unknown = refl

-- 0..3 over two bytes is drawn as 0..2
end_one_byte_past_the_source_is_its_end :
    picture (one "é") (configured byte_config (label 0 3 "m" ∷ [])) ≡ rows (
    "Error: " ∷
    "   ,-[ <unknown>:1:1 ]" ∷
    "   |" ∷
    " 1 | é" ∷
    "   | |  " ∷
    "   | `-- m" ∷
    "---'" ∷ [])
unfolding drawn
end_one_byte_past_the_source_is_its_end = refl

-- over the two bytes of one character
byte_labels_and_their_reasons :
    left_out (one "é") (configured byte_config
    (label 0 3 "m" ∷ label 0 2 "m" ∷ label 1 3 "m" ∷ label 1 4 "m" ∷ label 3 3 "m" ∷ []))
    ≡ None ∷ None ∷ Some inside_a_character ∷ Some past_its_source ∷ Some past_its_source ∷ []
unfolding drawn
byte_labels_and_their_reasons = refl
