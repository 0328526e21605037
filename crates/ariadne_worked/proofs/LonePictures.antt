-- Pictures with lone underlines: those of lines whose labels have no message.
use Rattle.std.specs.Prelude.{◌≡◌, refl, ◌∷◌, [], true, false}
use Rattle.ariadne_picture.specs.Report.{ConfigFields}
use Rattle.ariadne_picture.specs.declared.switches.CharSet.TheVariants.{Unicode}
use Rattle.ariadne_worked.proofs.Sample.{drawn, picture, rows, one, label, silent_label, ascii_config, configured}

unfoldable lone : ConfigFields
lone = record ascii_config { lone_underlines = true }

-- the underline stands below the line, with two blanks behind it
one_lone_label :
    picture (one "int *p = x;") (configured lone (silent_label 9 10 ∷ [])) ≡ rows (
    "Error: " ∷
    "   ,-[ <unknown>:1:1 ]" ∷
    "   |" ∷
    " 1 | int *p = x;" ∷
    "   |          ^  " ∷
    "---'" ∷ [])
unfolding drawn lone
one_lone_label = refl

-- both stand in one row
two_lone_labels :
    picture (one "apple == orange;") (configured lone (silent_label 0 5 ∷ silent_label 9 15 ∷ [])) ≡ rows (
    "Error: " ∷
    "   ,-[ <unknown>:1:1 ]" ∷
    "   |" ∷
    " 1 | apple == orange;" ∷
    "   | ^^^^^    ^^^^^^  " ∷
    "---'" ∷ [])
unfolding drawn lone
two_lone_labels = refl

-- wide characters have two cells
lone_labels_in_unicode :
    picture (one "漢字 x") (configured (record lone { char_set = Unicode }) (silent_label 0 2 ∷ silent_label 3 4 ∷ [])) ≡ rows (
    "Error: " ∷
    "   ╭─[ <unknown>:1:1 ]" ∷
    "   │" ∷
    " 1 │ 漢字 x" ∷
    "   │ ──── ─  " ∷
    "───╯" ∷ [])
unfolding drawn lone
lone_labels_in_unicode = refl

-- a tab is underlined over all its columns
a_lone_tab :
    picture (one "\tx\ty") (configured lone (silent_label 0 1 ∷ silent_label 3 4 ∷ [])) ≡ rows (
    "Error: " ∷
    "   ,-[ <unknown>:1:1 ]" ∷
    "   |" ∷
    " 1 |     x   y" ∷
    "   | ^^^^    ^  " ∷
    "---'" ∷ [])
unfolding drawn lone
a_lone_tab = refl

-- and a line feed behind the text
a_lone_line_end :
    picture (one "ab\ncd") (configured lone (silent_label 1 3 ∷ [])) ≡ rows (
    "Error: " ∷
    "   ,-[ <unknown>:1:1 ]" ∷
    "   |" ∷
    " 1 | ab" ∷
    "   |  ^^  " ∷
    "---'" ∷ [])
unfolding drawn lone
a_lone_line_end = refl

-- the bar of a label over several lines goes on beside it
a_lone_label_beside_a_bar :
    picture (one "aa\nbb\ncc") (configured lone (silent_label 3 5 ∷ label 0 8 "all" ∷ [])) ≡ rows (
    "Error: " ∷
    "   ,-[ <unknown>:1:1 ]" ∷
    "   |" ∷
    " 1 | ,-> aa" ∷
    " 2 | |   bb" ∷
    "   | |   ^^  " ∷
    " 3 | |-> cc" ∷
    "   | |       " ∷
    "   | `------- all" ∷
    "---'" ∷ [])
unfolding drawn lone
a_lone_label_beside_a_bar = refl

-- so it does where that label starts beside the line
a_lone_label_where_another_starts :
    picture (one "aa\nbb") (configured lone (silent_label 1 2 ∷ label 0 5 "all" ∷ [])) ≡ rows (
    "Error: " ∷
    "   ,-[ <unknown>:1:1 ]" ∷
    "   |" ∷
    " 1 | ,-> aa" ∷
    "   | |    ^  " ∷
    " 2 | |-> bb" ∷
    "   | |       " ∷
    "   | `------- all" ∷
    "---'" ∷ [])
unfolding drawn lone
a_lone_label_where_another_starts = refl

-- each line has its row
lone_labels_of_two_lines :
    picture (one "a\nb\nc") (configured lone (silent_label 0 1 ∷ silent_label 4 5 ∷ [])) ≡ rows (
    "Error: " ∷
    "   ,-[ <unknown>:1:1 ]" ∷
    "   |" ∷
    " 1 | a" ∷
    "   | ^  " ∷
    "   | " ∷
    " 3 | c" ∷
    "   | ^  " ∷
    "---'" ∷ [])
unfolding drawn lone
lone_labels_of_two_lines = refl

-- where a label has a message the underlines stand above its arrow row, as ever
no_lone_label_beside_a_message :
    picture (one "ab cd") (configured lone (silent_label 0 2 ∷ label 3 5 "n" ∷ [])) ≡ rows (
    "Error: " ∷
    "   ,-[ <unknown>:1:1 ]" ∷
    "   |" ∷
    " 1 | ab cd" ∷
    "   | ^^ ^|  " ∷
    "   |     `-- n" ∷
    "---'" ∷ [])
unfolding drawn lone
no_lone_label_beside_a_message = refl

-- an empty span has no underline, so no row
an_empty_lone_label :
    picture (one "ab") (configured lone (silent_label 1 1 ∷ [])) ≡ rows (
    "Error: " ∷
    "   ,-[ <unknown>:1:1 ]" ∷
    "   |" ∷
    " 1 | ab" ∷
    "---'" ∷ [])
unfolding drawn lone
an_empty_lone_label = refl

-- nor is there one in a compact picture
lone_but_compact :
    picture (one "ab") (configured (record lone { compact = true }) (silent_label 0 2 ∷ [])) ≡ rows (
    "Error: " ∷
    "   ,-[ <unknown>:1:1 ]" ∷
    " 1 |ab" ∷ [])
unfolding drawn lone
lone_but_compact = refl

-- or without underlines
lone_without_underlines :
    picture (one "ab") (configured (record lone { underlines = false }) (silent_label 0 2 ∷ [])) ≡ rows (
    "Error: " ∷
    "   ,-[ <unknown>:1:1 ]" ∷
    "   |" ∷
    " 1 | ab" ∷
    "---'" ∷ [])
unfolding drawn lone
lone_without_underlines = refl

-- a label over several lines without a message has no underline, though hidden lines show that they are inside it
a_lone_label_over_lines :
    picture (one "aa\nbb") (configured lone (silent_label 0 5 ∷ silent_label 3 4 ∷ [])) ≡ rows (
    "Error: " ∷
    "   ,-[ <unknown>:1:1 ]" ∷
    "   |" ∷
    "   : " ∷
    " 2 | bb" ∷
    "   | ^  " ∷
    "---'" ∷ [])
unfolding drawn lone
a_lone_label_over_lines = refl

-- a mark of no column that is the whole span has no cell: the row is blank
a_lone_accent :
    picture (one "éx") (configured lone (silent_label 1 2 ∷ [])) ≡ rows (
    "Error: " ∷
    "   ,-[ <unknown>:1:1 ]" ∷
    "   |" ∷
    " 1 | éx" ∷
    "   |    " ∷
    "---'" ∷ [])
unfolding drawn lone
a_lone_accent = refl
