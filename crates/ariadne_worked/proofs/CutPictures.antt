-- Pictures whose source rows take no more columns than are asked for: parts of long lines are shown.
use Rattle.std.specs.Prelude.{ℕ, ◌≡◌, refl, ◌∷◌, []}
use Rattle.ariadne_picture.specs.Report.{ConfigFields}
use Rattle.ariadne_worked.proofs.Sample.{drawn, picture, rows, one, label, silent_label, ascii_config, unicode_config, configured}

unfoldable narrow : ℕ → ConfigFields
narrow n = record unicode_config { width = n }

unfoldable narrow_ascii : ℕ → ConfigFields
narrow_ascii n = record ascii_config { width = n }

-- seven characters and two marks
label_in_the_middle_of_a_long_line :
    picture (one "abcdefghijklmnop") (configured (narrow 9) (label 7 8 "h" ∷ [])) ≡ rows (
    "Error: " ∷
    "   ╭─[ <unknown>:1:1 ]" ∷
    "   │" ∷
    " 1 │ …efghijk…" ∷
    "   │     ┬  " ∷
    "   │     ╰── h" ∷
    "───╯" ∷ [])
unfolding drawn narrow
label_in_the_middle_of_a_long_line = refl

-- a mark of three columns, and nothing to cut behind
label_at_the_end_of_a_cut_line :
    picture (one "abcdefghijklmnop") (configured (narrow_ascii 9) (label 15 16 "p" ∷ [])) ≡ rows (
    "Error: " ∷
    "   ,-[ <unknown>:1:1 ]" ∷
    "   |" ∷
    " 1 | ...klmnop" ∷
    "   |         |  " ∷
    "   |         `-- p" ∷
    "---'" ∷ [])
unfolding drawn narrow_ascii
label_at_the_end_of_a_cut_line = refl

-- two places before each and behind, and a mark between
labels_far_apart :
    picture (one "abcdefghijklmnopqrstuvwx") (configured (narrow 12) (label 2 3 "c" ∷ label 20 21 "u" ∷ [])) ≡ rows (
    "Error: " ∷
    "   ╭─[ <unknown>:1:1 ]" ∷
    "   │" ∷
    " 1 │ abcde…stuvw…" ∷
    "   │   ┬     ┬  " ∷
    "   │   ╰──────── c" ∷
    "   │         │  " ∷
    "   │         ╰── u" ∷
    "───╯" ∷ [])
unfolding drawn narrow
labels_far_apart = refl

-- they count nothing there
tab_and_wide_characters_before_the_part :
    picture (one "\t漢漢漢abcdefgh") (configured (narrow 8) (label 7 8 "d" ∷ [])) ≡ rows (
    "Error: " ∷
    "   ╭─[ <unknown>:1:1 ]" ∷
    "   │" ∷
    " 1 │ …bcdef…" ∷
    "   │    ┬  " ∷
    "   │    ╰── d" ∷
    "───╯" ∷ [])
unfolding drawn narrow
tab_and_wide_characters_before_the_part = refl

-- the tab has the two columns that it takes in the whole line
tab_and_wide_character_within_the_part :
    picture (one "abcdefghij\tkl漢mnopqrstuvwxyz") (configured (narrow 12) (label 11 12 "k" ∷ [])) ≡ rows (
    "Error: " ∷
    "   ╭─[ <unknown>:1:1 ]" ∷
    "   │" ∷
    " 1 │ …ij  kl漢m…" ∷
    "   │      ┬   " ∷
    "   │      ╰─── k" ∷
    "───╯" ∷ [])
unfolding drawn narrow
tab_and_wide_character_within_the_part = refl

-- the underline goes on under both marks
span_that_does_not_fit :
    picture (one "abcdefghijklmnopqrstuvwxyz") (configured (narrow 12) (label 4 20 "span" ∷ [])) ≡ rows (
    "Error: " ∷
    "   ╭─[ <unknown>:1:1 ]" ∷
    "   │" ∷
    " 1 │ …ijklmnopq…" ∷
    "   │ ─────┬─────" ∷
    "   │      ╰───── span" ∷
    "───╯" ∷ [])
unfolding drawn narrow
span_that_does_not_fit = refl

-- a line that fits is not cut
line_that_just_fits :
    picture (one "abcdefghi") (configured (narrow 9) (label 7 8 "h" ∷ [])) ≡ rows (
    "Error: " ∷
    "   ╭─[ <unknown>:1:1 ]" ∷
    "   │" ∷
    " 1 │ abcdefghi" ∷
    "   │        ┬  " ∷
    "   │        ╰── h" ∷
    "───╯" ∷ [])
unfolding drawn narrow
line_that_just_fits = refl

a_call_with_one_label :
    picture (one "let total = sum_of(first_argument, second_argument, \"third argument\", fourth_argument)?;") (configured (narrow 40) (label 35 50 "not a number" ∷ [])) ≡ rows (
    "Error: " ∷
    "   ╭─[ <unknown>:1:1 ]" ∷
    "   │" ∷
    " 1 │ …_argument, second_argument, \"third ar…" ∷
    "   │             ───────┬───────  " ∷
    "   │                    ╰───────── not a number" ∷
    "───╯" ∷ [])
unfolding drawn narrow
a_call_with_one_label = refl

a_call_with_one_label_in_ascii :
    picture (one "let total = sum_of(first_argument, second_argument, \"third argument\", fourth_argument)?;") (configured (narrow_ascii 40) (label 35 50 "not a number" ∷ [])) ≡ rows (
    "Error: " ∷
    "   ,-[ <unknown>:1:1 ]" ∷
    "   |" ∷
    " 1 | ...rgument, second_argument, \"third ..." ∷
    "   |             ^^^^^^^|^^^^^^^  " ∷
    "   |                    `--------- not a number" ∷
    "---'" ∷ [])
unfolding drawn narrow_ascii
a_call_with_one_label_in_ascii = refl

a_call_with_two_labels :
    picture (one "let total = sum_of(first_argument, second_argument, \"third argument\", fourth_argument)?;") (configured (narrow 40) (label 12 18 "takes three" ∷ label 70 85 "one too many" ∷ [])) ≡ rows (
    "Error: " ∷
    "   ╭─[ <unknown>:1:1 ]" ∷
    "   │" ∷
    " 1 │ …l = sum_of(fir…t\", fourth_argument)?;" ∷
    "   │      ───┬──         ───────┬───────  " ∷
    "   │         ╰──────────────────────────── takes three" ∷
    "   │                            │         " ∷
    "   │                            ╰───────── one too many" ∷
    "───╯" ∷ [])
unfolding drawn narrow
a_call_with_two_labels = refl

a_call_with_two_labels_in_ascii :
    picture (one "let total = sum_of(first_argument, second_argument, \"third argument\", fourth_argument)?;") (configured (narrow_ascii 40) (label 12 18 "takes three" ∷ label 70 85 "one too many" ∷ [])) ≡ rows (
    "Error: " ∷
    "   ,-[ <unknown>:1:1 ]" ∷
    "   |" ∷
    " 1 | ... = sum_of(fi...\", fourth_argument)?;" ∷
    "   |       ^^^|^^         ^^^^^^^|^^^^^^^  " ∷
    "   |          `---------------------------- takes three" ∷
    "   |                             |         " ∷
    "   |                             `--------- one too many" ∷
    "---'" ∷ [])
unfolding drawn narrow_ascii
a_call_with_two_labels_in_ascii = refl

-- each line is cut round its own places
label_over_two_long_lines :
    picture (one "abcdefghij\nklmnopqrst") (configured (narrow 7) (label 2 19 "m" ∷ [])) ≡ rows (
    "Error: " ∷
    "   ╭─[ <unknown>:1:1 ]" ∷
    "   │" ∷
    " 1 │ ╭─▶ abcdef…" ∷
    " 2 │ ├─▶ …opqrst" ∷
    "   │ │            " ∷
    "   │ ╰──────────── m" ∷
    "───╯" ∷ [])
unfolding drawn narrow
label_over_two_long_lines = refl

-- places that don't fit are shown all the same, with their marks alone
places_that_do_not_fit :
    picture (one "abcdefghij") (configured (narrow 3) (label 2 3 "c" ∷ label 6 7 "g" ∷ [])) ≡ rows (
    "Error: " ∷
    "   ╭─[ <unknown>:1:1 ]" ∷
    "   │" ∷
    " 1 │ …c…g…" ∷
    "   │  ┬ ┬ " ∷
    "   │  ╰─── c" ∷
    "   │    │ " ∷
    "   │    ╰─ g" ∷
    "───╯" ∷ [])
unfolding drawn narrow
places_that_do_not_fit = refl

-- a letter is shown with its accent, and no mark takes that
letter_with_an_accent_before_a_label :
    picture (one "abcdéfghi") (configured (narrow 5) (label 6 7 "f" ∷ [])) ≡ rows (
    "Error: " ∷
    "   ╭─[ <unknown>:1:1 ]" ∷
    "   │" ∷
    " 1 │ …éfg…" ∷
    "   │   ┬  " ∷
    "   │   ╰── f" ∷
    "───╯" ∷ [])
unfolding drawn narrow
letter_with_an_accent_before_a_label = refl

-- so it is where a label holds the accent alone
label_over_an_accent :
    picture (one "abcdéfghi") (configured (narrow 3) (label 5 6 "accent" ∷ [])) ≡ rows (
    "Error: " ∷
    "   ╭─[ <unknown>:1:1 ]" ∷
    "   │" ∷
    " 1 │ …é…" ∷
    "   │    " ∷
    "   │   ─ accent" ∷
    "───╯" ∷ [])
unfolding drawn narrow
label_over_an_accent = refl

-- labels without a message are not shown for their own sake, beside one with a message
silent_label_beside_another :
    picture (one "abcdefghijklmnop") (configured (narrow 9) (label 2 3 "c" ∷ silent_label 14 15 ∷ [])) ≡ rows (
    "Error: " ∷
    "   ╭─[ <unknown>:1:1 ]" ∷
    "   │" ∷
    " 1 │ abcdefgh…" ∷
    "   │   ┬       " ∷
    "   │   ╰─────── c" ∷
    "───╯" ∷ [])
unfolding drawn narrow
silent_label_beside_another = refl

-- where no label of the line has one they are
silent_label_alone :
    picture (one "abcdefghijklmnop") (configured (narrow 9) (silent_label 7 8 ∷ [])) ≡ rows (
    "Error: " ∷
    "   ╭─[ <unknown>:1:1 ]" ∷
    "   │" ∷
    " 1 │ …efghijk…" ∷
    "───╯" ∷ [])
unfolding drawn narrow
silent_label_alone = refl

-- a line without labels that is shown near others is cut to its beginning
long_line_near_a_label :
    picture (one "abcdefghijklmnop\nx") (configured (record unicode_config { width = 9; context_lines = 1 }) (label 17 18 "m" ∷ [])) ≡ rows (
    "Error: " ∷
    "   ╭─[ <unknown>:1:1 ]" ∷
    "   │" ∷
    " 1 │ abcdefgh…" ∷
    " 2 │ x" ∷
    "   │ ┬  " ∷
    "   │ ╰── m" ∷
    "───╯" ∷ [])
unfolding drawn
long_line_near_a_label = refl
