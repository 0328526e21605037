-- Pictures in colour, and those of the Unicode set. In rows with colours a ~ stands for the escape byte.
use Rattle.std.specs.Prelude.{◌≡◌, refl, ◌∷◌, [], Some, false, pos, negsuc}
use Rattle.ariadne_color.specs.declared.color.Color.TheVariants.{Fixed, Red, Blue, BrightGreen}
use Rattle.ariadne_picture.specs.declared.switches.CharSet.TheVariants.{Unicode}
use Rattle.ariadne_picture.specs.Report.{warning, advice, custom}
use Rattle.ariadne_worked.proofs.Sample.{drawn, picture, rows, rows_in_color, one, silent_label, label, ascii_config, color_config}
use Rattle.ariadne_worked.proofs.Sample.{unicode_config, titled, configured, utf8, texts}

header_in_color :
    picture (one "") (record (titled "m" []) { config = color_config }) ≡ rows_in_color (
    "~[31mError:~[0m m" ∷ [])
unfolding drawn
header_in_color = refl

warning_in_color :
    picture (one "") (record (titled "m" []) { kind = warning; config = color_config }) ≡ rows_in_color (
    "~[33mWarning:~[0m m" ∷ [])
unfolding drawn
warning_in_color = refl

advice_in_color :
    picture (one "") (record (titled "m" []) { kind = advice; config = color_config }) ≡ rows_in_color (
    "~[38;5;147mAdvice:~[0m m" ∷ [])
unfolding drawn
advice_in_color = refl

custom_kind_in_its_color :
    picture (one "") (record (titled "m" []) { kind = custom (utf8 "Hint") Blue; code = Some (utf8 "03"); config = color_config })
    ≡ rows_in_color (
    "~[34m[03] Hint:~[0m m" ∷ [])
unfolding drawn
custom_kind_in_its_color = refl

-- strokes and text in the label's colour, the frame in one of its own, and the blanks plain
label_in_its_color :
    picture (one "a") (configured color_config (record (label 0 1 "m") { color = Some Blue } ∷ []))
    ≡ rows_in_color (
    "~[31mError:~[0m " ∷
    "   ~[38;5;246m,~[0m~[38;5;246m-~[0m~[38;5;246m[~[0m <unknown>:1:1 ~[38;5;246m]~[0m" ∷
    "   ~[38;5;246m|~[0m" ∷
    " ~[38;5;246m1 |~[0m ~[34ma~[0m" ∷
    " ~[38;5;240m  |~[0m ~[34m|~[0m  " ∷
    " ~[38;5;240m  |~[0m ~[34m`~[0m~[34m-~[0m~[34m-~[0m m" ∷
    "~[38;5;246m---'~[0m" ∷ [])
unfolding drawn
label_in_its_color = refl

-- a character has the colour of the shortest label over it
shorter_label_colors_the_text :
    picture (one "abcd") (configured color_config
    (record (silent_label 0 3) { color = Some Red } ∷ record (silent_label 1 2) { color = Some Blue } ∷ []))
    ≡ rows_in_color (
    "~[31mError:~[0m " ∷
    "   ~[38;5;246m,~[0m~[38;5;246m-~[0m~[38;5;246m[~[0m <unknown>:1:1 ~[38;5;246m]~[0m" ∷
    "   ~[38;5;246m|~[0m" ∷
    " ~[38;5;246m1 |~[0m ~[31ma~[0m~[34mb~[0m~[31mc~[0m~[38;5;249md~[0m" ∷
    "~[38;5;246m---'~[0m" ∷ [])
unfolding drawn
shorter_label_colors_the_text = refl

-- or of the one with the highest priority
higher_priority_colors_the_text :
    picture (one "abcd") (configured color_config
    (record (silent_label 0 3) { color = Some Red; priority = pos 1 } ∷ record (silent_label 1 2) { color = Some Blue } ∷ []))
    ≡ rows_in_color (
    "~[31mError:~[0m " ∷
    "   ~[38;5;246m,~[0m~[38;5;246m-~[0m~[38;5;246m[~[0m <unknown>:1:1 ~[38;5;246m]~[0m" ∷
    "   ~[38;5;246m|~[0m" ∷
    " ~[38;5;246m1 |~[0m ~[31ma~[0m~[31mb~[0m~[31mc~[0m~[38;5;249md~[0m" ∷
    "~[38;5;246m---'~[0m" ∷ [])
unfolding drawn
higher_priority_colors_the_text = refl

-- its word is painted, its text is plain
help_in_color :
    picture (one "a") (record (configured color_config (silent_label 0 1 ∷ [])) { helps = texts ("h" ∷ []) })
    ≡ rows_in_color (
    "~[31mError:~[0m " ∷
    "   ~[38;5;246m,~[0m~[38;5;246m-~[0m~[38;5;246m[~[0m <unknown>:1:1 ~[38;5;246m]~[0m" ∷
    "   ~[38;5;246m|~[0m" ∷
    " ~[38;5;246m1 |~[0m a" ∷
    " ~[38;5;240m  |~[0m " ∷
    " ~[38;5;240m  |~[0m ~[38;5;115mHelp~[0m: h" ∷
    "~[38;5;246m---'~[0m" ∷ [])
unfolding drawn
help_in_color = refl

-- the gutter's strokes have their label's colour
colors_of_a_label_over_lines :
    picture (one "a\nb") (configured color_config (record (label 0 3 "m") { color = Some (Fixed 9) } ∷ []))
    ≡ rows_in_color (
    "~[31mError:~[0m " ∷
    "   ~[38;5;246m,~[0m~[38;5;246m-~[0m~[38;5;246m[~[0m <unknown>:1:1 ~[38;5;246m]~[0m" ∷
    "   ~[38;5;246m|~[0m" ∷
    " ~[38;5;246m1 |~[0m ~[38;5;9m,~[0m~[38;5;9m-~[0m~[38;5;9m>~[0m~[38;5;9m ~[0m~[38;5;9ma~[0m" ∷
    " ~[38;5;246m2 |~[0m ~[38;5;9m|~[0m~[38;5;9m-~[0m~[38;5;9m>~[0m~[38;5;9m ~[0m~[38;5;9mb~[0m" ∷
    " ~[38;5;240m  |~[0m ~[38;5;9m|~[0m      " ∷
    " ~[38;5;240m  |~[0m ~[38;5;9m`~[0m~[38;5;9m-~[0m~[38;5;9m-~[0m~[38;5;9m-~[0m~[38;5;9m-~[0m~[38;5;9m-~[0m~[38;5;9m-~[0m m" ∷
    "~[38;5;246m---'~[0m" ∷ [])
unfolding drawn
colors_of_a_label_over_lines = refl

-- ---- which of the labels that are alike is seen

-- two labels as long as each other: the one whose arrow stands beside the line colours the text that both hold
margin_label_colors_before_other_long_labels :
    picture (one "a\naa") (configured color_config
    (record (label 0 3 "m") { order = pos 1 } ∷ record (silent_label 1 4) { color = Some Blue } ∷ [])) ≡ rows_in_color (
    "~[31mError:~[0m " ∷
    "   ~[38;5;246m,~[0m~[38;5;246m-~[0m~[38;5;246m[~[0m <unknown>:1:1 ~[38;5;246m]~[0m" ∷
    "   ~[38;5;246m|~[0m" ∷
    " ~[38;5;246m1 |~[0m ,-> a" ∷
    " ~[38;5;246m2 |~[0m |-> a~[34ma~[0m" ∷
    " ~[38;5;240m  |~[0m |       " ∷
    " ~[38;5;240m  |~[0m `------- m" ∷
    "~[38;5;246m---'~[0m" ∷ [])
unfolding drawn
margin_label_colors_before_other_long_labels = refl

-- a label over several lines colours before one that lies within the line
long_label_colors_before_one_within_the_line :
    picture (one "\naa") (configured color_config
    (silent_label 1 3 ∷ record (silent_label 0 2) { color = Some BrightGreen } ∷ [])) ≡ rows_in_color (
    "~[31mError:~[0m " ∷
    "   ~[38;5;246m,~[0m~[38;5;246m-~[0m~[38;5;246m[~[0m <unknown>:1:1 ~[38;5;246m]~[0m" ∷
    "   ~[38;5;246m|~[0m" ∷
    " ~[38;5;240m  :~[0m " ∷
    " ~[38;5;246m2 |~[0m ~[92ma~[0ma" ∷
    "~[38;5;246m---'~[0m" ∷ [])
unfolding drawn
long_label_colors_before_one_within_the_line = refl

-- behind a vertical in the arrow row of another label the blank has that label's colour
blank_behind_a_crossed_vertical :
    picture (one "漢😀") (configured color_config
    (label 0 0 "m" ∷ record (label 0 2 "m") { color = Some (Fixed 200); order = negsuc 0 } ∷ [])) ≡ rows_in_color (
    "~[31mError:~[0m " ∷
    "   ~[38;5;246m,~[0m~[38;5;246m-~[0m~[38;5;246m[~[0m <unknown>:1:1 ~[38;5;246m]~[0m" ∷
    "   ~[38;5;246m|~[0m" ∷
    " ~[38;5;246m1 |~[0m ~[38;5;200m漢~[0m~[38;5;200m😀~[0m" ∷
    " ~[38;5;240m  |~[0m |^~[38;5;200m|~[0m~[38;5;200m^~[0m  " ∷
    " ~[38;5;240m  |~[0m |~[38;5;200m ~[0m~[38;5;200m`~[0m~[38;5;200m-~[0m~[38;5;200m-~[0m~[38;5;200m-~[0m m" ∷
    " ~[38;5;240m  |~[0m |     " ∷
    " ~[38;5;240m  |~[0m `----- m" ∷
    "~[38;5;246m---'~[0m" ∷ [])
unfolding drawn
blank_behind_a_crossed_vertical = refl

-- behind a vertical in an underline the rest of its place has the colour of the vertical
underline_behind_a_vertical :
    picture (one "\tb") (configured color_config
    (label 0 0 "m" ∷ record (silent_label 0 1) { color = Some Red } ∷ [])) ≡ rows_in_color (
    "~[31mError:~[0m " ∷
    "   ~[38;5;246m,~[0m~[38;5;246m-~[0m~[38;5;246m[~[0m <unknown>:1:1 ~[38;5;246m]~[0m" ∷
    "   ~[38;5;246m|~[0m" ∷
    " ~[38;5;246m1 |~[0m ~[31m ~[0m~[31m ~[0m~[31m ~[0m~[31m ~[0m~[38;5;249mb~[0m" ∷
    " ~[38;5;240m  |~[0m |^^^  " ∷
    " ~[38;5;240m  |~[0m `----- m" ∷
    "~[38;5;246m---'~[0m" ∷ [])
unfolding drawn
underline_behind_a_vertical = refl

unicode_strokes :
    picture (one "ab") (configured unicode_config (label 0 2 "x" ∷ [])) ≡ rows (
    "Error: " ∷
    "   ╭─[ <unknown>:1:1 ]" ∷
    "   │" ∷
    " 1 │ ab" ∷
    "   │ ─┬  " ∷
    "   │  ╰── x" ∷
    "───╯" ∷ [])
unfolding drawn
unicode_strokes = refl

-- nested labels, a hidden line, a crossing without gap and a second group
unicode_strokes_over_lines :
    picture (one "ab\ncd\nef") (configured (record ascii_config { char_set = Unicode; cross_gap = false })
    (label 0 7 "A" ∷ label 1 8 "B" ∷ label 0 1 "C" ∷ [])) ≡ rows (
    "Error: " ∷
    "   ╭─[ <unknown>:1:1 ]" ∷
    "   │" ∷
    " 1 │ ╭───▶ ab" ∷
    "   │ │      ▲   " ∷
    "   │ │ ╭────╯   " ∷
    "   ┆ ┆ ┆   " ∷
    " 3 │ ├─│ ▶ ef" ∷
    "   │ │ │    ▲  " ∷
    "   │ ╰─┼────┼── A" ∷
    "   │   │    │  " ∷
    "   │   ╰────┴── B" ∷
    "   │" ∷
    "   ├─[ <unknown>:1:1 ]" ∷
    "   │" ∷
    " 1 │ ab" ∷
    "   │ ┬  " ∷
    "   │ ╰── C" ∷
    "───╯" ∷ [])
unfolding drawn
unicode_strokes_over_lines = refl
