-- Pictures in colour. Their bytes come from an independent model of the rules; in their rows a ~ stands for
-- the escape byte.
use Rattle.std.specs.Prelude.{◌≡◌, refl, ◌∷◌, [], Some, None, true, false, pos, negsuc}
use Rattle.ariadne_color.specs.declared.color.Color.TheVariants.{Primary, Fixed, Rgb, Red, Blue, BrightGreen}
use Rattle.ariadne_picture.specs.declared.switches.LabelAttach.TheVariants.{Start, End}
use Rattle.ariadne_picture.specs.declared.switches.CharSet.TheVariants.{Unicode}
use Rattle.ariadne_picture.specs.declared.switches.IndexType.TheVariants.{Byte}
use Rattle.ariadne_picture.specs.Report.{warning, advice, custom}
use Rattle.ariadne_worked.proofs.Sample.{drawn, picture, left_out, rows_in_color, one, named, nameless, shown_from, span_in, span}
use Rattle.ariadne_worked.proofs.Sample.{silent_label_in, silent_label, label_in, label, ascii_config, report, titled, utf8, texts, unfetched}
use Rattle.ariadne_worked.proofs.Sample.{past_its_source}

-- without a label the header is all
advice_alone_in_color :
    picture (shown_from 8 (named "A" "漢\u{a0}bxy \u{2028}bé\t\u{c}c \n\u{2029}") ∷ [])
    (record (report []) {
      kind = advice;
      code = Some (utf8 "123");
      span = span_in "other" 3 3;
      helps = texts ("c\r" ∷ []);
      config = record ascii_config { label_attach = End; underlines = false; color = true; tab_width = 2; char_set = Unicode };
    })
    ≡ rows_in_color (
    "~[38;5;147m[123] Advice:~[0m " ∷ [])
unfolding drawn
advice_alone_in_color = refl

-- its source is unknown
warning_whose_label_is_left_out :
    picture (named "A" "\u{85}\u{b}😀\r\n\téb " ∷ [])
    (record (report
    (record (label_in "missing" 1 3 "l\nm") { priority = pos 1 } ∷ [])) {
      kind = warning;
      span = span_in "other" 1 1;
      config = record ascii_config { compact = true; multiline_arrows = false; color = true; tab_width = 8; index_type = Byte };
    })
    ≡ rows_in_color (
    "~[33mWarning:~[0m " ∷ [])
unfolding drawn
warning_whose_label_is_left_out = refl

warning_whose_label_is_left_out_reasons :
    left_out (named "A" "\u{85}\u{b}😀\r\n\téb " ∷ [])
    (record (report
    (record (label_in "missing" 1 3 "l\nm") { priority = pos 1 } ∷ [])) {
      kind = warning;
      span = span_in "other" 1 1;
      config = record ascii_config { compact = true; multiline_arrows = false; color = true; tab_width = 8; index_type = Byte };
    })
    ≡ Some unfetched ∷ []
unfolding drawn
warning_whose_label_is_left_out_reasons = refl

-- each character in its label's colour, or in that of no label
text_in_three_colors :
    picture (nameless "A" "漢éa\u{2028}xy\u{b}" ∷ [])
    (record (titled "two\nrows"
    (record (label_in "A" 3 4 "") { color = Some Blue }
    ∷ record (silent_label_in "A" 2 4) { color = Some (Rgb 1 2 3) } ∷ [])) {
      kind = warning;
      span = span_in "other" 2 2;
      helps = texts ("x\r\ny\n" ∷ []);
      config = record ascii_config { label_attach = Start; compact = true; underlines = false; color = true; char_set = Unicode };
    })
    ≡ rows_in_color (
    "~[33mWarning:~[0m two" ∷
    "rows" ∷
    "   ~[38;5;246m╭~[0m~[38;5;246m─~[0m~[38;5;246m[~[0m <unknown>:1:4 ~[38;5;246m]~[0m" ∷
    " ~[38;5;246m1 │~[0m~[38;5;249m漢~[0m~[38;5;249me~[0m~[38;2;1;2;3ḿ~[0m~[34ma~[0m" ∷
    " ~[38;5;240m  │~[0m   ~[34m╰~[0m~[34m─~[0m " ∷
    " ~[38;5;240m  │~[0m~[38;5;115mHelp~[0m: x" ∷
    " ~[38;5;240m  │~[0m      y" ∷ [])
unfolding drawn
text_in_three_colors = refl

-- its strokes are plain, and so is its text
label_without_color :
    picture (named "A" "a漢\u{c}" ∷ [])
    (record (report
    (silent_label_in "A" 1 1
    ∷ label_in "A" 1 3 "msg" ∷ [])) {
      kind = warning;
      span = span_in "A" 0 0;
      notes = texts ("h" ∷ "one\ntwo" ∷ "h" ∷ []);
      config = record ascii_config { label_attach = Start; multiline_arrows = false; color = true; tab_width = 1; char_set = Unicode };
    })
    ≡ rows_in_color (
    "~[33mWarning:~[0m " ∷
    "   ~[38;5;246m╭~[0m~[38;5;246m─~[0m~[38;5;246m[~[0m A:1:1 ~[38;5;246m]~[0m" ∷
    "   ~[38;5;246m│~[0m" ∷
    " ~[38;5;246m1 │~[0m ~[38;5;249ma~[0m漢" ∷
    " ~[38;5;240m  │~[0m  ┬──  " ∷
    " ~[38;5;240m  │~[0m  ╰──── msg" ∷
    " ~[38;5;240m  │~[0m " ∷
    " ~[38;5;240m  │~[0m ~[38;5;115mNote 1~[0m: h" ∷
    " ~[38;5;240m  │~[0m " ∷
    " ~[38;5;240m  │~[0m ~[38;5;115mNote 2~[0m: one" ∷
    " ~[38;5;240m  │~[0m         two" ∷
    " ~[38;5;240m  │~[0m " ∷
    " ~[38;5;240m  │~[0m ~[38;5;115mNote 3~[0m: h" ∷
    "~[38;5;246m───╯~[0m" ∷ [])
unfolding drawn
label_without_color = refl

-- a gap row inside a label, and a bare row for labels without message
hidden_lines_of_two_groups :
    picture (nameless "A" "b漢\u{2028}axyc é\u{b}\u{c}é\t\n bb\u{b} \u{85}"
    ∷ shown_from 8 (named "B" "b\t b\t\u{c}éac漢b\rca \u{200b}a\u{2028}漢\n \u{2028}\n\r") ∷ [])
    (record (titled "boom"
    (record (silent_label_in "A" 1 6) { order = pos 1 }
    ∷ record (silent_label_in "B" 0 8) { color = Some BrightGreen } ∷ [])) {
      kind = advice;
      code = Some (utf8 "03");
      span = span_in "B" 1 1;
      helps = texts ("h" ∷ []);
      config = record ascii_config { label_attach = End; color = true; char_set = Unicode };
    }) ≡ rows_in_color (
    "~[38;5;147m[03] Advice:~[0m boom" ∷
    "    ~[38;5;246m╭~[0m~[38;5;246m─~[0m~[38;5;246m[~[0m B:9:2 ~[38;5;246m]~[0m" ∷
    "    ~[38;5;246m│~[0m" ∷
    " ~[38;5;240m   ┆~[0m " ∷
    "    ~[38;5;246m│~[0m" ∷
    "    ~[38;5;246m├~[0m~[38;5;246m─~[0m~[38;5;246m[~[0m <unknown>:1:2 ~[38;5;246m]~[0m" ∷
    "    ~[38;5;246m│~[0m" ∷
    " ~[38;5;240m   │~[0m " ∷
    " ~[38;5;240m   │~[0m " ∷
    " ~[38;5;240m   │~[0m ~[38;5;115mHelp~[0m: h" ∷
    "~[38;5;246m────╯~[0m" ∷ [])
unfolding drawn
hidden_lines_of_two_groups = refl

-- each blank of a tab in colour, a broken row, and three helps
bright_and_default_colors :
    picture (named "A" "漢\u{a0}\n\n\t\u{3000}c😀 \r\naxy\r" ∷ [])
    (record (titled "two\nrows"
    (record (label_in "A" 4 4 "a b") { color = Some BrightGreen }
    ∷ record (silent_label_in "A" 1 13) { color = Some Primary; order = pos 1; priority = negsuc 0 }
    ∷ record (silent_label_in "A" 5 13) { color = Some BrightGreen } ∷ [])) {
      kind = advice;
      code = Some (utf8 "E ");
      span = span_in "other" 2 2;
      helps = texts ("c\r" ∷ "x\r\ny\n" ∷ "x\r\ny\n" ∷ []);
      config = record ascii_config { cross_gap = false; color = true };
    }) ≡ rows_in_color (
    "~[38;5;147m[E ] Advice:~[0m two" ∷
    "rows" ∷
    "   ~[38;5;246m,~[0m~[38;5;246m-~[0m~[38;5;246m[~[0m A:3:1 ~[38;5;246m]~[0m" ∷
    "   ~[38;5;246m|~[0m" ∷
    " ~[38;5;240m  |~[0m " ∷
    " ~[38;5;246m3 |~[0m ~[39m ~[0m~[39m ~[0m~[39m ~[0m~[39m ~[0m~[92m ~[0m~[92mc~[0m~[92m😀~[0m" ∷
    " ~[38;5;240m  |~[0m ~[92m|~[0m~[92m ~[0m~[92m ~[0m~[92m ~[0m " ∷
    " ~[38;5;240m  |~[0m ~[92m`~[0m~[92m-~[0m~[92m-~[0m~[92m-~[0m~[92m-~[0m a b" ∷
    " ~[38;5;240m  :~[0m " ∷
    " ~[38;5;240m  |~[0m " ∷
    " ~[38;5;240m  |~[0m ~[38;5;115mHelp 1~[0m: c\r" ∷
    " ~[38;5;240m  |~[0m " ∷
    " ~[38;5;240m  |~[0m ~[38;5;115mHelp 2~[0m: x" ∷
    " ~[38;5;240m  |~[0m         y" ∷
    " ~[38;5;240m  |~[0m " ∷
    " ~[38;5;240m  |~[0m ~[38;5;115mHelp 3~[0m: x" ∷
    " ~[38;5;240m  |~[0m         y" ∷
    "~[38;5;246m---'~[0m" ∷ [])
unfolding drawn
bright_and_default_colors = refl

-- a corner that has no cell, and a display offset
column_of_a_combining_character_in_color :
    picture (shown_from 97 (nameless "" "aéxy\n") ∷ [])
    (record (report
    (record (label 0 0 "l\nm") { priority = negsuc 0 }
    ∷ label 2 2 "l\nm"
    ∷ record (label 0 2 "m") { color = Some Primary; order = pos 1; priority = negsuc 0 }
    ∷ record (silent_label 2 4) { color = Some (Fixed 200) } ∷ [])) {
      span = span 1 1;
      config = record ascii_config { cross_gap = false; label_attach = Start; color = true; index_type = Byte };
    })
    ≡ rows_in_color (
    "~[31mError:~[0m " ∷
    "    ~[38;5;246m,~[0m~[38;5;246m-~[0m~[38;5;246m[~[0m <unknown>:98:2 ~[38;5;246m]~[0m" ∷
    "    ~[38;5;246m|~[0m" ∷
    " ~[38;5;246m98 |~[0m ~[39ma~[0m~[39me~[0m~[38;5;200ḿ~[0m~[38;5;249mx~[0m~[38;5;249my~[0m" ∷
    " ~[38;5;240m   |~[0m |~[39m^~[0m  " ∷
    " ~[38;5;240m   |~[0m `--- l" ∷
    "m" ∷
    " ~[38;5;240m   |~[0m ~[39m|~[0m   " ∷
    " ~[38;5;240m   |~[0m ~[39m|~[0m -- l" ∷
    "m" ∷
    " ~[38;5;240m   |~[0m ~[39m|~[0m   " ∷
    " ~[38;5;240m   |~[0m ~[39m`~[0m~[39m-~[0m~[39m-~[0m~[39m-~[0m m" ∷
    "~[38;5;246m----'~[0m" ∷ [])
unfolding drawn
column_of_a_combining_character_in_color = refl

-- helps and notes below a compact label, and a label past its source
custom_kind_in_color :
    picture (nameless "A" "b" ∷ [])
    (record (titled "two\nrows"
    (record (label_in "A" 1 1 "msg") { color = Some Primary; priority = pos 1 }
    ∷ record (silent_label_in "A" 1 4) { color = Some Primary } ∷ [])) {
      kind = custom (utf8 "Hint") (Fixed 200);
      span = span_in "other" 2 2;
      helps = texts ("h" ∷ "\n\nz" ∷ "c\r" ∷ []);
      notes = texts ("x\r\ny\n" ∷ "" ∷ []);
      config = record ascii_config { label_attach = End; compact = true; underlines = false; color = true; tab_width = 1 };
    })
    ≡ rows_in_color (
    "~[38;5;200mHint:~[0m two" ∷
    "rows" ∷
    "   ~[38;5;246m,~[0m~[38;5;246m-~[0m~[38;5;246m[~[0m <unknown>:1:2 ~[38;5;246m]~[0m" ∷
    " ~[38;5;246m1 |~[0m~[38;5;249mb~[0m" ∷
    " ~[38;5;240m  |~[0m ~[39m`~[0m msg" ∷
    " ~[38;5;240m  |~[0m~[38;5;115mHelp 1~[0m: h" ∷
    " ~[38;5;240m  |~[0m~[38;5;115mHelp 2~[0m: " ∷
    " ~[38;5;240m  |~[0m        " ∷
    " ~[38;5;240m  |~[0m        z" ∷
    " ~[38;5;240m  |~[0m~[38;5;115mHelp 3~[0m: c\r" ∷
    " ~[38;5;240m  |~[0m~[38;5;115mNote 1~[0m: x" ∷
    " ~[38;5;240m  |~[0m        y" ∷ [])
unfolding drawn
custom_kind_in_color = refl

custom_kind_in_color_reasons :
    left_out (nameless "A" "b" ∷ [])
    (record (titled "two\nrows"
    (record (label_in "A" 1 1 "msg") { color = Some Primary; priority = pos 1 }
    ∷ record (silent_label_in "A" 1 4) { color = Some Primary } ∷ [])) {
      kind = custom (utf8 "Hint") (Fixed 200);
      span = span_in "other" 2 2;
      helps = texts ("h" ∷ "\n\nz" ∷ "c\r" ∷ []);
      notes = texts ("x\r\ny\n" ∷ "" ∷ []);
      config = record ascii_config { label_attach = End; compact = true; underlines = false; color = true; tab_width = 1 };
    })
    ≡ None ∷ Some past_its_source ∷ []
unfolding drawn
custom_kind_in_color_reasons = refl

-- each stroke in the colour of the label that is seen
crossing_labels_in_color :
    picture (one "\t\r\n\n\u{2029}ac\u{2029}")
    (record (report
    (label 1 4 "n"
    ∷ record (label 5 5 "n") { color = Some (Rgb 1 2 3); order = negsuc 0 }
    ∷ record (label 2 7 "n") { color = Some Red; order = pos 1 }
    ∷ record (label 1 8 "o") { color = Some Primary } ∷ [])) {
      kind = custom (utf8 "Hint") (Rgb 1 2 3);
      span = span 5 5;
      helps = texts ("c\r" ∷ []);
      config = record ascii_config { cross_gap = false; label_attach = End; compact = true; color = true; tab_width = 1 };
    })
    ≡ rows_in_color (
    "~[38;2;1;2;3mHint:~[0m " ∷
    "   ~[38;5;246m,~[0m~[38;5;246m-~[0m~[38;5;246m[~[0m <unknown>:4:1 ~[38;5;246m]~[0m" ∷
    " ~[38;5;246m4 |~[0m~[38;5;249ma~[0m~[38;5;249mc~[0m" ∷
    " ~[38;5;240m  |~[0m~[38;2;1;2;3m`~[0m n" ∷
    "   ~[38;5;246m|~[0m~[38;5;246m-~[0m~[38;5;246m[~[0m <unknown>:4:1 ~[38;5;246m]~[0m" ∷
    " ~[38;5;246m1 |~[0m~[39m,~[0m~[39m-~[0m~[39m-~[0m~[39m>~[0m" ∷
    " ~[38;5;240m  |~[0m~[39m|~[0m ,--'~[31m^~[0m " ∷
    " ~[38;5;240m  |~[0m~[39m|~[0m~[31m,~[0m~[31m+~[0m~[31m-~[0m~[31m-~[0m~[31m-~[0m~[31m'~[0m " ∷
    " ~[38;5;246m2 |~[0m~[39m|~[0m~[31m|~[0m|>" ∷
    " ~[38;5;240m  |~[0m~[39m|~[0m~[31m|~[0m`--- n" ∷
    " ~[38;5;240m  :~[0m~[39m:~[0m~[31m:~[0m  " ∷
    " ~[38;5;246m4 |~[0m~[39m|~[0m~[31m|~[0m~[31m-~[0m~[31m>~[0m~[31ma~[0m~[31mc~[0m" ∷
    " ~[38;5;240m  |~[0m~[39m`~[0m~[39m+~[0m~[39m-~[0m~[39m-~[0m~[39m-~[0m~[39m-~[0m~[39m^~[0m~[39m-~[0m o" ∷
    " ~[38;5;240m  |~[0m ~[31m`~[0m~[31m-~[0m~[31m-~[0m~[31m-~[0m~[31m-~[0m~[31m-~[0m~[31m-~[0m n" ∷
    " ~[38;5;240m  |~[0m    ~[38;5;115mHelp~[0m: c\r" ∷ [])
unfolding drawn
crossing_labels_in_color = refl
