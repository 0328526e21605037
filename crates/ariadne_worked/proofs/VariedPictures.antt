-- Pictures of many kinds of rows at once. Their bytes come from an independent model of the rules.
use Rattle.std.specs.Prelude.{◌≡◌, refl, ◌∷◌, [], Some, None, true, false, pos, negsuc}
use Rattle.ariadne_color.specs.declared.color.Color.TheVariants.{Primary, Fixed, Rgb, Red, Blue, BrightGreen}
use Rattle.ariadne_picture.specs.declared.switches.LabelAttach.TheVariants.{Start, End}
use Rattle.ariadne_picture.specs.declared.switches.CharSet.TheVariants.{Unicode}
use Rattle.ariadne_picture.specs.declared.switches.IndexType.TheVariants.{Byte}
use Rattle.ariadne_picture.specs.Report.{warning, advice}
use Rattle.ariadne_worked.proofs.Sample.{drawn, picture, left_out, rows, one, named, nameless, shown_from, span_in, span, silent_label_in}
use Rattle.ariadne_worked.proofs.Sample.{silent_label, label_in, label, ascii_config, report, titled, utf8, texts, inside_a_character}

-- a line feed in the message goes out as it is
message_of_two_rows :
    picture (one "ab\u{85}c\n")
    (record (titled "two\nrows" []) {
      code = Some (utf8 "E ");
      span = span 6 6;
      config = record ascii_config { multiline_arrows = false; index_type = Byte };
    }) ≡ rows (
    "[E ] Error: two" ∷
    "rows" ∷ [])
unfolding drawn
message_of_two_rows = refl

-- all lines are hidden, inside a label without message: one gap row
hidden_lines_in_compact_form :
    picture (named "A" "\u{2029}\r\r" ∷ [])
    (record (titled "boom"
    (record (silent_label_in "A" 0 2) { priority = negsuc 0 } ∷ [])) {
      kind = warning;
      code = Some (utf8 "03");
      span = span_in "A" 1 1;
      config = record ascii_config { cross_gap = false; compact = true; char_set = Unicode };
    }) ≡ rows (
    "[03] Warning: boom" ∷
    "   ╭─[ A:2:1 ]" ∷
    "   ┆" ∷ [])
unfolding drawn
hidden_lines_in_compact_form = refl

-- the place is unknown, and labels of one column share it
place_past_the_source :
    picture (one "")
    (record (titled "boom"
    (label 0 0 "l\nm"
    ∷ record (label 0 0 "") { color = Some (Rgb 1 2 3) }
    ∷ record (label 0 0 "a b") { color = Some Primary }
    ∷ record (silent_label 0 0) { order = pos 2 } ∷ []))
    { span = span 2 2; config = record ascii_config { compact = true; tab_width = 2 } }) ≡ rows (
    "Error: boom" ∷
    "   ,-[ <unknown>:?:? ]" ∷
    " 1 |" ∷
    "   |` l" ∷
    "m" ∷
    "   |` " ∷
    "   |` a b" ∷ [])
unfolding drawn
place_past_the_source = refl

-- a group for each source, each with its place
two_sources_in_compact_form :
    picture (named "A" " é\ra\u{2029} \u{2029}écb\u{2029}"
    ∷ named "B" " \u{85}\n\tb漢漢៘b\n\u{c}" ∷ [])
    (record (report
    (record (label_in "A" 7 7 "m") { color = Some (Fixed 200) }
    ∷ record (label_in "B" 1 2 "msg") { color = Some Red }
    ∷ record (label_in "B" 3 3 "X") { priority = pos 1 } ∷ [])) {
      code = Some (utf8 "123");
      span = span_in "B" 8 8;
      config = record ascii_config { label_attach = End; compact = true; multiline_arrows = false; char_set = Unicode };
    })
    ≡ rows (
    "[123] Error: " ∷
    "   ╭─[ A:4:1 ]" ∷
    " 4 │écb" ∷
    "   │╰ m" ∷
    "   ├─[ B:3:6 ]" ∷
    " 1 │" ∷
    "   │ ╰─ msg" ∷
    " 3 │    b漢漢៘b" ∷
    "   │╰─── X" ∷ [])
unfolding drawn
two_sources_in_compact_form = refl

-- four gutter labels, whose arrows pass below characters of no column
combining_characters_in_compact_form :
    picture (named "A" "é\u{200b}\r\r\r" ∷ [])
    (record (titled "boom"
    (record (silent_label_in "A" 1 3) { color = Some (Rgb 1 2 3) }
    ∷ record (label_in "A" 0 5 "o") { color = Some (Rgb 1 2 3) }
    ∷ record (label_in "A" 5 5 "o") { color = Some Blue; order = negsuc 0 }
    ∷ record (label_in "A" 3 5 "m") { color = Some Red }
    ∷ label_in "A" 0 6 "m"
    ∷ record (label_in "A" 0 6 "n") { color = Some Red }
    ∷ record (label_in "A" 5 6 "o") { color = Some Primary; order = negsuc 0 } ∷ [])) {
      kind = advice;
      code = Some (utf8 "E ");
      span = span_in "other" 1 1;
      notes = texts ("c\r" ∷ []);
      config = record ascii_config { cross_gap = false; label_attach = End; compact = true; multiline_arrows = false; char_set = Unicode };
    })
    ≡ rows (
    "[E ] Advice: boom" ∷
    "   ╭─[ A:3:1 ]" ∷
    " 3 │" ∷
    "   │╰─ o" ∷
    "   │╰─ o" ∷
    "   ├─[ A:1:2 ]" ∷
    " 1 │╭───▶é\u{200b}" ∷
    "   ││╭───╯▲ " ∷
    "   │││╭──╯│ " ∷
    "   ││││╭──╯ " ∷
    " 2 ││││├▶" ∷
    "   ││││╰─┼─ m" ∷
    "   │││╰──┴─ o" ∷
    " 3 │├│──▶" ∷
    "   │╰┼───┼─ m" ∷
    "   │ ╰───┴─ n" ∷
    "   │     Note: c\r" ∷ [])
unfolding drawn
combining_characters_in_compact_form = refl

-- a gap row, tabs, two labels over lines, and a help that begins with empty lines
nested_labels_around_hidden_lines :
    picture (shown_from 8 (named "A" "xyb\nacba\n\u{a0}\u{2028}\t\tbaxy\n\n\n") ∷ [])
    (record (titled "boom"
    (record (label_in "A" 1 18 "m") { order = pos 1 }
    ∷ record (label_in "A" 11 18 "l\nm") { color = Some (Rgb 1 2 3) } ∷ [])) {
      code = Some (utf8 "E ");
      span = span_in "A" 9 9;
      helps = texts ("\n\nz" ∷ []);
      config = record ascii_config { label_attach = Start; tab_width = 8; char_set = Unicode };
    }) ≡ rows (
    "[E ] Error: boom" ∷
    "    ╭─[ A:11:1 ]" ∷
    "    │" ∷
    "  9 │ ╭─▶ xyb" ∷
    "    ┆ ┆   " ∷
    " 12 │ ├─▶                 baxy" ∷
    "    │ │   ┬────────────────────  " ∷
    "    │ │   ╰────────────────────── l" ∷
    "m" ∷
    "    │ │                          " ∷
    "    │ ╰────────────────────────── m" ∷
    "    │     " ∷
    "    │     Help: " ∷
    "    │           " ∷
    "    │           z" ∷
    "────╯" ∷ [])
unfolding drawn
nested_labels_around_hidden_lines = refl

-- crossings in the text and in the gutter, arrow heads, tees and underlines
every_unicode_stroke :
    picture (nameless "A" " bb\u{b}a\n\u{200b}\t\u{2028}\u{2029}" ∷ [])
    (record (titled "two\nrows"
    (label_in "A" 0 1 "n"
    ∷ label_in "A" 2 5 "n"
    ∷ label_in "A" 4 7 "o"
    ∷ label_in "A" 0 9 "n" ∷ [])) {
      kind = warning;
      code = Some (utf8 "03");
      span = span_in "other" 1 1;
      helps = texts ("\n\nz" ∷ []);
      config = record ascii_config { cross_gap = false; char_set = Unicode };
    }) ≡ rows (
    "[03] Warning: two" ∷
    "rows" ∷
    "   ╭─[ <unknown>:1:1 ]" ∷
    "   │" ∷
    " 1 │ ╭─────▶  bb" ∷
    "   │ │       ┬ ▲   " ∷
    "   │ │       ╰─┼─── n" ∷
    "   │ │         │   " ∷
    "   │ │ ╭───────╯   " ∷
    " 2 │ │ │ ╭─▶ a" ∷
    "   │ │ │ │   ▲   " ∷
    "   │ │ ╰─┼───┴─── n" ∷
    " 3 │ │   ├─▶ \u{200b}" ∷
    "   │ │   │    ▲  " ∷
    "   │ │   ╰────┼── o" ∷
    "   │ │        │  " ∷
    "   │ ╰────────┴── n" ∷
    "   │         " ∷
    "   │         Help: " ∷
    "   │               " ∷
    "   │               z" ∷
    "───╯" ∷ [])
unfolding drawn
every_unicode_stroke = refl

-- without arrow heads, with a bare row, and line numbers of two digits
labels_over_lines_in_bytes :
    picture (shown_from 8 (named "A" "\r\na\t漢cb\r\n 漢\nxy\u{3000}\ncxyc\n\u{b}\n") ∷ [])
    (record (report
    (silent_label_in "A" 2 7
    ∷ label_in "A" 0 10 "n"
    ∷ record (label_in "A" 9 15 "n") { color = Some (Rgb 1 2 3) }
    ∷ record (label_in "A" 22 28 "o") { color = Some Blue; order = pos 1 } ∷ [])) {
      kind = advice;
      code = Some (utf8 "123");
      span = span_in "other" 0 0;
      config =
          record ascii_config {
            cross_gap = false;
            label_attach = End;
            multiline_arrows = false;
            tab_width = 2;
            char_set = Unicode;
            index_type = Byte;
          };
    })
    ≡ rows (
    "[123] Advice: " ∷
    "    ╭─[ A:10:1 ]" ∷
    "    │" ∷
    "  9 │ ╭─────▶ " ∷
    " 10 │ │   ╭─▶ a 漢cb" ∷
    "    │ │   │   ────  │   " ∷
    "    │ ╰───┼─────────┴─── n" ∷
    " 11 │     ├─▶  漢" ∷
    "    │     │         " ∷
    "    │     ╰───────── n" ∷
    "    │ " ∷
    " 13 │   ╭───▶ cxyc" ∷
    " 14 │   ├───▶ " ∷
    "    │   │        " ∷
    "    │   ╰──────── o" ∷
    "────╯" ∷ [])
unfolding drawn
labels_over_lines_in_bytes = refl

-- labels of one line and of two, without underlines
label_across_a_gutter :
    picture (named "A" "\r\n\u{c}éxy\u{b}" ∷ [])
    (record (report
    (record (label_in "A" 3 5 "o") { color = Some (Rgb 1 2 3); order = pos 1 }
    ∷ label_in "A" 3 7 "m"
    ∷ label_in "A" 2 6 "m" ∷ [])) {
      code = Some (utf8 "123");
      span = span_in "A" 5 5;
      notes = texts ("c\r" ∷ []);
      config = record ascii_config { cross_gap = false; label_attach = Start; underlines = false; char_set = Unicode };
    })
    ≡ rows (
    "[123] Error: " ∷
    "   ╭─[ A:3:3 ]" ∷
    "   │" ∷
    " 2 │ ╭─▶ " ∷
    " 3 │ ├─▶ éxy" ∷
    "   │ │   │     " ∷
    "   │ │   ╰───── m" ∷
    "   │ │   │     " ∷
    "   │ ╰───┼───── m" ∷
    "   │     │     " ∷
    "   │     ╰───── o" ∷
    "   │     " ∷
    "   │     Note: c\r" ∷
    "───╯" ∷ [])
unfolding drawn
label_across_a_gutter = refl

-- labels over lines and in a line, a bare row, and notes of several lines
notes_below_two_groups :
    picture (named "A" " xyéb😀\r\tba\t\u{200b}\u{2029}xyxy\u{2028}acé\u{2028}a \n" ∷ [])
    (record (report
    (record (label_in "A" 14 20 "a b") { color = Some BrightGreen; order = negsuc 0 }
    ∷ record (silent_label_in "A" 7 7) { color = Some Primary } ∷ [])) {
      kind = advice;
      span = span_in "other" 0 0;
      notes = texts ("c\r" ∷ "\n\nz" ∷ "x\r\ny\n" ∷ []);
      config = record ascii_config { cross_gap = false; tab_width = 8 };
    }) ≡ rows (
    "Advice: " ∷
    "   ,-[ A:3:2 ]" ∷
    "   |" ∷
    " 3 | ,-> xyxy" ∷
    " 4 | |-> acé" ∷
    "   | |         " ∷
    "   | `--------- a b" ∷
    "   |" ∷
    "   |-[ A:2:1 ]" ∷
    "   |" ∷
    " 2 |         ba      \u{200b}" ∷
    "   | " ∷
    "   | Note 1: c\r" ∷
    "   | " ∷
    "   | Note 2: " ∷
    "   |         " ∷
    "   |         z" ∷
    "   | " ∷
    "   | Note 3: x" ∷
    "   |         y" ∷
    "---'" ∷ [])
unfolding drawn
notes_below_two_groups = refl

-- three groups, wide characters, and a label that cuts a character
two_sources_in_bytes :
    picture (nameless "A" " \u{200b}漢៘ \nab"
    ∷ named "B" "៘\n" ∷ [])
    (record (report
    (record (label_in "A" 2 2 "X") { color = Some Primary; priority = pos 1 }
    ∷ record (label_in "A" 1 10 "msg") { color = Some Primary }
    ∷ record (label_in "A" 4 12 "") { color = Some (Fixed 200); order = pos 2 }
    ∷ record (silent_label_in "A" 7 12) { priority = pos 1 }
    ∷ record (label_in "B" 3 3 "l\nm") { order = pos 1 } ∷ [])) {
      kind = advice;
      span = span_in "A" 0 0;
      config = record ascii_config { cross_gap = false; label_attach = End; tab_width = 1; index_type = Byte };
    })
    ≡ rows (
    "Advice: " ∷
    "   ,-[ <unknown>:1:1 ]" ∷
    "   |" ∷
    " 1 |  \u{200b}漢៘" ∷
    "   |  ^^|^^^^  " ∷
    "   |    `------ msg" ∷
    "   |" ∷
    "   |-[ B:1:2 ]" ∷
    "   |" ∷
    " 1 | ៘" ∷
    "   |    | " ∷
    "   |    `- l" ∷
    "m" ∷
    "   |" ∷
    "   |-[ <unknown>:1:1 ]" ∷
    "   |" ∷
    " 1 |  \u{200b}漢៘" ∷
    "   |  ^^^^^^|  " ∷
    "   |        `-- " ∷
    "---'" ∷ [])
unfolding drawn
two_sources_in_bytes = refl

two_sources_in_bytes_reasons :
    left_out (nameless "A" " \u{200b}漢៘ \nab"
    ∷ named "B" "៘\n" ∷ [])
    (record (report
    (record (label_in "A" 2 2 "X") { color = Some Primary; priority = pos 1 }
    ∷ record (label_in "A" 1 10 "msg") { color = Some Primary }
    ∷ record (label_in "A" 4 12 "") { color = Some (Fixed 200); order = pos 2 }
    ∷ record (silent_label_in "A" 7 12) { priority = pos 1 }
    ∷ record (label_in "B" 3 3 "l\nm") { order = pos 1 } ∷ [])) {
      kind = advice;
      span = span_in "A" 0 0;
      config = record ascii_config { cross_gap = false; label_attach = End; tab_width = 1; index_type = Byte };
    })
    ≡ Some inside_a_character ∷ None ∷ None ∷ None ∷ None ∷ []
unfolding drawn
two_sources_in_bytes_reasons = refl
