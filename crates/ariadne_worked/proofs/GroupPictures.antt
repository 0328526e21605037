-- Pictures of several lines, groups and sources, and of the numbers and places that they show.
use Rattle.std.specs.Prelude.{◌≡◌, refl, ◌∷◌, [], Some, None, pos, drop}
use Rattle.ariadne_worked.proofs.Sample.{drawn, world, accepted, picture, picture_of, left_out, rows, one, named, nameless, shown_from, span_in, span}
use Rattle.ariadne_worked.proofs.Sample.{label_in, label, byte_config, report, titled, unfetched}

-- a row without gutter stands in place of the hidden line
lines_between_labels_are_left_out :
    picture (one "a\nb\nc") (report (label 0 1 "x" ∷ label 4 5 "y" ∷ [])) ≡ rows (
    "Error: " ∷
    "   ,-[ <unknown>:1:1 ]" ∷
    "   |" ∷
    " 1 | a" ∷
    "   | |  " ∷
    "   | `-- x" ∷
    "   | " ∷
    " 3 | c" ∷
    "   | |  " ∷
    "   | `-- y" ∷
    "---'" ∷ [])
unfolding drawn
lines_between_labels_are_left_out = refl

later_label_on_an_earlier_line_begins_a_group :
    picture (one "a\nb") (report (label 2 3 "y" ∷ label 0 1 "x" ∷ [])) ≡ rows (
    "Error: " ∷
    "   ,-[ <unknown>:1:1 ]" ∷
    "   |" ∷
    " 2 | b" ∷
    "   | |  " ∷
    "   | `-- y" ∷
    "   |" ∷
    "   |-[ <unknown>:1:1 ]" ∷
    "   |" ∷
    " 1 | a" ∷
    "   | |  " ∷
    "   | `-- x" ∷
    "---'" ∷ [])
unfolding drawn
later_label_on_an_earlier_line_begins_a_group = refl

-- their order decides, and neither the sources nor the offsets
groups_of_two_sources_in_the_order_of_labels :
    picture (named "a" "second\nthird" ∷ named "b" "fourth\nfifth\nfirst" ∷ [])
    (report (record (label_in "b" 13 18 "1") { order = pos 1 }
    ∷ record (label_in "a" 0 6 "2") { order = pos 2 }
    ∷ record (label_in "a" 7 12 "3") { order = pos 3 } ∷ [])) ≡ rows (
    "Error: " ∷
    "   ,-[ b:3:1 ]" ∷
    "   |" ∷
    " 3 | first" ∷
    "   | ^^|^^  " ∷
    "   |   `---- 1" ∷
    "   |" ∷
    "   |-[ a:1:1 ]" ∷
    "   |" ∷
    " 1 | second" ∷
    "   | ^^^|^^  " ∷
    "   |    `---- 2" ∷
    " 2 | third" ∷
    "   | ^^|^^  " ∷
    "   |   `---- 3" ∷
    "---'" ∷ [])
unfolding drawn
groups_of_two_sources_in_the_order_of_labels = refl

-- the others are drawn as without it
label_of_an_unknown_source_is_left_out :
    picture (named "a" "second\nthird" ∷ named "b" "fourth\nfifth\nfirst" ∷ [])
    (report (record (label_in "b" 13 18 "1") { order = pos 1 }
    ∷ record (label_in "zz" 0 1 "q") { order = pos 2 }
    ∷ record (label_in "a" 0 6 "2") { order = pos 2 }
    ∷ record (label_in "a" 7 12 "3") { order = pos 3 } ∷ [])) ≡ rows (
    "Error: " ∷
    "   ,-[ b:3:1 ]" ∷
    "   |" ∷
    " 3 | first" ∷
    "   | ^^|^^  " ∷
    "   |   `---- 1" ∷
    "   |" ∷
    "   |-[ a:1:1 ]" ∷
    "   |" ∷
    " 1 | second" ∷
    "   | ^^^|^^  " ∷
    "   |    `---- 2" ∷
    " 2 | third" ∷
    "   | ^^|^^  " ∷
    "   |   `---- 3" ∷
    "---'" ∷ [])
unfolding drawn
label_of_an_unknown_source_is_left_out = refl

label_of_an_unknown_source_has_its_reason :
    left_out (named "a" "second\nthird" ∷ named "b" "fourth\nfifth\nfirst" ∷ [])
    (report (record (label_in "b" 13 18 "1") { order = pos 1 }
    ∷ record (label_in "zz" 0 1 "q") { order = pos 2 }
    ∷ record (label_in "a" 0 6 "2") { order = pos 2 }
    ∷ record (label_in "a" 7 12 "3") { order = pos 3 } ∷ []))
    ≡ None ∷ Some unfetched ∷ None ∷ None ∷ []
unfolding drawn
label_of_an_unknown_source_has_its_reason = refl

first_source_again_after_another :
    picture (named "a" "second\nthird" ∷ named "b" "fourth\nfifth\nfirst" ∷ [])
    (report (record (label_in "b" 13 18 "1") { order = pos 1 }
    ∷ record (label_in "a" 0 6 "2") { order = pos 2 }
    ∷ record (label_in "a" 7 12 "3") { order = pos 3 }
    ∷ record (label_in "b" 0 6 "4") { order = pos 4 }
    ∷ record (label_in "b" 7 12 "5") { order = pos 5 } ∷ [])) ≡ rows (
    "Error: " ∷
    "   ,-[ b:3:1 ]" ∷
    "   |" ∷
    " 3 | first" ∷
    "   | ^^|^^  " ∷
    "   |   `---- 1" ∷
    "   |" ∷
    "   |-[ a:1:1 ]" ∷
    "   |" ∷
    " 1 | second" ∷
    "   | ^^^|^^  " ∷
    "   |    `---- 2" ∷
    " 2 | third" ∷
    "   | ^^|^^  " ∷
    "   |   `---- 3" ∷
    "   |" ∷
    "   |-[ b:1:1 ]" ∷
    "   |" ∷
    " 1 | fourth" ∷
    "   | ^^^|^^  " ∷
    "   |    `---- 4" ∷
    " 2 | fifth" ∷
    "   | ^^|^^  " ∷
    "   |   `---- 5" ∷
    "---'" ∷ [])
unfolding drawn
first_source_again_after_another = refl

-- without a label that can be drawn the header is all
labels_in_one_unknown_source :
    picture (named "a" "ab" ∷ []) (report (label_in "b" 0 1 "m" ∷ [])) ≡ rows (
    "Error: " ∷ [])
unfolding drawn
labels_in_one_unknown_source = refl

labels_in_one_unknown_source_reasons :
    left_out (named "a" "ab" ∷ []) (report (label_in "b" 0 1 "m" ∷ [])) ≡ Some unfetched ∷ []
unfolding drawn
labels_in_one_unknown_source_reasons = refl

-- the report points into a third source, so the place is that of the group's first label
place_of_a_group_that_the_report_does_not_point_into :
    picture (named "x" "ab" ∷ [])
    (record (report (label_in "z" 0 1 "p" ∷ label_in "x" 0 1 "q" ∷ [])) { span = span_in "r" 0 0 })
    ≡ rows (
    "Error: " ∷
    "   ,-[ x:1:1 ]" ∷
    "   |" ∷
    " 1 | ab" ∷
    "   | |  " ∷
    "   | `-- q" ∷
    "---'" ∷ [])
unfolding drawn
place_of_a_group_that_the_report_does_not_point_into = refl

place_of_a_group_that_the_report_does_not_point_into_reasons :
    left_out (named "x" "ab" ∷ [])
    (record (report (label_in "z" 0 1 "p" ∷ label_in "x" 0 1 "q" ∷ [])) { span = span_in "r" 0 0 })
    ≡ Some unfetched ∷ None ∷ []
unfolding drawn
place_of_a_group_that_the_report_does_not_point_into_reasons = refl

-- each of two neighbours has its own bar
labels_of_two_neighbours :
    picture (named "x" "ab" ∷ []) (record (report (label_in "x" 0 1 "p" ∷ label_in "x" 1 2 "q" ∷ [])) { span = span_in "x" 0 0 })
    ≡ rows (
    "Error: " ∷
    "   ,-[ x:1:1 ]" ∷
    "   |" ∷
    " 1 | ab" ∷
    "   | ||  " ∷
    "   | `--- p" ∷
    "   |  |  " ∷
    "   |  `-- q" ∷
    "---'" ∷ [])
unfolding drawn
labels_of_two_neighbours = refl

-- a source that is called as its path
text_of_a_file :
    picture (named "f.txt" "ab" ∷ []) (record (titled "m" (label_in "f.txt" 0 2 "x" ∷ [])) { span = span_in "f.txt" 0 2 })
    ≡ rows (
    "Error: m" ∷
    "   ,-[ f.txt:1:1 ]" ∷
    "   |" ∷
    " 1 | ab" ∷
    "   | ^|  " ∷
    "   |  `-- x" ∷
    "---'" ∷ [])
unfolding drawn
text_of_a_file = refl

-- a display offset counts in the place and in the margin
shifted_line_numbers_widen_the_margin :
    picture (shown_from 98 (nameless "" "a\nb") ∷ []) (record (report (label 2 3 "y" ∷ [])) { span = span 2 2 })
    ≡ rows (
    "Error: " ∷
    "     ,-[ <unknown>:100:1 ]" ∷
    "     |" ∷
    " 100 | b" ∷
    "     | |  " ∷
    "     | `-- y" ∷
    "-----'" ∷ [])
unfolding drawn
shifted_line_numbers_widen_the_margin = refl

greatest_line_number :
    picture (shown_from 18446744073709551614 (nameless "" "b") ∷ []) (report (label 0 1 "y" ∷ []))
    ≡ rows (
    "Error: " ∷
    "                      ,-[ <unknown>:18446744073709551615:1 ]" ∷
    "                      |" ∷
    " 18446744073709551615 | b" ∷
    "                      | |  " ∷
    "                      | `-- y" ∷
    "----------------------'" ∷ [])
unfolding drawn
greatest_line_number = refl

-- labels of two files in one report: in the second the longer label passes over two lines
brackets_of_two_files :
    picture (named "a.txt" "(]" ∷ named "b.txt" "f(x\n]\n" ∷ [])
    (record (titled "unbalanced brackets"
    (label_in "a.txt" 0 1 "opened here"
    ∷ label_in "a.txt" 0 2 "closed by another bracket here"
    ∷ label_in "b.txt" 1 2 "opened here"
    ∷ label_in "b.txt" 1 5 "closed by another bracket here" ∷ [])) { span = span_in "a.txt" 0 1 })
    ≡ rows (
    "Error: unbalanced brackets" ∷
    "   ,-[ a.txt:1:1 ]" ∷
    "   |" ∷
    " 1 | (]" ∷
    "   | ||  " ∷
    "   | `--- opened here" ∷
    "   |  |  " ∷
    "   |  `-- closed by another bracket here" ∷
    "   |" ∷
    "   |-[ b.txt:1:2 ]" ∷
    "   |" ∷
    " 1 | ,-> f(x" ∷
    "   | |    |  " ∷
    "   | |    `-- opened here" ∷
    " 2 | |-> ]" ∷
    "   | |       " ∷
    "   | `------- closed by another bracket here" ∷
    "---'" ∷ [])
unfolding drawn
brackets_of_two_files = refl

-- its first fetch failed: the label is left out, and the other is drawn
source_that_comes_at_the_second_label :
    let entries = named "x" "ab" ∷ [] in
    let r = record (report (label_in "x" 0 1 "p" ∷ label_in "x" 1 2 "q" ∷ [])) { span = span_in "x" 0 0 } in
    picture_of (drop 1 (accepted (world entries) r)) entries r ≡ rows (
    "Error: " ∷
    "   ,-[ x:1:1 ]" ∷
    "   |" ∷
    " 1 | ab" ∷
    "   |  |  " ∷
    "   |  `-- q" ∷
    "---'" ∷ [])
unfolding drawn
source_that_comes_at_the_second_label = refl

sources_that_never_come :
    picture [] (record (report (label_in "x" 0 1 "p" ∷ label_in "x" 1 2 "q" ∷ [])) { span = span_in "x" 0 0 })
    ≡ rows (
    "Error: " ∷ [])
unfolding drawn
sources_that_never_come = refl

-- also in byte mode: the label begins at byte 3, which is character 2 and the first of line 2
place_of_a_first_label_counts_characters :
    picture (named "x" "é\nb" ∷ []) (record (report (label_in "x" 3 4 "m" ∷ []))
    { span = span_in "r" 0 0; config = byte_config }) ≡ rows (
    "Error: " ∷
    "   ,-[ x:2:1 ]" ∷
    "   |" ∷
    " 2 | b" ∷
    "   | |  " ∷
    "   | `-- m" ∷
    "---'" ∷ [])
unfolding drawn
place_of_a_first_label_counts_characters = refl

file_that_is_not_there :
    picture [] (record (titled "m" (label_in "g.txt" 0 2 "x" ∷ [])) { span = span_in "g.txt" 0 2 })
    ≡ rows (
    "Error: m" ∷ [])
unfolding drawn
file_that_is_not_there = refl

file_that_is_not_there_reasons :
    left_out [] (record (titled "m" (label_in "g.txt" 0 2 "x" ∷ [])) { span = span_in "g.txt" 0 2 }) ≡ Some unfetched ∷ []
unfolding drawn
file_that_is_not_there_reasons = refl
