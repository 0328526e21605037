-- Pictures of labels over several lines, with their bars in the gutter.
use Rattle.std.specs.Prelude.{◌≡◌, refl, ◌∷◌, [], false}
use Rattle.ariadne_worked.proofs.Sample.{drawn, picture, rows, one, named, span_in, silent_label, label_in, label, ascii_config}
use Rattle.ariadne_worked.proofs.Sample.{compact_config, report, titled, configured}

-- the line between its ends is left out
label_over_three_lines :
    picture (one "apple\n==\norange") (report (label 0 15 "illegal comparison" ∷ [])) ≡ rows (
    "Error: " ∷
    "   ,-[ <unknown>:1:1 ]" ∷
    "   |" ∷
    " 1 | ,-> apple" ∷
    "   : :   " ∷
    " 3 | |-> orange" ∷
    "   | |           " ∷
    "   | `----------- illegal comparison" ∷
    "---'" ∷ [])
unfolding drawn
label_over_three_lines = refl

-- the longer label has the outer column; the other's arrow head leads to its first character
nested_labels_over_lines :
    picture (one "aa\nbb\ncc") (report (label 1 4 "mid" ∷ label 0 8 "all" ∷ [])) ≡ rows (
    "Error: " ∷
    "   ,-[ <unknown>:1:1 ]" ∷
    "   |" ∷
    " 1 | ,---> aa" ∷
    "   | |      ^   " ∷
    "   | | ,----'   " ∷
    " 2 | | |-> bb" ∷
    "   | | |        " ∷
    "   | | `-------- mid" ∷
    " 3 | |---> cc" ∷
    "   | |         " ∷
    "   | `--------- all" ∷
    "---'" ∷ [])
unfolding drawn
nested_labels_over_lines = refl

-- the label that ends earlier comes later, and so begins a group
nested_labels_in_two_groups :
    picture (one "aa\nbb\ncc") (report (label 0 8 "all" ∷ label 1 4 "mid" ∷ [])) ≡ rows (
    "Error: " ∷
    "   ,-[ <unknown>:1:1 ]" ∷
    "   |" ∷
    " 1 | ,-> aa" ∷
    "   : :   " ∷
    " 3 | |-> cc" ∷
    "   | |       " ∷
    "   | `------- all" ∷
    "   |" ∷
    "   |-[ <unknown>:1:1 ]" ∷
    "   |" ∷
    " 1 | ,-> aa" ∷
    " 2 | |-> bb" ∷
    "   | |        " ∷
    "   | `-------- mid" ∷
    "---'" ∷ [])
unfolding drawn
nested_labels_in_two_groups = refl

nested_labels_without_arrow_heads_below_the_text :
    picture (one "aa\nbb\ncc") (configured (record ascii_config { multiline_arrows = false }) (label 1 4 "mid" ∷ label 0 8 "all" ∷ []))
    ≡ rows (
    "Error: " ∷
    "   ,-[ <unknown>:1:1 ]" ∷
    "   |" ∷
    " 1 | ,---> aa" ∷
    "   | |      |   " ∷
    "   | | ,----'   " ∷
    " 2 | | |-> bb" ∷
    "   | | |        " ∷
    "   | | `-------- mid" ∷
    " 3 | |---> cc" ∷
    "   | |         " ∷
    "   | `--------- all" ∷
    "---'" ∷ [])
unfolding drawn
nested_labels_without_arrow_heads_below_the_text = refl

nested_labels_in_compact_form :
    picture (one "aa\nbb\ncc") (configured compact_config (label 1 4 "mid" ∷ label 0 8 "all" ∷ []))
    ≡ rows (
    "Error: " ∷
    "   ,-[ <unknown>:1:1 ]" ∷
    " 1 |,->aa" ∷
    "   ||,--'  " ∷
    " 2 |||>bb" ∷
    "   ||`----- mid" ∷
    " 3 ||->cc" ∷
    "   |`----- all" ∷ [])
unfolding drawn
nested_labels_in_compact_form = refl

-- with no gap where strokes cross
crossing_labels_over_lines :
    picture (one "ab\ncd") (configured (record ascii_config { cross_gap = false }) (label 0 4 "A" ∷ label 1 5 "B" ∷ []))
    ≡ rows (
    "Error: " ∷
    "   ,-[ <unknown>:1:1 ]" ∷
    "   |" ∷
    " 1 | ,---> ab" ∷
    "   | |      ^   " ∷
    "   | | ,----'   " ∷
    " 2 | |-| > cd" ∷
    "   | | |    ^  " ∷
    "   | `-+----+-- A" ∷
    "   |   |    |  " ∷
    "   |   `----^-- B" ∷
    "---'" ∷ [])
unfolding drawn
crossing_labels_over_lines = refl

-- the horizontal alone is seen where strokes cross
crossing_labels_over_lines_with_gaps :
    picture (one "ab\ncd") (report (label 0 4 "A" ∷ label 1 5 "B" ∷ [])) ≡ rows (
    "Error: " ∷
    "   ,-[ <unknown>:1:1 ]" ∷
    "   |" ∷
    " 1 | ,---> ab" ∷
    "   | |      ^   " ∷
    "   | | ,----'   " ∷
    " 2 | |-| > cd" ∷
    "   | | |    ^  " ∷
    "   | `--------- A" ∷
    "   |   |    |  " ∷
    "   |   `----^-- B" ∷
    "---'" ∷ [])
unfolding drawn
crossing_labels_over_lines_with_gaps = refl

-- no bar stands beside line 1, and the gutter has its room there
bar_begins_on_the_first_line_of_its_label :
    picture (one "a\nb\nc") (report (label 0 1 "x" ∷ label 2 5 "y" ∷ [])) ≡ rows (
    "Error: " ∷
    "   ,-[ <unknown>:1:1 ]" ∷
    "   |" ∷
    " 1 |     a" ∷
    "   |     |  " ∷
    "   |     `-- x" ∷
    " 2 | ,-> b" ∷
    " 3 | |-> c" ∷
    "   | |      " ∷
    "   | `------ y" ∷
    "---'" ∷ [])
unfolding drawn
bar_begins_on_the_first_line_of_its_label = refl

-- it has no gutter, and the row in place of its lines is broken
long_label_without_message :
    picture (one "a\nb\nc") (report (silent_label 0 5 ∷ [])) ≡ rows (
    "Error: " ∷
    "   ,-[ <unknown>:1:1 ]" ∷
    "   |" ∷
    "   : " ∷
    "---'" ∷ [])
unfolding drawn
long_label_without_message = refl

-- each run of hidden lines has its own row
long_label_without_message_around_another :
    picture (one "a\nb\nc") (report (label 2 3 "m" ∷ silent_label 0 5 ∷ [])) ≡ rows (
    "Error: " ∷
    "   ,-[ <unknown>:1:1 ]" ∷
    "   |" ∷
    "   : " ∷
    " 2 | b" ∷
    "   | |  " ∷
    "   | `-- m" ∷
    "   : " ∷
    "---'" ∷ [])
unfolding drawn
long_label_without_message_around_another = refl

-- every part of a picture: header, group header, margin, gutter, underline, arrows, gap row and tail
label_in_a_line_inside_one_over_lines :
    picture (named "stock.sql" "SELECT name, prise\nFROM fruit\nWHERE price < 2\n" ∷ [])
    (record (titled "unknown column"
    (label_in "stock.sql" 13 18 "not in `fruit`" ∷ label_in "stock.sql" 0 45 "in this query" ∷ []))
    { span = span_in "stock.sql" 13 18 }) ≡ rows (
    "Error: unknown column" ∷
    "   ,-[ stock.sql:1:14 ]" ∷
    "   |" ∷
    " 1 | ,-> SELECT name, prise" ∷
    "   | |                ^^|^^  " ∷
    "   | |                  `---- not in `fruit`" ∷
    "   : :   " ∷
    " 3 | |-> WHERE price < 2" ∷
    "   | |                     " ∷
    "   | `--------------------- in this query" ∷
    "---'" ∷ [])
unfolding drawn
label_in_a_line_inside_one_over_lines = refl
