-- Row numbers that a picture can't be read by, by computation: the verdicts of all six clauses. Beside each stand the
-- numbers that are right, so what is refused is one wrong choice.
use Rattle.std.specs.Prelude.{ℕ, ◌≡◌, Bool, true, false, refl, [], ◌∷◌, ◌++◌, List, take, drop, slice_index_or, ◌==◌, if◌then◌else◌}
use Rattle.ariadne_picture.specs.Placing.Rows.{Placing}
use Rattle.ariadne_worked.proofs.Sample.{one, label, silent_label, report}
use Rattle.ariadne_worked.proofs.Readings.{choose, nested, nested_placing}
use Rattle.ariadne_worked.proofs.Changes.{Rows, as_drawn, on_row, shows, verdicts_by, verdicts_behind_by, further_verdicts_by, all_hold, not_placed, judged}

-- the starts of the groups, the source rows of each, the length of the block of each line, and the message rows. No label
-- is over several lines, and a row below a line has three places
unfoldable numbers : List ℕ → List (List ℕ) → List ℕ → List ℕ → Placing
numbers starts source_rows blocks message_rows = record {
  start = λ g. slice_index_or starts g 0;
  source_row = λ g l. slice_index_or (slice_index_or source_rows g []) l 0;
  block_len = λ g l. slice_index_or blocks l 0;
  places = λ g l. 3;
  message_row = λ k. slice_index_or message_rows k 0;
  head_row = λ g i. 0;
}

unfoldable computed : Unit {0}
unfolding judged choose nested nested_placing numbers
computed = tt

-- ---- a group that begins a row late, so that its header belongs to none

the_group_begins_behind_the_header : verdicts_by nested_placing (one "aa\nbb\ncc") nested as_drawn ≡ all_hold
unfolding computed
the_group_begins_behind_the_header = refl

a_group_that_begins_a_row_late : verdicts_by (record nested_placing { start = λ g. slice_index_or (2 ∷ 13 ∷ []) g 0 }) (one "aa\nbb\ncc") nested as_drawn
    ≡ not_placed
unfolding computed
a_group_that_begins_a_row_late = refl

-- ---- labels with one message in one place, and a picture that shows the message in fewer rows than there are labels

unfoldable of_equal_labels : Placing → (Rows → Rows) → List Bool
of_equal_labels p = verdicts_by p (one "a") (report (label 0 1 "m" ∷ label 0 1 "m" ∷ []))

unfoldable of_three_equal_labels : Placing → (Rows → Rows) → List Bool
of_three_equal_labels p = verdicts_by p (one "a") (report (label 0 1 "m" ∷ label 0 1 "m" ∷ label 0 1 "m" ∷ []))

two_labels_have_two_rows : of_equal_labels (numbers (1 ∷ 9 ∷ []) ((3 ∷ []) ∷ []) (4 ∷ []) (5 ∷ 7 ∷ [])) as_drawn ≡ all_hold
unfolding computed of_equal_labels
two_labels_have_two_rows = refl

two_labels_in_one_row : of_equal_labels (numbers (1 ∷ 7 ∷ []) ((3 ∷ []) ∷ []) (2 ∷ []) (5 ∷ 5 ∷ [])) (λ rows. take 6 rows ++ drop 8 rows) ≡ not_placed
unfolding computed of_equal_labels
two_labels_in_one_row = refl

the_first_label_and_the_third_in_one_row : of_three_equal_labels (numbers (1 ∷ 9 ∷ []) ((3 ∷ []) ∷ []) (4 ∷ []) (5 ∷ 7 ∷ 5 ∷ []))
    (λ rows. take 8 rows ++ drop 10 rows) ≡ not_placed
unfolding computed of_three_equal_labels
the_first_label_and_the_third_in_one_row = refl

-- ---- two lines with one text, and labels on them with one message. From here on a group of one line stands in front, whose
-- rows and label aren't counted; but for lines whose labels have no message

unfoldable of_equal_lines : Placing → (Rows → Rows) → List Bool
of_equal_lines p = verdicts_behind_by p (one "a\na") (report (label 0 1 "m" ∷ label 2 3 "m" ∷ []))

each_line_has_its_own_row : of_equal_lines (numbers (1 ∷ 10 ∷ []) ((3 ∷ 6 ∷ []) ∷ []) (2 ∷ 2 ∷ []) (5 ∷ 8 ∷ [])) as_drawn ≡ all_hold
unfolding computed of_equal_lines
each_line_has_its_own_row = refl

-- each message stands below the other label's line, and behind a row of another block
messages_that_change_places : of_equal_lines (numbers (1 ∷ 10 ∷ []) ((3 ∷ 6 ∷ []) ∷ []) (2 ∷ 2 ∷ []) (8 ∷ 5 ∷ [])) as_drawn
    ≡ false ∷ false ∷ true ∷ true ∷ true ∷ true ∷ []
unfolding computed of_equal_lines
messages_that_change_places = refl

lines_that_change_places : of_equal_lines (numbers (1 ∷ 10 ∷ []) ((6 ∷ 3 ∷ []) ∷ []) (2 ∷ 2 ∷ []) (8 ∷ 5 ∷ []))
    (λ rows. take 3 rows ++ take 3 (drop 6 rows) ++ take 3 (drop 3 rows) ++ drop 9 rows) ≡ not_placed
unfolding computed of_equal_lines
lines_that_change_places = refl

-- ---- two groups over the same lines, with the same messages

unfoldable of_equal_groups : Placing → List Bool
of_equal_groups p =
    verdicts_behind_by p (one "a\nb") (report (label 0 1 "m" ∷ label 2 3 "n" ∷ label 0 1 "m" ∷ label 2 3 "n" ∷ [])) as_drawn

each_group_has_its_own_rows : of_equal_groups
    (numbers (1 ∷ 10 ∷ 19 ∷ []) ((3 ∷ 6 ∷ []) ∷ (12 ∷ 15 ∷ []) ∷ []) (2 ∷ 2 ∷ []) (5 ∷ 8 ∷ 14 ∷ 17 ∷ [])) ≡ all_hold
unfolding computed of_equal_groups
each_group_has_its_own_rows = refl

each_group_in_the_rows_of_the_other : of_equal_groups
    (numbers (1 ∷ 10 ∷ 19 ∷ []) ((12 ∷ 15 ∷ []) ∷ (3 ∷ 6 ∷ []) ∷ []) (2 ∷ 2 ∷ []) (14 ∷ 17 ∷ 5 ∷ 8 ∷ [])) ≡ not_placed
unfolding computed of_equal_groups
each_group_in_the_rows_of_the_other = refl

-- ---- a line whose label has no message, and a bare row below it that stands for the next line

unfoldable of_silent_line : ℕ → List Bool
of_silent_line size =
    further_verdicts_by
    (record (numbers (1 ∷ 9 ∷ []) ((3 ∷ 0 ∷ 5 ∷ []) ∷ []) (size ∷ 0 ∷ 2 ∷ []) (0 ∷ 7 ∷ [])) { places = λ g l. if l == 0 then 0 else 3 })
    (one "a\nb\nc") (report (silent_label 0 1 ∷ label 4 5 "m" ∷ [])) as_drawn

its_block_is_empty : of_silent_line 0 ≡ true ∷ true ∷ true ∷ []
unfolding computed of_silent_line
its_block_is_empty = refl

-- only the clause on blocks refuses this
its_block_is_the_bare_row : of_silent_line 1 ≡ true ∷ false ∷ true ∷ []
unfolding computed of_silent_line
its_block_is_the_bare_row = refl

-- the same in the second group
unfoldable of_later_line : ℕ → List Bool
of_later_line size =
    further_verdicts_by
    (record (numbers (1 ∷ 11 ∷ 19 ∷ []) ((3 ∷ 0 ∷ 7 ∷ []) ∷ (13 ∷ 0 ∷ 15 ∷ []) ∷ []) [] (5 ∷ 9 ∷ 0 ∷ 17 ∷ [])) {
      block_len = λ g l. slice_index_or ((if g == 0 then 2 else size) ∷ 0 ∷ 2 ∷ []) l 0;
      places = λ g l. if g == 0 then 3 else if l == 0 then 0 else 3;
    })
    (one "a\nb\nc") (report (label 0 1 "m" ∷ label 4 5 "n" ∷ silent_label 0 1 ∷ label 4 5 "n" ∷ [])) as_drawn

its_later_block_is_empty : of_later_line 0 ≡ true ∷ true ∷ true ∷ []
unfolding computed of_later_line
its_later_block_is_empty = refl

its_later_block_is_the_bare_row : of_later_line 1 ≡ true ∷ false ∷ true ∷ []
unfolding computed of_later_line
its_later_block_is_the_bare_row = refl

-- ---- what one condition alone refuses

-- the second line and the third, of one text, change places
unfoldable of_three_lines : List ℕ → List ℕ → (Rows → Rows) → List Bool
of_three_lines source_rows message_rows =
    verdicts_behind_by (numbers (1 ∷ 13 ∷ []) (source_rows ∷ []) (2 ∷ 2 ∷ 2 ∷ []) message_rows) (one "a\na\na")
    (report (label 0 1 "m" ∷ label 2 3 "m" ∷ label 4 5 "m" ∷ []))

each_of_three_lines_has_its_own_row : of_three_lines (3 ∷ 6 ∷ 9 ∷ []) (5 ∷ 8 ∷ 11 ∷ []) as_drawn ≡ all_hold
unfolding computed of_three_lines
each_of_three_lines_has_its_own_row = refl

later_lines_that_change_places : of_three_lines (3 ∷ 9 ∷ 6 ∷ []) (5 ∷ 11 ∷ 8 ∷ [])
    (λ rows. take 6 rows ++ take 3 (drop 9 rows) ++ take 3 (drop 6 rows) ++ drop 12 rows) ≡ not_placed
unfolding computed of_three_lines
later_lines_that_change_places = refl

the_second_label_and_the_third_in_one_row : of_three_equal_labels (numbers (1 ∷ 9 ∷ []) ((3 ∷ []) ∷ []) (4 ∷ []) (5 ∷ 7 ∷ 7 ∷ []))
    (λ rows. take 8 rows ++ drop 10 rows) ≡ not_placed
unfolding computed of_three_equal_labels
the_second_label_and_the_third_in_one_row = refl

-- the second group begins below the rows of its first line, or within the block of the last line of the first one
a_group_that_begins_below_its_first_line : of_equal_groups
    (numbers (1 ∷ 13 ∷ 19 ∷ []) ((3 ∷ 6 ∷ []) ∷ (12 ∷ 15 ∷ []) ∷ []) (2 ∷ 2 ∷ []) (5 ∷ 8 ∷ 14 ∷ 17 ∷ [])) ≡ not_placed
unfolding computed of_equal_groups
a_group_that_begins_below_its_first_line = refl

a_group_that_begins_in_a_block_of_the_other : of_equal_groups
    (numbers (1 ∷ 8 ∷ 19 ∷ []) ((3 ∷ 6 ∷ []) ∷ (12 ∷ 15 ∷ []) ∷ []) (2 ∷ 2 ∷ []) (5 ∷ 8 ∷ 14 ∷ 17 ∷ [])) ≡ not_placed
unfolding computed of_equal_groups
a_group_that_begins_in_a_block_of_the_other = refl

-- the same where the first line of the second group has no block
unfoldable of_silent_group : ℕ → List Bool
of_silent_group start =
    verdicts_behind_by
    (record (numbers (1 ∷ start ∷ 17 ∷ []) ((3 ∷ 6 ∷ []) ∷ (12 ∷ 13 ∷ []) ∷ []) [] (5 ∷ 8 ∷ 0 ∷ 15 ∷ [])) {
      block_len = λ g l. if g == 1 then slice_index_or (0 ∷ 2 ∷ []) l 0 else 2;
    })
    (one "a\nb") (report (label 0 1 "m" ∷ label 2 3 "n" ∷ silent_label 0 1 ∷ label 2 3 "n" ∷ [])) as_drawn

a_line_without_block_in_its_group : of_silent_group 10 ≡ all_hold
unfolding computed of_silent_group
a_line_without_block_in_its_group = refl

a_line_without_block_before_its_group : of_silent_group 13 ≡ not_placed
unfolding computed of_silent_group
a_line_without_block_before_its_group = refl

-- two groups that show no line, of which the second ends before it begins
unfoldable of_hidden_groups : ℕ → List Bool
of_hidden_groups start =
    verdicts_behind_by (numbers (1 ∷ start ∷ 9 ∷ []) [] [] []) (one "a\nb\nc") (report (silent_label 2 5 ∷ silent_label 0 3 ∷ [])) as_drawn

groups_that_show_no_line : of_hidden_groups 5 ≡ all_hold
unfolding computed of_hidden_groups
groups_that_show_no_line = refl

a_group_that_ends_before_it_begins : of_hidden_groups 10 ≡ not_placed
unfolding computed of_hidden_groups
a_group_that_ends_before_it_begins = refl

-- a message below its block, and one in rows that were moved above its line
a_message_below_its_block : of_equal_lines (numbers (1 ∷ 10 ∷ []) ((3 ∷ 6 ∷ []) ∷ []) (2 ∷ 1 ∷ []) (5 ∷ 8 ∷ [])) as_drawn ≡ not_placed
unfolding computed of_equal_lines
a_message_below_its_block = refl

unfoldable of_silent_above : Placing → (Rows → Rows) → List Bool
of_silent_above p = verdicts_behind_by p (one "a\na") (report (silent_label 0 1 ∷ label 2 3 "m" ∷ []))

a_message_below_its_line : of_silent_above (numbers (1 ∷ 8 ∷ []) ((3 ∷ 4 ∷ []) ∷ []) (0 ∷ 2 ∷ []) (0 ∷ 6 ∷ [])) as_drawn ≡ all_hold
unfolding computed of_silent_above
a_message_below_its_line = refl

a_message_above_its_line : of_silent_above (numbers (1 ∷ 8 ∷ []) ((3 ∷ 6 ∷ []) ∷ []) [] (0 ∷ 5 ∷ []))
    (λ rows. take 4 rows ++ take 2 (drop 5 rows) ++ take 1 (drop 4 rows) ++ drop 7 rows) ≡ not_placed
unfolding computed of_silent_above
a_message_above_its_line = refl

-- a head below its block, and one of a label that starts at the margin, moved from its line into the gap row below
a_head_below_its_block : verdicts_behind_by (record nested_placing { block_len = λ g l. if l == 0 then 1 else 2 }) (one "aa\nbb\ncc") nested as_drawn ≡ not_placed
unfolding computed
a_head_below_its_block = refl

unfoldable of_gap : ℕ → (Rows → Rows) → List Bool
of_gap head =
    verdicts_behind_by (record (numbers (1 ∷ 9 ∷ []) ((3 ∷ 0 ∷ 5 ∷ []) ∷ []) (0 ∷ 0 ∷ 2 ∷ []) (7 ∷ [])) { places = λ g l. 4; head_row = λ g i. head })
    (one "ab\ncd\nef")
    (report (label 0 8 "over" ∷ []))

a_head_at_its_line : of_gap 3 as_drawn ≡ all_hold
unfolding computed of_gap
a_head_at_its_line = refl

a_head_in_the_gap_row_below_its_line : of_gap 4 (λ rows. shows 4 3 "," (shows 4 4 "-" (shows 4 5 ">" (shows 3 3 " " (shows 3 5 " " rows)))))
    ≡ not_placed
unfolding computed of_gap
a_head_in_the_gap_row_below_its_line = refl

-- rows below a line that end before the place of a label, which has no cell: the text is e, U+0301, x
unfoldable of_accent : ℕ → (Rows → Rows) → List Bool
of_accent places =
    verdicts_behind_by (record (numbers (1 ∷ 7 ∷ []) ((3 ∷ []) ∷ []) (2 ∷ []) (5 ∷ [])) { places = λ g l. places }) (one "éx")
    (report (label 1 2 "m" ∷ []))

a_place_without_cell_in_its_row : of_accent 4 as_drawn ≡ all_hold
unfolding computed of_accent
a_place_without_cell_in_its_row = refl

a_place_without_cell_behind_its_row : of_accent 1 (λ rows. on_row 4 (take 4) (on_row 5 (λ row. take 4 row ++ drop 6 row) rows))
    ≡ true ∷ true ∷ false ∷ true ∷ true ∷ true ∷ []
unfolding computed of_accent
a_place_without_cell_behind_its_row = refl

-- ---- a label that begins beside its line, and has its head in the row below

unfoldable of_headed : (ℕ → ℕ → ℕ) → (Rows → Rows) → List Bool
of_headed head_row =
    verdicts_by (record {
      start = λ g. slice_index_or (1 ∷ 10 ∷ []) g 0;
      source_row = λ g l. slice_index_or (3 ∷ 6 ∷ []) l 0;
      block_len = λ g l. 2;
      places = λ g l. slice_index_or (3 ∷ 4 ∷ []) l 0;
      message_row = λ k. slice_index_or (5 ∷ 8 ∷ []) k 0;
      head_row = head_row;
    }) (one "aa\nbb") (report (label 0 1 "y" ∷ label 0 5 "x" ∷ []))

its_head_stands_beside_its_line : of_headed (λ g i. 3) as_drawn ≡ all_hold
unfolding computed of_headed
its_head_stands_beside_its_line = refl

its_head_stands_in_the_row_below : of_headed (λ g i. 4) (λ rows. shows 3 3 " " (shows 4 3 "," (shows 4 4 "-" (shows 4 5 ">" rows)))) ≡ not_placed
unfolding computed of_headed
its_head_stands_in_the_row_below = refl
