-- The clause on other strokes in the gutter, by computation: it holds on finished pictures, by the placing that the names of
-- their rows give, and alone refuses pictures with a stroke in the gutter that no label has there.
use Rattle.std.specs.Prelude.{◌≡◌, Bool, true, false, refl, [], ◌∷◌, List}
use Rattle.ariadne_picture.specs.Report.{ConfigFields}
use Rattle.ariadne_worked.proofs.Sample.{one, label, report, configured, ascii_config, compact_config, unicode_config}
use Rattle.ariadne_worked.proofs.Readings.{nested}
use Rattle.ariadne_worked.proofs.Changes.{Rows, as_drawn, shows, gutter_verdicts_behind, judged}

-- all other clauses, no other strokes in the gutter
abbrev all_hold : List Bool
all_hold = true ∷ true ∷ []

-- only the last one refuses it
abbrev stray : List Bool
stray = true ∷ false ∷ []

-- ---- the pictures: a group of one line stands in front of each, and isn't counted

unfoldable of_nested : (Rows → Rows) → List Bool
of_nested = gutter_verdicts_behind (one "aa\nbb\ncc") nested

unfoldable nested_in : ConfigFields → (Rows → Rows) → List Bool
nested_in config = gutter_verdicts_behind (one "aa\nbb\ncc") (configured config (label 1 4 "mid" ∷ label 0 8 "all" ∷ []))

-- a label that starts at the margin and ends below, and one that starts below and ends at the margin
unfoldable crossed_in : ConfigFields → (Rows → Rows) → List Bool
crossed_in config = gutter_verdicts_behind (one "aa\nbb\ncc") (configured config (label 0 8 "far" ∷ label 1 7 "near" ∷ []))

-- one label below the other, each with a column of its own
unfoldable of_falling : (Rows → Rows) → List Bool
of_falling = gutter_verdicts_behind (one "aa\nbb\ncc\ndd\nee") (report (label 0 8 "up" ∷ label 9 13 "down" ∷ []))

-- a bar stands in the way from the margin to the line beside which the outer label ends
unfoldable of_barred : (Rows → Rows) → List Bool
of_barred = gutter_verdicts_behind (one "aa\nbb\ncc\ndd") (report (label 0 8 "far" ∷ label 4 11 "near" ∷ []))

unfoldable crossing : ConfigFields
crossing = record ascii_config { cross_gap = false }

unfoldable computed : Unit {0}
unfolding judged nested of_nested nested_in crossed_in of_falling of_barred crossing
computed = tt

-- ---- finished pictures

nested_labels : of_nested as_drawn ≡ all_hold
unfolding computed
nested_labels = refl

nested_labels_in_unicode : nested_in unicode_config as_drawn ≡ all_hold
unfolding computed
nested_labels_in_unicode = refl

nested_labels_in_compact_form : nested_in compact_config as_drawn ≡ all_hold
unfolding computed
nested_labels_in_compact_form = refl

crossed_labels : crossed_in unicode_config as_drawn ≡ all_hold
unfolding computed
crossed_labels = refl

labels_that_cross : crossed_in crossing as_drawn ≡ all_hold
unfolding computed
labels_that_cross = refl

falling_labels : of_falling as_drawn ≡ all_hold
unfolding computed
falling_labels = refl

a_bar_before_an_arrow_head : of_barred as_drawn ≡ all_hold
unfolding computed
a_bar_before_an_arrow_head = refl

-- ---- strokes that no label has there: the other clauses let them through

a_level_above_a_head : of_nested (shows 4 5 "-") ≡ stray
unfolding computed
a_level_above_a_head = refl

a_level_below_a_message : of_nested (shows 10 5 "-") ≡ stray
unfolding computed
a_level_below_a_message = refl

a_level_beside_a_bar : of_nested (shows 4 4 "-") ≡ stray
unfolding computed
a_level_beside_a_bar = refl

a_level_in_the_column_of_arrow_heads : of_nested (shows 4 7 "-") ≡ stray
unfolding computed
a_level_in_the_column_of_arrow_heads = refl

an_arrow_head_below_a_line : of_nested (shows 7 7 ">") ≡ stray
unfolding computed
an_arrow_head_below_a_line = refl

a_level_behind_an_arrow_head : of_nested (shows 3 8 "-") ≡ stray
unfolding computed
a_level_behind_an_arrow_head = refl

a_letter_behind_a_bar_before_an_arrow_head : of_barred (shows 5 6 "x") ≡ stray
unfolding computed
a_letter_behind_a_bar_before_an_arrow_head = refl

a_level_in_front_of_a_head : of_falling (shows 8 3 "-") ≡ stray
unfolding computed
a_level_in_front_of_a_head = refl

a_tee_beside_a_line_where_its_label_goes_on : nested_in unicode_config (shows 6 3 "├") ≡ stray
unfolding computed
a_tee_beside_a_line_where_its_label_goes_on = refl

a_level_beside_a_line_where_its_label_ends_below : crossed_in unicode_config (shows 7 4 "─") ≡ stray
unfolding computed
a_level_beside_a_line_where_its_label_ends_below = refl
