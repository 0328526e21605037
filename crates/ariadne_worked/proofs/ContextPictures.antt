-- Pictures that show lines without labels near those that have some.
use Rattle.std.specs.Prelude.{ℕ, ◌≡◌, refl, ◌∷◌, [], true}
use Rattle.ariadne_picture.specs.Report.{ConfigFields}
use Rattle.ariadne_worked.proofs.Sample.{drawn, picture, rows, one, label, ascii_config, configured}

unfoldable near : ℕ → ConfigFields
near n = record ascii_config { context_lines = n }

-- one line behind the first and one before the last
context_inside_a_label_over_lines :
    picture (one "a\nb\nc\nd\ne\nf\ng") (configured (near 1) (label 0 13 "all" ∷ [])) ≡ rows (
    "Error: " ∷
    "   ,-[ <unknown>:1:1 ]" ∷
    "   |" ∷
    " 1 | ,-> a" ∷
    " 2 | |   b" ∷
    "   : :   " ∷
    " 6 | |   f" ∷
    " 7 | |-> g" ∷
    "   | |      " ∷
    "   | `------ all" ∷
    "---'" ∷ [])
unfolding drawn near
context_inside_a_label_over_lines = refl

context_between_two_lines :
    picture (one "a\nb\nc\nd\ne") (configured (near 1) (label 0 1 "x" ∷ label 8 9 "y" ∷ [])) ≡ rows (
    "Error: " ∷
    "   ,-[ <unknown>:1:1 ]" ∷
    "   |" ∷
    " 1 | a" ∷
    "   | |  " ∷
    "   | `-- x" ∷
    " 2 | b" ∷
    "   | " ∷
    " 4 | d" ∷
    " 5 | e" ∷
    "   | |  " ∷
    "   | `-- y" ∷
    "---'" ∷ [])
unfolding drawn near
context_between_two_lines = refl

-- two lines leave nothing hidden
context_that_meets :
    picture (one "a\nb\nc\nd\ne") (configured (near 2) (label 0 1 "x" ∷ label 8 9 "y" ∷ [])) ≡ rows (
    "Error: " ∷
    "   ,-[ <unknown>:1:1 ]" ∷
    "   |" ∷
    " 1 | a" ∷
    "   | |  " ∷
    "   | `-- x" ∷
    " 2 | b" ∷
    " 3 | c" ∷
    " 4 | d" ∷
    " 5 | e" ∷
    "   | |  " ∷
    "   | `-- y" ∷
    "---'" ∷ [])
unfolding drawn near
context_that_meets = refl

context_on_both_sides :
    picture (one "a\nb\nc\nd\ne") (configured (near 1) (label 4 5 "x" ∷ [])) ≡ rows (
    "Error: " ∷
    "   ,-[ <unknown>:1:1 ]" ∷
    "   |" ∷
    " 2 | b" ∷
    " 3 | c" ∷
    "   | |  " ∷
    "   | `-- x" ∷
    " 4 | d" ∷
    "---'" ∷ [])
unfolding drawn near
context_on_both_sides = refl

-- no line stands before the first
context_at_the_first_line :
    picture (one "a\nb\nc") (configured (near 1) (label 0 1 "x" ∷ [])) ≡ rows (
    "Error: " ∷
    "   ,-[ <unknown>:1:1 ]" ∷
    "   |" ∷
    " 1 | a" ∷
    "   | |  " ∷
    "   | `-- x" ∷
    " 2 | b" ∷
    "---'" ∷ [])
unfolding drawn near
context_at_the_first_line = refl

context_at_the_last_line :
    picture (one "a\nb\nc") (configured (near 1) (label 4 5 "x" ∷ [])) ≡ rows (
    "Error: " ∷
    "   ,-[ <unknown>:1:1 ]" ∷
    "   |" ∷
    " 2 | b" ∷
    " 3 | c" ∷
    "   | |  " ∷
    "   | `-- x" ∷
    "---'" ∷ [])
unfolding drawn near
context_at_the_last_line = refl

-- behind the last terminator is no line
context_behind_the_last_terminator :
    picture (one "a\n") (configured (near 1) (label 0 1 "x" ∷ [])) ≡ rows (
    "Error: " ∷
    "   ,-[ <unknown>:1:1 ]" ∷
    "   |" ∷
    " 1 | a" ∷
    "   | |  " ∷
    "   | `-- x" ∷
    "---'" ∷ [])
unfolding drawn near
context_behind_the_last_terminator = refl

-- numbers take the columns of the last line that is shown
context_with_a_wider_number :
    picture (one "a\nb\nc\nd\ne\nf\ng\nh\ni\nj") (configured (near 1) (label 16 17 "x" ∷ [])) ≡ rows (
    "Error: " ∷
    "    ,-[ <unknown>:1:1 ]" ∷
    "    |" ∷
    "  8 | h" ∷
    "  9 | i" ∷
    "    | |  " ∷
    "    | `-- x" ∷
    " 10 | j" ∷
    "----'" ∷ [])
unfolding drawn near
context_with_a_wider_number = refl

-- both groups show line 2
context_of_two_groups :
    picture (one "a\nb\nc\nd\ne") (configured (near 1) (label 4 5 "y" ∷ label 0 1 "x" ∷ [])) ≡ rows (
    "Error: " ∷
    "   ,-[ <unknown>:1:1 ]" ∷
    "   |" ∷
    " 2 | b" ∷
    " 3 | c" ∷
    "   | |  " ∷
    "   | `-- y" ∷
    " 4 | d" ∷
    "   |" ∷
    "   |-[ <unknown>:1:1 ]" ∷
    "   |" ∷
    " 1 | a" ∷
    "   | |  " ∷
    "   | `-- x" ∷
    " 2 | b" ∷
    "---'" ∷ [])
unfolding drawn near
context_of_two_groups = refl

-- as many lines as there are, where more are asked for
context_of_all_lines :
    picture (one "a\nb\nc\nd") (configured (near 20) (label 4 5 "x" ∷ [])) ≡ rows (
    "Error: " ∷
    "   ,-[ <unknown>:1:1 ]" ∷
    "   |" ∷
    " 1 | a" ∷
    " 2 | b" ∷
    " 3 | c" ∷
    "   | |  " ∷
    "   | `-- x" ∷
    " 4 | d" ∷
    "---'" ∷ [])
unfolding drawn near
context_of_all_lines = refl

-- lines of one label stand outside another, whose bar they don't have
context_around_a_label_over_lines :
    picture (one "a\nb\nc\nd\ne\nf\ng\nh") (configured (near 1) (label 4 9 "m" ∷ label 12 13 "x" ∷ [])) ≡ rows (
    "Error: " ∷
    "   ,-[ <unknown>:1:1 ]" ∷
    "   |" ∷
    " 2 |     b" ∷
    " 3 | ,-> c" ∷
    " 4 | |   d" ∷
    " 5 | |-> e" ∷
    "   | |       " ∷
    "   | `------- m" ∷
    " 6 |     f" ∷
    " 7 |     g" ∷
    "   |     |  " ∷
    "   |     `-- x" ∷
    " 8 |     h" ∷
    "---'" ∷ [])
unfolding drawn near
context_around_a_label_over_lines = refl

-- compact pictures have them too, and no row in place of the hidden ones
context_in_a_compact_picture :
    picture (one "a\nb\nc\nd\ne\nf\ng")
    (configured (record (near 1) { compact = true }) (label 2 3 "x" ∷ label 10 11 "y" ∷ [])) ≡ rows (
    "Error: " ∷
    "   ,-[ <unknown>:1:1 ]" ∷
    " 1 |a" ∷
    " 2 |b" ∷
    "   |`- x" ∷
    " 3 |c" ∷
    " 5 |e" ∷
    " 6 |f" ∷
    "   |`- y" ∷
    " 7 |g" ∷ [])
unfolding drawn near
context_in_a_compact_picture = refl
