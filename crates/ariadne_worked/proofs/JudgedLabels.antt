-- Which labels are drawn, of all that begin and end within a text or up to two past it. Counted is how
-- many are, how many reach past the source, and how many have an end inside a character.
use Prim.Native.String.{String}
use Rattle.std.specs.Prelude.{ℕ, ◌≡◌, refl, ◌∷◌, [], ◌+◌, length, map, replicate, filter, ◌-◌, Bool, is_none, Some, None, true, false, List, Option}
use Rattle.ariadne_picture.specs.Report.{LabelFields}
use Rattle.ariadne_picture.specs.Lists.{joined}
use Rattle.ariadne_base.specs.Locations.{upto}
use Rattle.ariadne_worked.proofs.Sample.{drawn, left_out, Reason, one, label, byte_config, report, configured, Span, unfetched}
use Rattle.ariadne_worked.proofs.Sample.{past_its_source, inside_a_character}

-- a label for each start and end up to n
unfoldable every_label : ℕ → List (LabelFields Span)
every_label n =
    joined (λ start. map (λ width. label start (start + width) "Label") (upto (n + 1 - start))) (upto (n + 1))

unfoldable is_past : Option Reason → Bool
is_past None = false
is_past (Some unfetched) = false
is_past (Some past_its_source) = true
is_past (Some inside_a_character) = false

unfoldable is_inside : Option Reason → Bool
is_inside None = false
is_inside (Some unfetched) = false
is_inside (Some past_its_source) = false
is_inside (Some inside_a_character) = true

-- drawn, past their source, inside a character
unfoldable tally : List (Option Reason) → List ℕ
tally why = length (filter is_none why) ∷ length (filter is_past why) ∷ length (filter is_inside why) ∷ []

-- of labels up to two past a text of n characters
unfoldable judged : String → ℕ → List ℕ
judged t n = tally (left_out (one t) (report (every_label (n + 2))))

-- of labels up to two past a text of n bytes
unfoldable judged_in_bytes : String → ℕ → List ℕ
judged_in_bytes t n =
    tally (left_out (one t) (configured byte_config (every_label (n + 2))))

-- `unfolding judging` lets `refl` compute all this
unfoldable judging : Unit {0}
unfolding drawn every_label is_past is_inside tally judged judged_in_bytes
judging = tt

-- all 136 within a text of one byte a character
every_byte_span_is_drawn :
    left_out (one "apple\np\n\nempty\n") (configured byte_config (every_label 15))
    ≡ replicate 136 None
unfolding judging
every_byte_span_is_drawn = refl

labels_far_past_their_source :
    left_out (one "ab") (report (label 18446744073709551615 18446744073709551615 "x"
    ∷ label 0 18446744073709551615 "y" ∷ []))
    ≡ Some past_its_source ∷ Some past_its_source ∷ []
unfolding judging
labels_far_past_their_source = refl

in_no_text :
    judged "" 0 ≡ 2 ∷ 4 ∷ 0 ∷ []
unfolding judging
in_no_text = refl

in_lines :
    judged "apple\np\n\nempty\n" 15 ≡ 152 ∷ 19 ∷ 0 ∷ []
unfolding judging
in_lines = refl

at_a_double_terminator :
    judged "a\r\nb" 4 ≡ 20 ∷ 8 ∷ 0 ∷ []
unfolding judging
at_a_double_terminator = refl

at_a_lone_terminator :
    judged "\r" 1 ≡ 5 ∷ 5 ∷ 0 ∷ []
unfolding judging
at_a_lone_terminator = refl

in_long_characters :
    judged "é漢x" 3 ≡ 14 ∷ 7 ∷ 0 ∷ []
unfolding judging
in_long_characters = refl

at_a_combining_character :
    judged "\téx" 4 ≡ 20 ∷ 8 ∷ 0 ∷ []
unfolding judging
at_a_combining_character = refl

at_a_line_separator :
    judged "\u{2028}z" 2 ≡ 9 ∷ 6 ∷ 0 ∷ []
unfolding judging
at_a_line_separator = refl

in_no_bytes :
    judged_in_bytes "" 0 ≡ 2 ∷ 4 ∷ 0 ∷ []
unfolding judging
in_no_bytes = refl

in_bytes_of_lines :
    judged_in_bytes "apple\np\n\nempty\n" 15 ≡ 152 ∷ 19 ∷ 0 ∷ []
unfolding judging
in_bytes_of_lines = refl

at_the_bytes_of_a_double_terminator :
    judged_in_bytes "a\r\nb" 4 ≡ 20 ∷ 8 ∷ 0 ∷ []
unfolding judging
at_the_bytes_of_a_double_terminator = refl

at_the_byte_of_a_lone_terminator :
    judged_in_bytes "\r" 1 ≡ 5 ∷ 5 ∷ 0 ∷ []
unfolding judging
at_the_byte_of_a_lone_terminator = refl

in_bytes_of_long_characters :
    judged_in_bytes "é漢x" 6 ≡ 14 ∷ 10 ∷ 21 ∷ []
unfolding judging
in_bytes_of_long_characters = refl

at_the_bytes_of_a_combining_character :
    judged_in_bytes "\téx" 5 ≡ 20 ∷ 9 ∷ 7 ∷ []
unfolding judging
at_the_bytes_of_a_combining_character = refl

at_the_bytes_of_a_line_separator :
    judged_in_bytes "\u{2028}z" 4 ≡ 9 ∷ 8 ∷ 11 ∷ []
unfolding judging
at_the_bytes_of_a_line_separator = refl
