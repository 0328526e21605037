-- Finished pictures that can be read in two ways, by computation: one but for the clause on blocks, and one of twins.
use Rattle.std.specs.Prelude.{ℕ, ◌≡◌, ◌==◌, Bool, true, false, if◌then◌else◌, refl, [], ◌∷◌, List}
use Rattle.ariadne_picture.specs.Report.{ReportFields}
use Rattle.ariadne_picture.specs.Placing.Rows.{Placing}
use Rattle.ariadne_worked.proofs.Sample.{Span, Entry, one, label, report, configured, compact_config}
use Rattle.ariadne_worked.proofs.Readings.{choose}
use Rattle.ariadne_worked.proofs.Changes.{as_drawn, further_verdicts_by, judged}

-- a message that is a blank, of a label on a character without columns, U+0301 behind e, beside two labels that start before it
unfoldable blank_message : ReportFields Span
blank_message = configured compact_config (label 1 2 " " ∷ label 0 5 "b" ∷ label 0 4 "c" ∷ [])

unfoldable source : List Entry
source = one "é\nbc"

-- the message of the first label in row n; so many rows in the block of line 0, with so many places
unfoldable placing : ℕ → ℕ → ℕ → Placing
placing n block places = record {
  start = λ g. if g == 0 then 1 else 8;
  source_row = λ g l. choose 2 5 l;
  block_len = λ g l. choose block 2 l;
  places = λ g l. choose places 3 l;
  message_row = λ k. if k == 0 then n else if k == 1 then 7 else 6;
  head_row = λ g i. choose 2 3 i;
}

unfoldable reads : Placing → List Bool
reads p = further_verdicts_by p source blank_message as_drawn

-- two labels on one character with one message
unfoldable twins : ReportFields Span
twins = report (label 0 1 "m" ∷ label 0 1 "m" ∷ [])

-- the same with two messages
unfoldable no_twins : ReportFields Span
no_twins = report (label 0 1 "m" ∷ label 0 1 "n" ∷ [])

-- the message of the first label in row n, that of the second in row m
unfoldable both_at : ℕ → ℕ → Placing
both_at n m = record {
  start = λ g. if g == 0 then 1 else 9;
  source_row = λ g l. 3;
  block_len = λ g l. 4;
  places = λ g l. 3;
  message_row = choose n m;
  head_row = λ g i. 0;
}

unfoldable reads_both : ReportFields Span → Placing → List Bool
reads_both r p = further_verdicts_by p (one "ab") r as_drawn

unfoldable computed : Unit {0}
unfolding judged choose blank_message source placing reads twins no_twins both_at reads_both
computed = tt

the_reading_of_its_names : reads (placing 4 2 4) ≡ true ∷ true ∷ true ∷ []
unfolding computed
the_reading_of_its_names = refl

-- the message of the first label in the row where the third one starts
another_reading : reads (placing 3 1 2) ≡ true ∷ false ∷ true ∷ []
unfolding computed
another_reading = refl

-- ---- twins may change places, and no other labels

twins_in_their_order : reads_both twins (both_at 5 7) ≡ true ∷ true ∷ true ∷ []
unfolding computed
twins_in_their_order = refl

twins_in_the_other_order : reads_both twins (both_at 7 5) ≡ true ∷ true ∷ true ∷ []
unfolding computed
twins_in_the_other_order = refl

two_messages_in_their_order : reads_both no_twins (both_at 5 7) ≡ true ∷ true ∷ true ∷ []
unfolding computed
two_messages_in_their_order = refl

two_messages_in_the_other_order : reads_both no_twins (both_at 7 5) ≡ false ∷ true ∷ true ∷ []
unfolding computed
two_messages_in_the_other_order = refl
