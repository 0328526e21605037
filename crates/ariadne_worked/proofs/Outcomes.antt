-- Which outcomes `Judging` lets labels have, by examples: a list of outcomes that is right, and lists that one condition alone
-- refuses. And what a cache may not have lost or won.
use Rattle.std.proofs.Common.{◌≡◌, ℕ, true, List, [], ◌∷◌, refl, sym}
use Rattle.std.specs.Prelude.{codes, pos, nat_eq}
use Rattle.std.specs.Cmp.Lexicographic.{pointwise}
use Rattle.std.specs.Str.{chars}
use Rattle.std.proofs.lemmas.Bool.{true≢false}
use Rattle.ariadne_base.specs.Listing.{Listing}
use Rattle.ariadne_picture.specs.declared.label_info.LabelInfo.{LabelInfo}
use Rattle.ariadne_picture.specs.Report.{LabelFields, World}
use Rattle.ariadne_worked.proofs.Sample.{Span, world, one, label, label_in, byte_config, drawn}
use Rattle.ariadne_report.specs.declared.accept.Reason.TheVariants.{Unfetched, PastSource, CutsCharacter}
use Rattle.ariadne_report.specs.Judging.{AreOutcomes, GrowsFor, Outcome, drawn_as, left_out_for}

-- ---- caches, and labels in bytes

-- one that holds nothing, and one that holds a character of two bytes
unfoldable before : World Span (List ℕ)
before = world []

unfoldable after : World Span (List ℕ)
after = world (one "é")

-- the error 7 may be returned for any id
abbrev Fails : List ℕ → ℕ → Type 0
Fails id e = e ≡ 7

unfoldable whole : LabelFields Span
whole = label 0 2 "m"

unfoldable past : LabelFields Span
past = label 4 5 "m"

unfoldable cutting : LabelFields Span
cutting = label 0 1 "m"

unfoldable elsewhere : LabelFields Span
elsewhere = label_in "z" 0 1 "m"

-- what the first one is drawn as
abbrev info : LabelInfo
info = record {
  position = 0;
  start = 0;
  end = 1;
  start_line = 0;
  start_place = 0;
  end_line = 0;
  end_place = 0;
  attach = 0;
  order = pos 0;
  priority = pos 0;
  has_message = true;
}

abbrev Outcomes : Type 0
Outcomes = List (Outcome ℕ)

abbrev Have : List (LabelFields Span) → Outcomes → Type 0
Have labels outcomes = AreOutcomes Fails before after byte_config labels outcomes

unfoldable computed : Unit {0}
unfolding drawn before after whole past cutting elsewhere chars
computed = tt

-- ---- a list of outcomes that is right

each_has_its_outcome : Have (whole ∷ past ∷ cutting ∷ elsewhere ∷ []) (drawn_as info ∷ left_out_for PastSource ∷ left_out_for CutsCharacter ∷ left_out_for (Unfetched 7) ∷ [])
unfolding computed
each_has_its_outcome = record {
  judged = (refl, (refl, (refl, ((refl, refl), tt))));
  stay_fetched = (
    (λ had. (λ same. refl, (λ same. refl, (λ same. sym same, tt)))),
    (
      (λ had. (λ same. refl, (λ same. sym same, tt))),
      ((λ had. (λ same. sym same, tt)), ((λ had. tt), tt)),
    ),
  );
}

-- ---- lists that are wrong

a_label_past_its_source_is_not_drawn : (a : LabelInfo) → Have (past ∷ []) (drawn_as a ∷ []) → ⊥
unfolding computed
a_label_past_its_source_is_not_drawn a h = let e = h.judged.0 in cc

a_drawn_label_is_not_past_its_source : Have (whole ∷ []) (left_out_for PastSource ∷ []) → ⊥
unfolding computed
a_drawn_label_is_not_past_its_source h = let e = h.judged.0 in cc

a_label_that_cuts_a_character_is_not_past_its_source : Have (cutting ∷ []) (left_out_for PastSource ∷ []) → ⊥
unfolding computed
a_label_that_cuts_a_character_is_not_past_its_source h = let e = h.judged.0 in cc

a_drawn_label_cuts_no_character : Have (whole ∷ []) (left_out_for CutsCharacter ∷ []) → ⊥
unfolding computed
a_drawn_label_cuts_no_character h = let e = h.judged.0 in cc

an_error_that_is_never_returned : Have (elsewhere ∷ []) (left_out_for (Unfetched 8) ∷ []) → ⊥
unfolding computed
an_error_that_is_never_returned h = let e = h.judged.0.1 in cc

-- its source was held before
an_error_of_a_source_that_was_held : AreOutcomes Fails after after byte_config (whole ∷ []) (left_out_for (Unfetched 7) ∷ []) → ⊥
unfolding computed
an_error_of_a_source_that_was_held h = let e = h.judged.0.0 in cc

-- the label behind one
a_later_label_past_its_source_is_not_drawn : (a : LabelInfo) → Have (whole ∷ past ∷ []) (drawn_as info ∷ drawn_as a ∷ []) → ⊥
unfolding computed
a_later_label_past_its_source_is_not_drawn a h = let e = h.judged.1.0 in cc

a_label_that_nothing_is_said_of : Have (whole ∷ []) [] → ⊥
unfolding computed
a_label_that_nothing_is_said_of h = h.judged

an_outcome_of_no_label : Have [] (drawn_as info ∷ []) → ⊥
unfolding computed
an_outcome_of_no_label h = h.judged

-- its source is held by then: each label is judged, but the second can't have failed
an_error_behind_a_drawn_label : Have (whole ∷ whole ∷ []) (drawn_as info ∷ left_out_for (Unfetched 7) ∷ []) → ⊥
unfolding computed
an_error_behind_a_drawn_label h = absurd (true≢false ((h.stay_fetched.0 refl).0 refl))

an_error_behind_a_label_past_its_source : Have (past ∷ whole ∷ []) (left_out_for PastSource ∷ left_out_for (Unfetched 7) ∷ []) → ⊥
unfolding computed
an_error_behind_a_label_past_its_source h = absurd (true≢false ((h.stay_fetched.0 refl).0 refl))

an_error_behind_a_later_drawn_label : Have (elsewhere ∷ whole ∷ whole ∷ []) (left_out_for (Unfetched 7) ∷ drawn_as (record info { position = 1 }) ∷ left_out_for (Unfetched 7) ∷ []) → ⊥
unfolding computed
an_error_behind_a_later_drawn_label h = absurd (true≢false ((h.stay_fetched.1.0 refl).0 refl))

-- ---- what a cache holds

abbrev pair : List (List ℕ × Listing)
pair = (codes "z", record { text = codes "t"; display_offset = 0 }) ∷ []

a_cache_that_lost_a_source : GrowsFor (λ (s : Span). s.id) (pointwise nat_eq) (elsewhere ∷ []) pair [] → ⊥
unfolding computed
a_cache_that_lost_a_source h = let e = h.kept (codes "z") refl in cc

a_cache_that_won_the_source_of_no_label : GrowsFor (λ (s : Span). s.id) (pointwise nat_eq) (whole ∷ []) [] pair → ⊥
unfolding computed
a_cache_that_won_the_source_of_no_label h = let e = h.only (codes "z") refl in cc
