use Rattle.std.proofs.Common.{◌∙◌, ap, sym}
use Rattle.std.specs.Prelude.{option_map}
use Rattle.ariadne_matchers.specs.Catches.{cut_told}
use Rattle.ariadne_matchers.proofs.Telling.{told_nowhere, told_there}
use Rattle.ariadne_matchers.proofs.matched.matched_by.Goals as goal

-- they name a place
pub returns-in_ok-matched_at-in-Some : goal.returns-in_ok-matched_at-in-Some
returns-in_ok-matched_at-in-Some c =
    told_there _ _ _ _ _ _ (sym (ap (option_map (λ place. (cut_told place.0, place.1))) c.in-Some.is) ∙ c.named_place.ensures.place)
    c.in_ok-matched_at-in-Some.ensures

-- they name none
pub returns-in-None : goal.returns-in-None
returns-in-None c =
    told_nowhere _ _ _ (sym (ap (option_map (λ place. (cut_told place.0, place.1))) c.in-None.is) ∙ c.named_place.ensures.place)
