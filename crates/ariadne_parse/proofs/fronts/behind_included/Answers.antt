use Rattle.std.proofs.Common.{◌≡◌, ◌∙◌, ap}
use Rattle.std.specs.Prelude.{Option, Some, None}
use Rattle.std.specs.Option.{option_or}
use Rattle.ariadne_parse.specs.Fronts.{behind_included}
use Rattle.ariadne_parse.proofs.fronts.behind_included.Goals as goal

-- the first is there
here : {A : Type 0} {x : A} {a : Option A} (b : Option A) → Some x ≡ a → Some x ≡ option_or a b
here {A} {x} {a} b e = ap (λ (o : Option A). option_or o b) e

-- the first is not there
there : {A : Type 0} {a : Option A} (b : Option A) → None ≡ a → b ≡ option_or a b
there {A} {a} b e = ap (λ (o : Option A). option_or o b) e

pub returns-in-Some : goal.returns-in-Some
unfolding behind_included
returns-in-Some c = here _ c.in-Some.ensures

pub returns-in-None : goal.returns-in-None
unfolding behind_included
returns-in-None c = c.behind_from.ensures ∙ there _ c.in-None.ensures
