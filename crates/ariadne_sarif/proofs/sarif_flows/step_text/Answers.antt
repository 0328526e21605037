use Rattle.std.proofs.Common.{◌≡◌, ◌∙◌, List, ℕ, ◌++◌, append_assoc}
use Rattle.std.specs.Prelude.{codes}
use Rattle.std.proofs.lemmas.Result.{IfOk-weaker}
use Rattle.ariadne_sarif.proofs.sarif_flows.step_text.Goals as goal

-- the number, and the message behind it
step_parts : (digits message : List ℕ)
    → codes "(" ++ (digits ++ (codes ") " ++ message)) ≡ codes "(" ++ digits ++ codes ") " ++ message
step_parts digits message = simp append_assoc

pub returns : goal.returns
returns c = IfOk-weaker c.format.result _ _ (λ text e. e ∙ step_parts _ _) c.format.ensures.ok
