use Rattle.std.proofs.Common.{◌≡◌, ◌∙◌, List, ℕ, ◌++◌, append_assoc}
use Rattle.std.specs.Prelude.{codes}
use Rattle.std.proofs.lemmas.Result.{IfOk-weaker}
use Rattle.ariadne_parse.proofs.gcc.event_text.Goals as goal

-- the number, and what the event describes
event_parts : (digits a b : List ℕ) → a ≡ b
    → codes "(" ++ (digits ++ (codes ") " ++ a)) ≡ codes "(" ++ digits ++ codes ") " ++ b
event_parts digits a b e = rw e (simp append_assoc)

pub returns : goal.returns
returns c = IfOk-weaker c.format.result _ _ (λ text e. e ∙ event_parts _ _ _ c.words-description.ensures) c.format.ensures.ok
