use Rattle.std.proofs.Common.{◌≡◌, ◌∙◌, List, ℕ, ◌++◌, append_assoc}
use Rattle.std.specs.Prelude.{codes}
use Rattle.std.proofs.lemmas.Result.{IfOk-weaker}
use Rattle.ariadne_parse.proofs.fixes.line_text.Goals as goal

-- the parts, one behind the other
line_parts : (text line : List ℕ)
    → codes "put the line `" ++ (text ++ (codes "` in front of line " ++ line))
    ≡ codes "put the line `" ++ text ++ codes "` in front of line " ++ line
line_parts text line = simp append_assoc

-- the text and the number
pub returns : goal.returns
returns c = IfOk-weaker c.format.result _ _ (λ text e. e ∙ line_parts _ _) c.format.ensures.ok
