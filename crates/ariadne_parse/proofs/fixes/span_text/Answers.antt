use Rattle.std.proofs.Common.{◌≡◌, ◌∙◌, List, ℕ, ◌∷◌, ◌++◌, append_assoc}
use Rattle.std.specs.Prelude.{codes, decimal}
use Rattle.std.proofs.lemmas.Result.{IfOk-weaker}
use Rattle.ariadne_parse.proofs.fixes.span_text.Goals as goal

-- a line, a colon and a column
span_parts : (line : List ℕ) (m n : ℕ) → m ≡ n
    → line ++ (58 ∷ decimal m) ≡ line ++ codes ":" ++ decimal n
span_parts line m n e = rw e (simp append_assoc)

-- the line, and its column or the first
pub returns : goal.returns
returns c =
    IfOk-weaker c.format.result _ _ (λ text e. e ∙ span_parts _ _ _ c.unwrap_or-column.ensures) c.format.ensures.ok
