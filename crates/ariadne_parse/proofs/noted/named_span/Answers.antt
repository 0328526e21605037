use Rattle.std.proofs.Common.{◌≡◌, ◌∙◌, List, ℕ, ◌∷◌, ◌++◌, append_assoc}
use Rattle.std.specs.Prelude.{codes}
use Rattle.std.proofs.lemmas.Result.{IfOk-weaker}
use Rattle.ariadne_parse.proofs.noted.named_span.Goals as goal

-- a file, a line, a column and what is said
row_parts : (file line text column said words : List ℕ) → text ≡ column → said ≡ words
    → file ++ (58 ∷ (line ++ (text ++ said))) ≡ file ++ codes ":" ++ line ++ column ++ words
row_parts file line text column said words e f = rw (e, f) (simp append_assoc)

-- each of them
pub returns : goal.returns
returns c =
    IfOk-weaker c.format.result _ _ (λ text e. e ∙ row_parts _ _ _ _ _ _ c.in_ok-column.ensures c.in_ok-said.ensures)
    c.format.ensures.ok
