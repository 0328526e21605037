use Rattle.std.proofs.Common.{◌≡◌, ◌∙◌, List, ℕ, [], ◌∷◌, ◌++◌, append_assoc}
use Rattle.std.specs.Prelude.{codes}
use Rattle.std.proofs.lemmas.Result.{IfOk-weaker}
use Rattle.ariadne_show.proofs.asides.location_name.Goals as goal

-- a file, a line and a column, and what parts them
location_parts : (file path line text column : List ℕ) → file ≡ path → text ≡ column
    → file ++ (58 ∷ (line ++ (text ++ (58 ∷ 32 ∷ [])))) ≡ path ++ codes ":" ++ line ++ column ++ codes ": "
location_parts file path line text column e f = rw (e, f) (simp append_assoc)

-- the file, the line and the column
pub returns : goal.returns
returns c =
    IfOk-weaker c.format.result _ _ (λ text e. e ∙ location_parts _ _ _ _ _ c.as_str-file.ensures.value c.in_ok-column.ensures)
    c.format.ensures.ok
