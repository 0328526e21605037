use Rattle.std.proofs.Common.{◌≡◌, ◌∙◌, List, ℕ, [], ◌∷◌, ◌++◌, ap, append_assoc}
use Rattle.std.specs.Prelude.{codes}
use Rattle.std.proofs.lemmas.Result.{IfOk-weaker}
use Rattle.ariadne_safe.specs.Visible.{visible_bytes}
use Rattle.ariadne_safe.specs.declared.text.TextKind.TheVariants.{OneRow}
use Rattle.ariadne_outputs.proofs.short.location_text.Goals as goal

-- a file, a line and a column, and what parts them
location_parts : (file path line text column : List ℕ) → file ≡ path → text ≡ column
    → file ++ (58 ∷ (line ++ (text ++ (58 ∷ 32 ∷ [])))) ≡ path ++ codes ":" ++ line ++ column ++ codes ": "
location_parts file path line text column e f = rw (e, f) (simp append_assoc)

-- the file, the line and the column
pub returns : goal.returns
returns c =
    let file = c.in_ok-file.ensures.signs ∙ ap (visible_bytes OneRow) c.as_str.ensures.value in
    IfOk-weaker c.format.result _ _ (λ text e. e ∙ location_parts _ _ _ _ _ file c.in_ok-column.ensures) c.format.ensures.ok
