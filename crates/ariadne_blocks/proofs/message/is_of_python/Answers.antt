use Rattle.std.proofs.Common.{◌∙◌, ap, sym}
use Rattle.std.specs.Prelude.{codes, ◌||◌, ◌==◌}
use Rattle.std.specs.List.{ends_with}
use Rattle.std.proofs.lemmas.Str.Pattern.{ends_text}
use Rattle.ariadne_blocks.proofs.message.is_of_python.Goals as goal

-- it ends with the second where it doesn't with the first
pub returns-else-ends_with : goal.returns-else-ends_with
returns-else-ends_with c =
    let file = c.args.file.now in
    ends_text c.ends_with-else-ends_with.result (codes ".pyi") file c.ends_with-else-ends_with.ensures.cases
    ∙ ap (λ b. b || ends_with (λ a b. a == b) file (codes ".pyi"))
    (sym c.if-ends_with.false ∙ ends_text c.ends_with.result (codes ".py") file c.ends_with.ensures.cases)
