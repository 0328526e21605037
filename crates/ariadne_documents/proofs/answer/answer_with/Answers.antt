use Rattle.std.proofs.Common.{Global, Option, Vec, map, option_map, refl, subst, sym}
use Rattle.ariadne_parse.specs.Read.{read}
use Rattle.ariadne_parse.specs.declared.diagnostic.Diagnostic.{Diagnostic}
use Rattle.ariadne_parse.specs.declared.telling.Answer.TheVariants.{Diagnostics}
use Rattle.ariadne_documents.specs.Answers.{IsOfDocument}
use Rattle.ariadne_documents.proofs.answer.answer_with.Goals as goal

-- these are the diagnostics
pub returns-in-Some : goal.returns-in-Some
returns-in-Some c =
    subst (λ (o : Option (Vec Diagnostic Global)). IsOfDocument (option_map (λ found. map read found.items) o) (Diagnostics c.in-Some.all))
    (sym c.in-Some.is) (c.in-Some.all, refl, refl)
