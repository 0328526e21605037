use Rattle.std.proofs.Common.{◌≡◌, ap, arith, rules, List, [], map}
use Rattle.ariadne_snippets.specs.Snippets.{change_told, insertions}
use Rattle.ariadne_snippets.specs.declared.taken.Fix.{Fix}
use Rattle.ariadne_snippets.proofs.quoted.Quoted.removals_in.Goals as goal

-- a row that is too long says nothing
pub returns-in_default : goal.returns-in_default
returns-in_default c =
    let none : c.new-fixes.result.items ≡ [] = search rules in
    insertions [] (λ k d lt. absurd (omega arith)) (ap (λ (fixes : List Fix). map change_told fixes) none)
