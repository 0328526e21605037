use Rattle.std.proofs.Common.{◌∙◌, ap}
use Rattle.std.specs.Prelude.{◌==◌}
use Rattle.ariadne_documents.proofs.Lists.{members_one}
use Rattle.ariadne_documents.proofs.shellcheck.are_one.Goals as goal

-- there is one member where there is one entry
pub returns : goal.returns
returns c = ap (λ n. n == 1) c.len.ensures.len ∙ members_one c.args.members.now.entries
