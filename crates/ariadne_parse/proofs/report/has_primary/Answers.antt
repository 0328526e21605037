use Rattle.std.proofs.Common.{◌∙◌, sym}
use Rattle.ariadne_parse.proofs.Values.{primary_view}
use Rattle.ariadne_parse.proofs.report.has_primary.Goals as goal

-- labels are primary where their values are
pub returns : goal.returns
returns c = c.any_is_primary.ensures ∙ sym (primary_view c.args.labels.now)
