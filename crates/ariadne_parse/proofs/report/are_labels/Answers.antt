use Rattle.std.proofs.Common.{◌∙◌, sym}
use Rattle.ariadne_parse.specs.ParsedDiagnostics.{is_label}
use Rattle.ariadne_parse.proofs.Values.{all_view}
use Rattle.ariadne_parse.proofs.report.are_labels.Goals as goal

-- items are labels where their values are
pub returns : goal.returns
returns c = c.each_is_label.ensures ∙ sym (all_view is_label c.args.values.now)
