use Rattle.std.proofs.Common.{◌∙◌, sym}
use Rattle.ariadne_parse.specs.Suggested.{is_highlighted}
use Rattle.ariadne_parse.proofs.Values.{any_view}
use Rattle.ariadne_parse.proofs.suggested.is_any_highlighted.Goals as goal

-- lines are covered where their values are
pub returns : goal.returns
returns c = c.any_is_highlighted.ensures ∙ sym (any_view is_highlighted c.args.lines.now)
