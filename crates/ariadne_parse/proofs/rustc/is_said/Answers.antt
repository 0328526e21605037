use Rattle.std.proofs.Common.{◌∙◌, sym}
use Rattle.ariadne_parse.specs.Rustc.{says_note}
use Rattle.ariadne_parse.proofs.Values.{any_view}
use Rattle.ariadne_parse.proofs.rustc.is_said.Goals as goal

-- spans say it where their values do
pub returns : goal.returns
returns c = c.any_says_note.ensures ∙ sym (any_view says_note c.args.span_values.now)
