use Rattle.std.proofs.Common.{◌∙◌, sym}
use Rattle.std.specs.Prelude.{is_some}
use Rattle.ariadne_parse.specs.Proposed.{gcc_change}
use Rattle.ariadne_parse.proofs.Values.{all_view}
use Rattle.ariadne_parse.proofs.fixits.are_changes.Goals as goal

-- items tell changes where their values do
pub returns : goal.returns
returns c = c.each_is_change.ensures ∙ sym (all_view (λ d. is_some (gcc_change d)) c.args.fixits.now)
