-- The table has the colours in the order of their numbers.
use Rattle.std.specs.Prelude.{◌-◌}
use Rattle.std.proofs.Common.{◌∙◌}
use Rattle.ariadne_calls.specs.ColorNumbers.{named_colors}
use Rattle.ariadne_calls.proofs.Table.{lent}
use Rattle.ariadne_calls.proofs.colors.named_color.Goals as goal

pub returns : goal.returns
returns c = c.copied.ensures ∙ lent named_colors (c.args.number - 1) c.get.result c.get.ensures.lookup
