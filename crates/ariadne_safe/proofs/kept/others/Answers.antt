use Rattle.std.proofs.Common.{bit_and, ap, ap₂, ◌∙◌}
use Rattle.std.specs.Int.{bit_at}
use Rattle.ariadne_safe.proofs.PlainBytes.{others_mask}
use Rattle.ariadne_safe.proofs.kept.others.Goals as goal

-- the marks of both ranges
pub returns : goal.returns
returns c k less =
    ap (λ m. bit_at m k) (ap₂ bit_and c.outside.ensures c.outside-2.ensures)
    ∙ others_mask c.args.block c.args.layout.first c.args.layout.last k c.fits-block.0 less
