-- The starts stay.
use Rattle.std.proofs.Common.{length, ap, arith}
use Rattle.ariadne_base.specs.Listing.{Listing, listed_lines}
use Rattle.ariadne_base.proofs.source.Source.with_display_line_offset.Goals as goal

pub invariant_of-result : goal.invariant_of-result
invariant_of-result g c =
    let lines = ap (λ (s : Listing). length (listed_lines s)) c.self.view_is in
    (c.self.invariant.0, omega (arith, c.requires))
