-- The number of lines is that of the source.
use Rattle.std.proofs.Common.{◌≡◌, length, ap, arith}
use Rattle.ariadne_base.specs.Listing.{Listing, listed_lines}
use Rattle.ariadne_base.proofs.source.Source.display_line_offset.Goals as goal

pub returns-clause-fits : goal.returns-clause-fits
returns-clause-fits g c =
    let lines = ap (λ (s : Listing). length (listed_lines s)) c.self.view_is in
    let offset : c.self.inside.display_line_offset ≡ c.args.self.now.display_offset = ap (λ (s : Listing). s.display_offset) c.self.view_is in
    omega (arith, lines, offset, c.self.invariant.1)
