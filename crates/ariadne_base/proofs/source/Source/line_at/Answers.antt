use Rattle.std.proofs.Common.{◌∙◌, arith}
use Rattle.ariadne_base.specs.Listing.{listed_lines}
use Rattle.ariadne_base.proofs.StartLemmas.{kept_starts, kept_count, kept_up, kept_line}
use Rattle.ariadne_base.proofs.source.Source.line_at.Goals as goal

-- each line has a start
pub index-start-requires : goal.index-start-requires
index-start-requires g c = omega (arith, kept_count c.self.view_is c.self.invariant.0, c.self.inside.starts.ok.0, c.requires)

-- and another behind it
pub index-end-requires : goal.index-end-requires
index-end-requires g c = omega (arith, kept_count c.self.view_is c.self.invariant.0, c.self.inside.starts.ok.0, c.requires)

-- which is not before it
pub line_to-requires : goal.line_to-requires
line_to-requires g c =
    let kept = kept_starts c.self.view_is c.self.invariant.0 in
    let up = kept_up (listed_lines c.args.self.now) _ _ _ _ kept c.requires c.index-start.ensures c.index-end.ensures in
    record { chars = up.0; bytes = up.1 }

-- the line lies between the two
pub returns : goal.returns
returns g c =
    let kept = kept_starts c.self.view_is c.self.invariant.0 in
    c.line_to.ensures
    ∙ kept_line (listed_lines c.args.self.now) _ _ _ _ kept c.requires c.index-start.ensures c.index-end.ensures
