use Rattle.std.proofs.Common.{◌≡◌, take}
use Rattle.std.specs.Prelude.{map}
use Rattle.ariadne_parse.specs.Proposed.{way_of}
use Rattle.ariadne_parse.proofs.Ways.{ways_so_far}
use Rattle.ariadne_parse.proofs.proposals.ways_of.Given as goal

-- the changes that are passed are the ways
abbrev pub invariant-loop-change : goal.invariant-loop-change
invariant-loop-change l = map way_of l.ways.items ≡ ways_so_far (take l.change-index l.changes)
