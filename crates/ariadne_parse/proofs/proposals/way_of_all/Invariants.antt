use Rattle.std.proofs.Common.{◌≡◌, take}
use Rattle.std.specs.Prelude.{map}
use Rattle.ariadne_parse.specs.Proposed.{edit_of, filed}
use Rattle.ariadne_parse.proofs.proposals.way_of_all.Given as goal

-- the changes that are passed are the way
abbrev pub invariant-loop-change : goal.invariant-loop-change
invariant-loop-change l = map edit_of l.way.items ≡ map (λ change. (filed change).1) (take l.change-index l.changes)
