-- so far it is the greatest of the first labels' ends
use Rattle.std.proofs.Common.{◌≡◌, map, take}
use Rattle.ariadne_picture.specs.Columns.{places_to_end}
use Rattle.ariadne_picture.specs.Groups.{greatest}
use Rattle.ariadne_layout.proofs.layout.LineLayout.greatest_end.Given as goal

abbrev pub invariant-loop-label : goal.invariant-loop-label
invariant-loop-label l = l.greatest ≡ greatest (map (places_to_end l.self) (take l.label-index l.label-items))
