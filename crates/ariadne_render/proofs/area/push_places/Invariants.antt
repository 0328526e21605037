-- so far the first places are written
use Rattle.std.proofs.Common.{◌≤◌, ◌-◌}
use Rattle.ariadne_render.specs.Areas.{DrawsOver}
use Rattle.ariadne_render.proofs.area.push_places.Given as goal

abbrev pub invariant-loop-vertical : goal.invariant-loop-vertical
invariant-loop-vertical l = record {
  begun : l.from ≤ l.place;
  within : l.place ≤ l.to;
  drawn : DrawsOver l.fn.pen l.pen l.table l.backdrop l.from l.place;
}

abbrev pub decreases-loop-vertical : goal.decreases-loop-vertical
decreases-loop-vertical l = l.to - l.place
