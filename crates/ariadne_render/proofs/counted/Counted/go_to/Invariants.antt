-- the columns are counted up to a place that is not past the one that is asked for
use Rattle.std.proofs.Common.{◌-◌, ◌≡◌, ◌≤◌, length}
use Rattle.ariadne_picture.specs.declared.switches.Switches.{Switches}
use Rattle.ariadne_picture.specs.Columns.{Layout, shown}
use Rattle.ariadne_render.specs.Counted.{IsCounted}
use Rattle.ariadne_render.proofs.counted.Counted.go_to.Given as goal

abbrev pub invariant-loop-self : goal.invariant-loop-self
invariant-loop-self l =
    (l.self.place ≤ l.place)
    × ((s : Switches) (y : Layout) → s.tab_width ≡ l.tab_width → IsCounted s y l.fn.self → l.place ≤ length (shown y) → IsCounted s y l.self)

abbrev pub decreases-loop-self : goal.decreases-loop-self
decreases-loop-self l = l.place - l.self.place
