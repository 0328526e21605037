-- so far the places before `place` are written, the parts that were passed end by it, the stretches that were passed show nothing from there on, and columns are counted up to some place
use Rattle.std.proofs.Common.{◌≡◌, ◌≤◌, ◌-◌, ℕ, drop, length, take}
use Rattle.ariadne_base.specs.Locations.{upto}
use Rattle.ariadne_picture.specs.Columns.{shown}
use Rattle.ariadne_picture.specs.Lists.{joined}
use Rattle.ariadne_layout.specs.Cuts.{end_of}
use Rattle.ariadne_layout.specs.Tables.{position_paint, shown_at}
use Rattle.ariadne_render.specs.Pages.{Draws}
use Rattle.ariadne_render.specs.Counted.{IsCounted}
use Rattle.ariadne_render.specs.ShownTexts.{place_in}
use Rattle.ariadne_render.proofs.shown.push_cut.Given as goal

abbrev pub invariant-loop-seen : goal.invariant-loop-seen
invariant-loop-seen l =
    (l.place ≤ length (shown l.layout)) × (end_of 0 (take l.part l.parts) ≤ l.place)
    × Draws l.fn.pen l.pen (joined (place_in l.fn.pen.page.switches l.layout (λ k. position_paint (shown_at l.paints k))) (upto l.place))
    × ((k : ℕ) → l.place ≤ k → shown_at (drop l.number l.paints) k ≡ shown_at l.paints k)
    × IsCounted l.fn.pen.page.switches l.layout l.counted × (l.counted.place ≤ l.place)

-- fewer places are left
abbrev pub decreases-loop-seen : goal.decreases-loop-seen
decreases-loop-seen l = length (shown l.layout) - l.place
