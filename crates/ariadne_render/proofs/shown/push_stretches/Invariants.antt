-- so far the first places are written, the stretches that were passed show nothing from here on, and columns are counted up to some tab
use Rattle.std.proofs.Common.{◌≡◌, ◌≤◌, ℕ, drop, length}
use Rattle.ariadne_base.specs.Locations.{upto}
use Rattle.ariadne_picture.specs.Lists.{joined}
use Rattle.ariadne_layout.specs.Tables.{position_paint, shown_at}
use Rattle.ariadne_render.specs.Pages.{Draws}
use Rattle.ariadne_render.specs.Counted.{IsCounted}
use Rattle.ariadne_render.specs.ShownTexts.{place_in}
use Rattle.ariadne_render.proofs.shown.push_stretches.Given as goal

abbrev pub invariant-loop-index : goal.invariant-loop-index
invariant-loop-index l =
    Draws l.fn.pen l.pen (joined (place_in l.fn.pen.page.switches l.layout (λ k. position_paint (shown_at l.paints k))) (upto (length l.yielded)))
    × ((k : ℕ) → length l.yielded ≤ k → shown_at (drop l.number l.paints) k ≡ shown_at l.paints k)
    × IsCounted l.fn.pen.page.switches l.layout l.counted × (l.counted.place ≤ length l.yielded)
