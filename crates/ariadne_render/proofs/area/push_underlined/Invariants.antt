-- so far the first places are written, and what is seen at the others the other stretches tell
use Rattle.std.proofs.Common.{◌≡◌, ℕ, ◌≤◌, ◌<◌}
use Rattle.std.specs.Prelude.{drop}
use Rattle.ariadne_layout.specs.Tables.{shown_at}
use Rattle.ariadne_render.specs.Areas.{DrawsPlaces, underlined_ink}
use Rattle.ariadne_render.proofs.area.push_underlined.Given as goal

abbrev pub invariant-loop-stretch : goal.invariant-loop-stretch
invariant-loop-stretch l = record {
  within : l.place ≤ l.table.len;
  shown : (k : ℕ) → l.place ≤ k → k < l.table.len
      → shown_at l.table.underlines.items k ≡ shown_at (drop l.stretch-index l.stretch-items) k;
  drawn : DrawsPlaces l.fn.pen l.pen l.table (underlined_ink l.table l.blank) 0 l.place;
}
