-- places before the first end at the column or before it, and the one that the search goes to ends behind it
use Rattle.std.proofs.Common.{◌+◌, ◌-◌, ◌<◌, ◌≤◌, ℕ, List, length}
use Rattle.ariadne_picture.specs.Columns.{whole_column}
use Rattle.ariadne_layout.specs.Tables.{AreWholeColumns}
use Rattle.ariadne_layout.proofs.cuts.first_behind.Given as goal

abbrev pub invariant-loop-first : goal.invariant-loop-first
invariant-loop-first l =
    (l.from ≤ l.first) × (l.first ≤ l.behind) × (l.behind ≤ l.to)
    × ((t : ℕ) (text : List ℕ) → AreWholeColumns t text l.columns → l.to ≤ length text
    → ((k : ℕ) → l.from ≤ k → k < l.first → whole_column t text (k + 1) ≤ l.column)
    × (l.behind < l.to → l.column < whole_column t text (l.behind + 1)))

abbrev pub decreases-loop-first : goal.decreases-loop-first
decreases-loop-first l = l.behind - l.first
