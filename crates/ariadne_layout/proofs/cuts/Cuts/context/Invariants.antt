-- the line fits with each lesser number
use Rattle.std.proofs.Common.{◌≡◌, ◌≤◌, ◌<◌, ◌-◌, ℕ, List, length, true}
use Rattle.ariadne_picture.specs.Columns.{fits_with}
use Rattle.ariadne_layout.specs.Tables.{AreWholeColumns}
use Rattle.ariadne_layout.proofs.cuts.Cuts.context.Given as goal

abbrev pub invariant-loop-count : goal.invariant-loop-count
invariant-loop-count l =
    (l.count ≤ l.len) × (record l.self { parts = l.fn.self.parts } ≡ l.fn.self)
    × ((text : List ℕ) → AreWholeColumns l.switches.tab_width text l.fn.self.columns → length text ≡ l.len
    → (k : ℕ) → k < l.count → fits_with l.switches text l.fn.self.needed.items k ≡ true)

abbrev pub decreases-loop-count : goal.decreases-loop-count
decreases-loop-count l = l.len - l.count
