-- the parts so far are widened and joined
use Rattle.std.proofs.Common.{◌≡◌, ◌<◌, ℕ, List, length}
use Rattle.ariadne_layout.specs.Tables.{AreWholeColumns}
use Rattle.ariadne_layout.proofs.JoinedParts.{AreWidened}
use Rattle.ariadne_layout.proofs.cuts.widen.Given as goal

abbrev pub invariant-loop-part : goal.invariant-loop-part
invariant-loop-part l =
    (0 < l.part-index → 0 < length l.list.items)
    × ((t : ℕ) (text : List ℕ) → AreWholeColumns t text l.columns → length text ≡ l.len → AreWidened t text l.count l.part-index l.needed l.list.items)
