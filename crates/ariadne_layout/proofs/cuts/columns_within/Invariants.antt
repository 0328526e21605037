-- the columns of the places before the end of the parts so far are added
use Rattle.std.proofs.Common.{◌≡◌, ℕ, List, length, min, take}
use Rattle.ariadne_layout.specs.Cuts.{AreApart, cut_column, end_of}
use Rattle.ariadne_layout.specs.Tables.{AreWholeColumns}
use Rattle.ariadne_layout.proofs.cuts.columns_within.Given as goal

abbrev pub invariant-loop-part : goal.invariant-loop-part
invariant-loop-part l =
    (text : List ℕ) → AreWholeColumns l.switches.tab_width text l.columns → length text ≡ l.len → AreApart l.parts
    → l.total ≡ cut_column l.switches text l.parts (min (end_of 0 (take l.part-index l.parts)) l.len)
