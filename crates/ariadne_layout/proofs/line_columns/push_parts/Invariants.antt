-- the columns of the places before the end of the parts so far are held
use Rattle.std.proofs.Common.{◌≡◌, ◌≤◌, ℕ, List, length, min, take}
use Rattle.ariadne_picture.specs.declared.switches.Switches.{Switches}
use Rattle.ariadne_layout.specs.Cuts.{cut_column, end_of}
use Rattle.ariadne_layout.specs.Knots.{HoldColumns}
use Rattle.ariadne_layout.specs.Tables.{AreWholeColumns}
use Rattle.ariadne_layout.proofs.line_columns.push_parts.Given as goal

abbrev pub invariant-loop-part : goal.invariant-loop-part
invariant-loop-part l =
    (s : Switches) (text : List ℕ) → s.char_set ≡ l.set → AreWholeColumns s.tab_width text l.whole → l.end ≤ length text
    → HoldColumns (cut_column s text l.parts) l.knots.items (min (end_of 0 (take l.part-index l.parts)) l.end) l.column
