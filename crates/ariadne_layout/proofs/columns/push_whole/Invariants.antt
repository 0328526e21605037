-- the columns of the first places are pushed, and that of the next is at hand
use Rattle.std.proofs.Common.{◌≡◌, chars, length, map}
use Rattle.ariadne_base.specs.Locations.{upto}
use Rattle.ariadne_picture.specs.Columns.{whole_column}
use Rattle.ariadne_layout.proofs.columns.push_whole.Given as goal

abbrev pub invariant-loop-c : goal.invariant-loop-c
invariant-loop-c l =
    (l.list.items ≡ map (whole_column l.tab_width (chars l.text)) (upto (length l.yielded)))
    × (l.column ≡ whole_column l.tab_width (chars l.text) (length l.yielded))
