use Rattle.std.proofs.Common.{◌≡◌, drop}
use Rattle.std.specs.Prelude.{max}
use Rattle.ariadne_edits.specs.HelpTexts.{greatest_number}
use Rattle.ariadne_edits.proofs.drawing.greatest_number.Given as goal

abbrev pub invariant-loop-row : goal.invariant-loop-row
invariant-loop-row l = max l.number (greatest_number l.offset (drop l.row-index l.rows)) ≡ greatest_number l.offset l.rows
