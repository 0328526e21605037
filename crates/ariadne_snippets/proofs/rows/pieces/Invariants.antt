use denote.Shadow.{shadow}
use denote.Text.{Utf8}
use Rattle.std.proofs.Common.{length}
use Rattle.ariadne_snippets.specs.RowPieces.{IsIn}
use Rattle.ariadne_snippets.specs.Snippets.{ArePiecesIn}
use Rattle.ariadne_snippets.proofs.rows.pieces.Given as goal

-- what is left is a text, and stands in the row, as what was found does
abbrev pub invariant-loop-part : goal.invariant-loop-part
invariant-loop-part l = shadow (Utf8 l.rest) × IsIn l.rest l.row × ArePiecesIn l.row l.pieces.items

-- less is left
abbrev pub decreases-loop-part : goal.decreases-loop-part
decreases-loop-part l = length l.rest
