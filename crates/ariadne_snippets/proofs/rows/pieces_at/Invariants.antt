use denote.Shadow.{shadow}
use denote.Text.{Utf8}
use Rattle.ariadne_snippets.specs.RowPieces.{IsIn}
use Rattle.ariadne_snippets.specs.Snippets.{ArePiecesIn}
use Rattle.ariadne_snippets.proofs.rows.pieces_at.Given as goal

-- what stands in front is a text, and stands in the row, as what was found does
abbrev pub invariant-loop-column : goal.invariant-loop-column
invariant-loop-column l = shadow (Utf8 l.front) × IsIn l.front l.row × ArePiecesIn l.row l.pieces.items
