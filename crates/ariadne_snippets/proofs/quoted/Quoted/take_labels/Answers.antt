use Rattle.std.proofs.lemmas.List.Elements.{All-same}
use Rattle.ariadne_snippets.specs.RowPieces.{IsIn}
use Rattle.ariadne_snippets.specs.Snippets.{ArePiecesIn}
use Rattle.ariadne_snippets.specs.declared.rows.Piece.{Piece}
use Rattle.ariadne_snippets.proofs.Endings.{in_same}
use Rattle.ariadne_snippets.proofs.quoted.Quoted.take_labels.Goals as goal

-- one more text of the row
pub loop-piece-preserved : goal.loop-piece-preserved
loop-piece-preserved c =
    let P : Piece → Type 0 = λ piece. IsIn piece.text.now c.args.row.now in
    let all : ArePiecesIn c.args.row.now c.in-Some.pieces.items = rw c.in-Some.is at c.in_ok-pieces.ensures in
    let here = All-same P c.as_slice-piece-items.result.now c.in-Some.pieces.items c.as_slice-piece-items.ensures.value all in
    let text = in_same c.below_bar-below.result.text.now _ c.args.row.now c.below_bar-below.ensures
    (here c.loop-piece.piece-index _ c.loop-piece-test.true) in
    c.in_ok-push_piece.ensures c.args.row.now text c.loop-piece.invariant
