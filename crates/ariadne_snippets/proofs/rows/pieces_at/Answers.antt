use Rattle.std.proofs.Common.{[], rules}
use Rattle.std.proofs.lemmas.List.Elements.{All-nil, All-push, All-same}
use Rattle.ariadne_snippets.specs.RowPieces.{IsIn}
use Rattle.ariadne_snippets.specs.declared.rows.Piece.{Piece}
use Rattle.ariadne_snippets.proofs.Endings.{end_of_all, in_by_end, in_further}
use Rattle.ariadne_snippets.proofs.rows.pieces_at.Goals as goal

-- nothing was found yet
pub loop-column-init : goal.loop-column-init
loop-column-init c =
    let P : Piece → Type 0 = λ piece. IsIn piece.text.now c.args.row.now in (
      c.utf8.row,
      in_by_end c.args.row.now c.args.row.now (end_of_all c.args.row.now),
      All-same P c.new-pieces.result.items [] c.new-pieces.ensures.items (All-nil P),
    )

-- one more text of the front
pub loop-column-preserved : goal.loop-column-preserved
loop-column-preserved c =
    let P : Piece → Type 0 = λ piece. IsIn piece.text.now c.args.row.now in
    let text = in_further c.cut_at.result.1.now c.loop-column.front.now c.args.row.now c.cut_at.ensures.text c.loop-column.invariant.1 in (
      search rules,
      in_further c.cut_at.result.0.now c.loop-column.front.now c.args.row.now c.cut_at.ensures.front c.loop-column.invariant.1,
      All-same P c.push.new.self.items _ (c.in_ok-push.ensures).items
          (All-push P c.loop-column.pieces.items _ c.loop-column.invariant.2 text),
    )
