use Rattle.std.proofs.Common.{[], rules}
use Rattle.std.proofs.lemmas.List.Elements.{All-nil, All-same}
use Rattle.ariadne_snippets.specs.RowPieces.{IsIn}
use Rattle.ariadne_snippets.specs.declared.rows.Piece.{Piece}
use Rattle.ariadne_snippets.proofs.Endings.{end_of_all, end_of_rest, in_by_end, in_front_of, in_further, in_same}
use Rattle.ariadne_snippets.proofs.rows.pieces.Goals as goal

-- nothing was found yet
pub loop-part-init : goal.loop-part-init
loop-part-init c =
    let P : Piece → Type 0 = λ piece. IsIn piece.text.now c.args.row.now in (
      c.utf8.row,
      in_by_end c.args.row.now c.args.row.now (end_of_all c.args.row.now),
      All-same P c.new-pieces.result.items [] c.new-pieces.ensures.items (All-nil P),
    )

-- one more part of what was left
pub loop-part-preserved : goal.loop-part-preserved
loop-part-preserved c =
    let cut = (c.in-Some.ensures).cases in
    let rest = c.loop-part.rest.now in
    let part = in_further c.in-Some.part.now rest c.args.row.now
    (in_same c.in-Some.part.now _ rest cut.3 (in_front_of cut.0 rest)) c.loop-part.invariant.1 in (
      search rules,
      in_further c.in-Some.behind.now rest c.args.row.now
          (in_same c.in-Some.behind.now _ rest cut.4 (in_by_end _ rest (end_of_rest cut.1 rest))) c.loop-part.invariant.1,
      c.in_ok-push_piece.ensures c.args.row.now part c.loop-part.invariant.2,
    )
