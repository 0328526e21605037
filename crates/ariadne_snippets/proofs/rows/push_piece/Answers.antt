use Rattle.std.proofs.lemmas.List.Elements.{All-push, All-same}
use Rattle.ariadne_snippets.specs.RowPieces.{IsIn}
use Rattle.ariadne_snippets.specs.declared.rows.Piece.{Piece}
use Rattle.ariadne_snippets.proofs.Endings.{end_of_rest, in_by_end, in_by_trim, in_further, in_same}
use Rattle.ariadne_snippets.proofs.rows.push_piece.Goals as goal

-- the text stands in the part, and so in the row
pub returns : goal.returns
returns c =
    λ row there all.
    let P : Piece → Type 0 = λ piece. IsIn piece.text.now row in
    let text : IsIn c.past_blanks-text.result.now c.args.part.now =
    in_same c.past_blanks-text.result.now _ c.args.part.now c.past_blanks-text.ensures
    (in_by_end _ c.args.part.now (end_of_rest _ c.args.part.now)) in
    let trimmed = in_by_trim c.trim_end.result.now c.past_blanks-text.result.now row c.trim_end.ensures.value
    (in_further c.past_blanks-text.result.now c.args.part.now row text there) in
    All-same P c.push.new.self.items _ (c.in_ok-push.ensures).items (All-push P c.args.pieces.now.items _ all trimmed)
