use Rattle.std.proofs.Common.{[]}
use Rattle.std.proofs.lemmas.List.Elements.{All-nil, All-push, All-same}
use Rattle.ariadne_snippets.specs.RowPieces.{IsIn}
use Rattle.ariadne_snippets.specs.declared.put.Insertion.{Insertion}
use Rattle.ariadne_snippets.proofs.Endings.{in_same}
use Rattle.ariadne_snippets.proofs.Puts.{first_in, more_in, second_in, trimmed_in}
use Rattle.ariadne_snippets.proofs.put.insertions_in.Goals as goal

-- the piece stands behind the white space
pub returns-in-Some : goal.returns-in-Some
returns-in-Some c =
    let text = c.args.text.now in
    let P : Insertion → Type 0 = λ piece. IsIn piece.text.now text in
    All-same P c.push.new.self.items _ (c.in_ok-push.ensures).items
    (All-push P c.new-put.result.items _ (All-same P c.new-put.result.items [] c.new-put.ensures.items (All-nil P))
    (in_same _ c.in-Some.piece.now text c.insertion_behind.ensures
    (more_in text c.trim_start-text.result.now c.as_str.result.now c.in-Some.front.now c.in-Some.piece.now
    c.trim_start-text.ensures.value c.in-Some.ensures)))

-- so do both pieces
pub returns-in-Some-two_pieces_of : goal.returns-in-Some-two_pieces_of
returns-in-Some-two_pieces_of c =
    let text = c.args.text.now in
    let trimmed = c.trim_start-text.result.now in
    let two = c.in-Some-two_pieces_of.two in
    let more = c.in-Some-two_pieces_of.ensures in
    let P : Insertion → Type 0 = λ piece. IsIn piece.text.now text in
    let first = in_same _ two.first.now text c.insertion_behind-first.ensures
    (trimmed_in two.first.now text trimmed c.trim_start-text.ensures.value (first_in trimmed _ two more)) in
    let second = in_same _ two.second.now text c.insertion_behind-in-Some-two_pieces_of.ensures
    (trimmed_in two.second.now text trimmed c.trim_start-text.ensures.value (second_in trimmed _ two more)) in
    All-same P c.push-in-Some-two_pieces_of-2.new.self.items _ (c.in_ok-push-3.ensures).items
    (All-push P c.push-in-Some-two_pieces_of.new.self.items _
    (All-same P c.push-in-Some-two_pieces_of.new.self.items _ (c.in_ok-push-2.ensures).items
    (All-push P c.new-put.result.items _ (All-same P c.new-put.result.items [] c.new-put.ensures.items (All-nil P)) first))
    second)

-- so does the attribute
pub returns : goal.returns
returns c =
    let text = c.args.text.now in
    let trimmed = c.trim_start-text.result.now in
    let attribute = c.in-Some-attribute_of.attribute.now in
    let P : Insertion → Type 0 = λ piece. IsIn piece.text.now text in
    All-same P c.push-2.new.self.items _ (c.in_ok-push-4.ensures).items
    (All-push P c.new-put.result.items _ (All-same P c.new-put.result.items [] c.new-put.ensures.items (All-nil P))
    (in_same _ attribute text c.insertion_behind-2.ensures
    (trimmed_in attribute text trimmed c.trim_start-text.ensures.value c.in-Some-attribute_of.ensures)))
