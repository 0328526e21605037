use Rattle.std.proofs.lemmas.Str.Pattern.{split_text_parts}
use Rattle.std.specs.Prelude.{Some}
use Rattle.ariadne_snippets.proofs.Puts.{more_by_two}
use Rattle.ariadne_snippets.proofs.put.two_pieces_of.Goals as goal

-- both go on behind the front, end alike, and what is left of the source stands between the pieces
pub returns : goal.returns
returns c =
    let first = c.in_ok-first.first in
    let second = c.in_ok-first.second in
    more_by_two c.args.text.now c.args.source.now
    (record { front = c.in_ok-front.front; first = first; middle = c.in_ok-inner.middle; second = second })
    c.in_ok-strip_prefix.field-0.now c.in_ok-strip_prefix-2.field-0.now c.in_ok-inner.inner.now
    c.in_ok-strip_prefix.ensures.cases c.in_ok-strip_prefix-2.ensures.cases c.in_ok-inner.ensures
    (split_text_parts c.in_ok-inner.middle.now c.in_ok-inner.inner.now (Some (first, second)) c.in_ok-first.ensures.cases)
