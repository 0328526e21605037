use Rattle.ariadne_snippets.proofs.Puts.{more_by}
use Rattle.ariadne_snippets.proofs.put.piece_behind.Goals as goal

-- both begin with the front, and the text ends as the source does
pub returns : goal.returns
returns c =
    more_by c.args.text.now c.args.source.now c.args.front.now c.in_ok-rest.rest.now c.in_ok-strip_prefix.field-0.now
    c.strip_suffix.result c.in_ok-rest.ensures.cases c.in_ok-strip_prefix.ensures.cases c.strip_suffix.ensures.cases
