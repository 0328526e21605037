use Rattle.ariadne_snippets.proofs.Endings.{end_of_rest, in_by_end, in_by_trim, in_same}
use Rattle.ariadne_snippets.proofs.put.attribute_of.Goals as goal

-- what stands behind the front is a part of the text
pub returns : goal.returns
returns c =
    in_by_trim c.trim_end-attribute.result.now c.in_ok-front.rest.now c.args.text.now c.trim_end-attribute.ensures.value
    (in_same c.in_ok-front.rest.now _ c.args.text.now (c.in_ok-front.ensures).back
    (in_by_end _ c.args.text.now (end_of_rest _ c.args.text.now)))
