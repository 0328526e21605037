-- What is said so far goes on with a child.
use Rattle.std.proofs.Common.{◌+◌, ◌∙◌, ap, drop, sym}
use Rattle.serde_json.specs.View.{items_view}
use Rattle.ariadne_parse.specs.Rustc.{as_said, with_children}
use Rattle.ariadne_parse.proofs.Loops.{next_first}
use Rattle.ariadne_parse.proofs.rustc.push_children.Goals as goal

pub loop-child-preserved : goal.loop-child-preserved
loop-child-preserved c =
    let i = c.loop-child.child-index in
    ap (λ said. with_children said (items_view (drop (i + 1) c.args.children.now))) c.in_ok-push_child.ensures
    ∙ sym (next_first (λ l. with_children (as_said c.loop-child.parsed) (items_view l)) c.args.children.now i c.child-item.result
    c.loop-child-test.true c.child-item.is)
    ∙ c.loop-child.invariant
