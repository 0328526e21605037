use Rattle.std.specs.Prelude.{◌≡◌, drop}
use Rattle.serde_json.specs.View.{items_view}
use Rattle.ariadne_parse.specs.Rustc.{as_said, with_children}
use Rattle.ariadne_parse.proofs.rustc.push_children.Given as goal

-- what is said so far, with the children that are still to come, is all
abbrev pub invariant-loop-child : goal.invariant-loop-child
invariant-loop-child l =
    with_children (as_said l.parsed) (items_view (drop l.child-index l.children))
    ≡ with_children (as_said l.initial.parsed) (items_view l.children)
