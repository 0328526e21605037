-- A child stands behind the diagnostics so far.
use Rattle.std.proofs.Common.{◌+◌, ◌∙◌, ap, drop, sym}
use Rattle.std.specs.Prelude.{map}
use Rattle.serde_json.specs.View.{items_view}
use Rattle.ariadne_parse.specs.Gcc.{gcc_all}
use Rattle.ariadne_parse.specs.Read.{read}
use Rattle.ariadne_parse.proofs.Loops.{next_first}
use Rattle.ariadne_parse.proofs.gcc.push_children.Goals as goal

pub loop-child-preserved : goal.loop-child-preserved
loop-child-preserved c =
    let children = c.items-children.result.now in
    let i = c.loop-child.child-index in
    record {
      all = ap (λ all. gcc_all all (items_view (drop (i + 1) children))) c.in_ok-push_parsed.ensures.all
          ∙ sym (next_first (λ l. gcc_all (map read c.loop-child.all.items) (items_view l)) children i c.child-item.result
          c.loop-child-test.true c.child-item.is)
          ∙ c.loop-child.invariant.all;
      some = λ h. c.in_ok-push_parsed.ensures.some;
    }
