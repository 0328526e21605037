-- A value stands behind the diagnostics so far, and its children behind it.
use Rattle.std.proofs.Common.{◌+◌, ◌∙◌, ap, drop, sym}
use Rattle.std.specs.Prelude.{codes, map}
use Rattle.serde_json.specs.View.{items_view, view}
use Rattle.ariadne_parse.specs.Gcc.{gcc_all, gcc_list}
use Rattle.ariadne_parse.specs.Members.{items_in, list_at}
use Rattle.ariadne_parse.specs.Read.{read}
use Rattle.ariadne_parse.proofs.Loops.{next_first}
use Rattle.ariadne_parse.proofs.gcc.parsed_by_gcc.Goals as goal

pub loop-value-preserved : goal.loop-value-preserved
loop-value-preserved c =
    let values = c.args.values.now in
    let i = c.loop-value.value-index in
    let value = c.value-item.result in
    record {
      all = ap (λ all. gcc_list all (items_view (drop (i + 1) values)))
          (c.in_ok-push_children.ensures.all
          ∙ ap (λ all. gcc_all all (items_in (list_at (codes "children") (view value)))) c.in_ok-push_parsed.ensures.all)
          ∙ sym (next_first (λ l. gcc_list (map read c.loop-value.all.items) (items_view l)) values i value c.loop-value-test.true
          c.value-item.is)
          ∙ c.loop-value.invariant.all;
      some = λ h. c.in_ok-push_children.ensures.some c.in_ok-push_parsed.ensures.some;
    }
