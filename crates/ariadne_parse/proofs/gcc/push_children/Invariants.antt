use Rattle.std.specs.Prelude.{◌≡◌, ◌<◌, drop, map, vec_len}
use Rattle.serde_json.specs.View.{items_view}
use Rattle.ariadne_parse.specs.Gcc.{gcc_all}
use Rattle.ariadne_parse.specs.Read.{read}
use Rattle.ariadne_parse.proofs.gcc.push_children.Given as goal

-- the diagnostics so far, with the children that are still to come behind them, are all; what was there stays
abbrev pub invariant-loop-child : goal.invariant-loop-child
invariant-loop-child l = record {
  all : gcc_all (map read l.all.items) (items_view (drop l.child-index l.children))
      ≡ gcc_all (map read l.initial.all.items) (items_view l.children);
  some : 0 < vec_len l.initial.all → 0 < vec_len l.all;
}
