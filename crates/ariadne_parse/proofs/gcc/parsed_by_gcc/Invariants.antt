use Rattle.std.specs.Prelude.{◌≡◌, ◌<◌, [], drop, map, vec_len}
use Rattle.serde_json.specs.View.{items_view}
use Rattle.ariadne_parse.specs.Gcc.{gcc_list}
use Rattle.ariadne_parse.specs.Read.{read}
use Rattle.ariadne_parse.proofs.gcc.parsed_by_gcc.Given as goal

-- the diagnostics so far, with the values that are still to come behind them, are all; after the first value
-- there is one at least
abbrev pub invariant-loop-value : goal.invariant-loop-value
invariant-loop-value l = record {
  all : gcc_list (map read l.all.items) (items_view (drop l.value-index l.values)) ≡ gcc_list [] (items_view l.fn.values);
  some : 0 < l.value-index → 0 < vec_len l.all;
}
