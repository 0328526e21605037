use Rattle.std.specs.Prelude.{◌≡◌, ◌-◌, drop, take}
use Rattle.std.specs.List.{filter_map}
use Rattle.std.specs.Str.{IsCharBoundary}
use Rattle.ariadne_parse.specs.Fronts.{context_behind, context_in}
use Rattle.ariadne_parse.specs.Heads.{colons_from, first, read_at}
use Rattle.ariadne_parse.proofs.fronts.context.Given as goal

-- at the colons so far the line tells no context
abbrev pub invariant-loop-turn : goal.invariant-loop-turn
invariant-loop-turn l = record {
  is_boundary : IsCharBoundary l.line l.from;
  same : context_in l.line ≡ first (filter_map (read_at context_behind l.line) (take (8 - l.turn) (colons_from l.from (drop l.from l.line))));
}
