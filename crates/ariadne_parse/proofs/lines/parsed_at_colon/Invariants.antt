use Rattle.std.specs.Prelude.{◌≡◌, ◌-◌, drop, take}
use Rattle.std.specs.List.{filter_map}
use Rattle.std.specs.Str.{IsCharBoundary}
use Rattle.ariadne_parse.specs.Heads.{colons_from, first, head_behind, head_in, read_at}
use Rattle.ariadne_parse.proofs.lines.parsed_at_colon.Given as goal

-- at the colons so far the line tells nothing
abbrev pub invariant-loop-turn : goal.invariant-loop-turn
invariant-loop-turn l = record {
  is_boundary : IsCharBoundary l.line l.from;
  same : head_in l.line ≡ first (filter_map (read_at head_behind l.line) (take (8 - l.turn) (colons_from l.from (drop l.from l.line))));
}
