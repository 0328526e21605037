use Rattle.std.specs.Prelude.{◌≡◌, ◌-◌}
use Rattle.std.specs.List.{find}
use Rattle.std.specs.Str.{IsUtf8}
use Rattle.ariadne_parse.specs.Heads.{is_among, ranges_in}
use Rattle.ariadne_parse.specs.ParsedLines.{head_parsed}
use Rattle.ariadne_parse.specs.ParsedDiagnostics.{own_range_of}
use Rattle.ariadne_parse.proofs.heads.own_range.Given as goal

-- none of the ranges so far has the span
abbrev pub invariant-loop-turn : goal.invariant-loop-turn
invariant-loop-turn l = record {
  is_text : IsUtf8 l.rest;
  same : own_range_of (head_parsed l.it) ≡ find (is_among l.it.start) (ranges_in (16 - l.turn) l.rest);
}
