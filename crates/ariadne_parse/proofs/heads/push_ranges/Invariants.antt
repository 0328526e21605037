use Rattle.std.specs.Prelude.{◌≡◌, ◌++◌, ◌-◌, map}
use Rattle.std.specs.Str.{IsUtf8}
use Rattle.ariadne_parse.specs.Heads.{ranges_in}
use Rattle.ariadne_parse.specs.Spans.{seen}
use Rattle.ariadne_parse.specs.ParsedDiagnostics.{other_spans, others_among}
use Rattle.ariadne_parse.specs.ParsedLines.{head_parsed}
use Rattle.ariadne_parse.proofs.heads.push_ranges.Given as goal

-- the spans that are there and those that are still to come are all
abbrev pub invariant-loop-turn : goal.invariant-loop-turn
invariant-loop-turn l = record {
  is_text : IsUtf8 l.rest;
  same : map seen l.spans.items ++ others_among (head_parsed l.it) l.counting (ranges_in (16 - l.turn) l.rest)
      ≡ map seen l.fn.spans.items ++ other_spans (head_parsed l.it) l.counting;
}
