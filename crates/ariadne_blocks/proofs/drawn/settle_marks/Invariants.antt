use Rattle.std.proofs.Common.{◌≡◌, ◌++◌, [], take, drop}
use Rattle.std.specs.Prelude.{map}
use Rattle.std.specs.List.{flat_map}
use Rattle.ariadne_parse.specs.Spans.{seen}
use Rattle.ariadne_blocks.specs.MarkedLocations.{all_settled, marks_at, marks_of}
use Rattle.ariadne_blocks.proofs.drawn.settle_marks.Given as goal

-- the spans that are passed are settled, and the others will be
abbrev pub invariant-loop-span : goal.invariant-loop-span
invariant-loop-span l = record {
  spans : map seen (take l.span-index l.spans)
      ++ all_settled (map marks_of l.own.items) (map marks_of l.drawn.items) (map seen (drop l.span-index l.spans))
      ≡ all_settled [] (map marks_of l.drawn.items) (map seen l.initial.spans);
  own : map marks_of l.own.items ≡ flat_map marks_at (map seen (take l.span-index l.spans));
}
