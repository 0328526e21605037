use Rattle.std.proofs.Common.{◌≡◌, map}
use Rattle.ariadne_parse.specs.Spans.{seen}
use Rattle.ariadne_blocks.specs.Repeats.{once}
use Rattle.ariadne_blocks.proofs.repeats.drop_repeats.Given as goal

-- the spans so far stand there without repeats
abbrev pub invariant-loop-span : goal.invariant-loop-span
invariant-loop-span l = map seen l.spans.items ≡ once (map seen l.yielded)
