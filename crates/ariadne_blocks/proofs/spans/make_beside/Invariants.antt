use Rattle.std.proofs.Common.{◌≡◌, ◌++◌, take, drop}
use Rattle.std.specs.Prelude.{map}
use Rattle.ariadne_parse.specs.Spans.{seen}
use Rattle.ariadne_blocks.specs.Notes.{as_beside}
use Rattle.ariadne_blocks.proofs.spans.make_beside.Given as goal

-- the spans that are passed are beside, and the others will be
abbrev pub invariant-loop-span : goal.invariant-loop-span
invariant-loop-span l =
    map seen (take l.span-index l.spans) ++ map as_beside (map seen (drop l.span-index l.spans))
    ≡ map as_beside (map seen l.initial.spans)
