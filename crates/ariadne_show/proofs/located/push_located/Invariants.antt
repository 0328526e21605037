use Rattle.std.proofs.Common.{◌≡◌, ◌++◌, map, take}
use Rattle.ariadne_outputs.specs.Located.{located_spans_of}
use Rattle.ariadne_show.specs.FoundSpans.{files_of}
use Rattle.ariadne_show.specs.LinesAndColumns.{located_in}
use Rattle.ariadne_show.proofs.located.push_located.Given as goal

-- where the spans that are passed stand
abbrev pub invariant-loop-span : goal.invariant-loop-span
invariant-loop-span l =
    located_spans_of l.located.items ≡ located_spans_of l.initial.located.items
    ++ map (located_in (files_of l.shelf) l.unit) (take l.span-index l.spans)
