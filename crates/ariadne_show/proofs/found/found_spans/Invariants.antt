use Rattle.std.proofs.Common.{◌≡◌, map, take}
use Rattle.ariadne_show.specs.FoundSpans.{files_of, found_of}
use Rattle.ariadne_show.specs.FoundLabels.{all_found}
use Rattle.ariadne_show.proofs.found.found_spans.Given as goal

-- those that are passed were found
abbrev pub invariant-loop-span : goal.invariant-loop-span
invariant-loop-span l =
    map found_of l.found.items ≡ all_found (files_of l.shelf) (take l.span-index l.spans)
