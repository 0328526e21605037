use Rattle.std.proofs.Common.{◌≡◌, ◌++◌, string_bytes, take}
use Rattle.std.specs.List.{flat_map}
use Rattle.ariadne_outputs.specs.Located.{located_span_of}
use Rattle.ariadne_outputs.specs.Short.{span_row}
use Rattle.ariadne_outputs.proofs.short.push_spans.Given as goal

-- the rows of the spans so far were added
abbrev pub invariant-loop-it : goal.invariant-loop-it
invariant-loop-it l =
    string_bytes l.text ≡ string_bytes l.initial.text ++ flat_map (λ it. span_row (located_span_of it)) (take l.it-index l.spans)
