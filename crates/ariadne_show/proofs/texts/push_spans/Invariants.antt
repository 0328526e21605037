use Rattle.std.proofs.Common.{◌≡◌, ◌++◌, take}
use Rattle.ariadne_show.specs.TextDiagnostics.{said_spans, said_texts}
use Rattle.ariadne_show.proofs.texts.push_spans.Given as goal

-- what the spans that are passed say stands behind
abbrev pub invariant-loop-span : goal.invariant-loop-span
invariant-loop-span l =
    said_texts l.texts.items ≡ said_texts l.initial.texts.items ++ said_spans (take l.span-index l.spans)
