use Rattle.std.proofs.Common.{◌≡◌, ◌++◌, string_bytes, take}
use Rattle.std.specs.List.{flat_map}
use Rattle.ariadne_outputs.specs.Github.{notice_of}
use Rattle.ariadne_outputs.specs.Located.{located_span_of}
use Rattle.ariadne_outputs.proofs.github.push_notices.Given as goal

-- the notices of the spans so far were added
abbrev pub invariant-loop-it : goal.invariant-loop-it
invariant-loop-it l =
    string_bytes l.text ≡ string_bytes l.initial.text ++ flat_map (λ it. notice_of (located_span_of it)) (take l.it-index l.spans)
