use Rattle.std.proofs.Common.{◌≡◌, ◌++◌, string_bytes, take}
use Rattle.ariadne_outputs.specs.Located.{said_lines}
use Rattle.ariadne_outputs.proofs.whole.push_said.Given as goal

-- the texts so far were added
abbrev pub invariant-loop-said : goal.invariant-loop-said
invariant-loop-said l =
    string_bytes l.text ≡ string_bytes l.initial.text ++ said_lines l.front (take l.said-index l.all)
