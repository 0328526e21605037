use Rattle.std.proofs.Common.{◌≡◌, ◌++◌, take}
use Rattle.ariadne_show.specs.TextDiagnostics.{said_texts}
use Rattle.ariadne_show.proofs.texts.push_copies.Given as goal

-- the texts that are passed stand behind
abbrev pub invariant-loop-text : goal.invariant-loop-text
invariant-loop-text l =
    said_texts l.texts.items ≡ said_texts l.initial.texts.items ++ said_texts (take l.text-index l.all)
