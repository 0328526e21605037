use Rattle.std.specs.Prelude.{◌≡◌, ◌++◌, drop, map, string_bytes}
use Rattle.ariadne_parse.specs.Proposed.{edit_of}
use Rattle.ariadne_sarif.specs.DocumentParts.{edit_words}
use Rattle.ariadne_sarif.proofs.fixing.words_of.Given as goal

-- the texts so far and those that are still to come are all
abbrev pub invariant-loop-change : goal.invariant-loop-change
invariant-loop-change l =
    map string_bytes l.all.items ++ map edit_words (map edit_of (drop l.change-index l.changes))
    ≡ map edit_words (map edit_of l.fn.changes)
