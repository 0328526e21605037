use Rattle.std.specs.Prelude.{◌≡◌, ◌++◌, drop, map, string_bytes}
use Rattle.std.specs.List.{concat}
use Rattle.ariadne_parse.specs.Fixes.{further_words, reasoned_words}
use Rattle.ariadne_parse.proofs.fixes.reasoned_text.Given as goal

-- what is said so far, and the changes that are still to come, are the help
abbrev pub invariant-loop-change : goal.invariant-loop-change
invariant-loop-change l =
    string_bytes l.help ++ concat (map further_words (map string_bytes (drop l.change-index l.others)))
    ≡ reasoned_words l.fn.why l.fn.first (map string_bytes l.fn.others)
