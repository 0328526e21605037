use Rattle.std.proofs.Common.{◌≡◌, length, map, string_bytes, false}
use Rattle.ariadne_commands.specs.Words.{asking_after, asking_of}
use Rattle.ariadne_commands.specs.ReadWords.{options_asking}
use Rattle.ariadne_commands.proofs.words.read_options.Given as goal

-- each turn takes a word from those that are left, or two
abbrev pub decreases-loop-word : goal.decreases-loop-word
decreases-loop-word l = length l.rest

-- what all words ask for, the rest asks for behind the options so far
abbrev pub invariant-loop-word : goal.invariant-loop-word
invariant-loop-word l =
    asking_of (map string_bytes l.words) ≡ asking_after false (options_asking l.options) (map string_bytes l.rest)
