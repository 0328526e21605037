use Rattle.std.proofs.Common.{◌≡◌, ◌+◌, drop}
use Rattle.std.specs.List.{prefix_len}
use Rattle.ariadne_parse.specs.Columns.{is_word}
use Rattle.ariadne_parse.proofs.columns.word_length.Given as goal

-- what is passed is of the word
abbrev pub invariant-loop-span : goal.invariant-loop-span
invariant-loop-span l =
    l.span + prefix_len is_word (drop l.span l.text) ≡ prefix_len is_word l.text
