use Rattle.std.specs.Str.Iter.{chars_rest}
use Rattle.ariadne_blocks.proofs.Words.{IsMissing}
use Rattle.ariadne_blocks.proofs.message.has_long_word.Given as goal

-- so many characters are missing, where the rest was not read yet
abbrev pub invariant-loop-character : goal.invariant-loop-character
invariant-loop-character l =
    IsMissing l.text (chars_rest l.character-iterator) l.least l.missing l.is_quoted
