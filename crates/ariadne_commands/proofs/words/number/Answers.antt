-- The digits of a word, as they are parsed.
use Rattle.std.proofs.Common.{rules}
use Rattle.ariadne_commands.proofs.Numbers.{number_is}
use Rattle.ariadne_commands.proofs.words.number.Goals as goal

pub returns-then-starts_with : goal.returns-then-starts_with
returns-then-starts_with c = number_is _ _ (search rules)

pub returns : goal.returns
returns c = number_is _ _ (search rules)
