use Rattle.std.proofs.lemmas.Str.Pattern.{strip_prefix_char}
use Rattle.ariadne_outputs.proofs.SequenceLemmas.{behind_letter_is}
use Rattle.ariadne_outputs.proofs.sequence.behind_letter.Goals as goal

-- it was cut off
pub returns : goal.returns
returns c =
    behind_letter_is c.args.letter c.args.text.now c.strip_prefix.result
    (strip_prefix_char c.args.letter c.args.text.now c.strip_prefix.result c.strip_prefix.ensures.cases c.requires)
