-- The number that is read is that of the row's text.
use Rattle.std.proofs.Common.{◌∙◌}
use Rattle.std.specs.Str.Parse.{ExplainsUnsignedError, HasUnsignedDigitsIfOk, ParsesUnsigned}
use Rattle.clap.specs.Words.{found_of}
use Rattle.clap.proofs.WalkLemmas.{one_text-rows}
use Rattle.ariadne_show.proofs.Commands.{number_in}
use Rattle.ariadne_show.proofs.entries.number_of.Goals as goal

pub returns : goal.returns
returns c =
    let row = one_text-rows (found_of c.args.matches.now) c.args.name.now in
    number_in _ _ (λ text r. ParsesUnsigned 64 10 text r × ExplainsUnsignedError 10 text r × HasUnsignedDigitsIfOk text r) (λ text r read. read.0)
    (λ none. c.get_one.ensures.none (row ∙ none)) (λ text some. c.get_one.ensures.value text (row ∙ some))
