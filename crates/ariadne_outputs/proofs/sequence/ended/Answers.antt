use Rattle.std.proofs.Common.{ap, sym, ◌∙◌}
use Rattle.std.specs.Prelude.{option_map}
use Rattle.ariadne_outputs.specs.SequenceViews.{sequence_of}
use Rattle.ariadne_outputs.proofs.SequenceLemmas.{no_end}
use Rattle.ariadne_outputs.proofs.sequence.ended.Goals as goal

-- neither letter stands there
pub returns-in_err-behind : goal.returns-in_err-behind
unfolding lib.Utf8.encode
returns-in_err-behind c =
    ap (option_map sequence_of) c.from_residual.ensures
    ∙ sym (no_end c.args.parameters.now c.args.text.now c.in_default.ensures.cases c.in_err-behind.ensures.cases)
