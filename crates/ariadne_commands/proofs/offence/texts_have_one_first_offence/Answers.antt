use Rattle.ariadne_commands.proofs.OneOffence.{same_offence}
use Rattle.ariadne_commands.proofs.offence.texts_have_one_first_offence.Goals as goal

pub returns : goal.returns
returns c = same_offence
