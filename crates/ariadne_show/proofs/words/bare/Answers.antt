-- The settings stand on a new command.
use Rattle.ariadne_show.proofs.Commands.{with_settings}
use Rattle.ariadne_show.proofs.words.bare.Goals as goal

pub returns : goal.returns
returns c =
    with_settings _ _ _ _ _ _ _ _ c.new.ensures.app c.version.ensures c.override_help.ensures c.no_binary_name.ensures
    c.args_override_self.ensures
