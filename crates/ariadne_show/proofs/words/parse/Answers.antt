-- `clap` is exact of this command, and else there was no memory for it.
use Rattle.ariadne_show.proofs.Commands.{parsed}
use Rattle.ariadne_show.proofs.words.parse.Goals as goal

pub returns : goal.returns
returns c =
    let made = c.in_ok-command.ensures in
    parsed made.0 made.1 _ made.2 _ _ c.try_get_matches_from.ensures.matches c.try_get_matches_from.ensures.kinds
