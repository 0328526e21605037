use Rattle.ariadne_parse.proofs.Texts.{last_is}
use Rattle.ariadne_parse.proofs.pieces.split_at_last.Goals as goal

pub returns : goal.returns
returns c = last_is c.args.mark c.args.text.now c.rsplit_once.result c.rsplit_once.ensures.cases c.requires
