use Rattle.ariadne_parse.proofs.Contained.{contains_is}
use Rattle.ariadne_parse.proofs.pieces.contains.Goals as goal

pub returns : goal.returns
returns c = contains_is c.contains.result c.args.words.now c.args.text.now c.contains.ensures.cases
