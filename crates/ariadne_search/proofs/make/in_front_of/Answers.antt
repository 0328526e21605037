use Rattle.ariadne_search.proofs.Words.{in_front_is}
use Rattle.ariadne_search.proofs.make.in_front_of.Goals as goal

pub returns : goal.returns
returns c = in_front_is c.args.words.now c.args.text.now c.strip_suffix.result c.strip_suffix.ensures.cases
