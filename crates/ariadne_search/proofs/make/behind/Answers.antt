use Rattle.ariadne_search.proofs.Words.{behind_is}
use Rattle.ariadne_search.proofs.make.behind.Goals as goal

pub returns : goal.returns
returns c = behind_is c.args.words.now c.args.text.now c.strip_prefix.result c.strip_prefix.ensures.cases
