use Rattle.std.proofs.lemmas.Str.Pattern.{split_once_first}
use Rattle.ariadne_parse.proofs.Texts.{split_is}
use Rattle.ariadne_parse.proofs.pieces.split_once.Goals as goal

pub returns : goal.returns
returns c =
    split_is c.args.mark c.args.text.now c.split_once.result
    (split_once_first c.args.mark c.args.text.now c.split_once.result c.split_once.ensures.cases c.requires)
