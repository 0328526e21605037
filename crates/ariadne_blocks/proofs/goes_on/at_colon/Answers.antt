use Rattle.std.proofs.Common.{lit<}
use Rattle.std.proofs.lemmas.Str.Pattern.{split_once_first}
use Rattle.ariadne_parse.proofs.Texts.{split_is}
use Rattle.ariadne_blocks.proofs.goes_on.at_colon.Goals as goal

-- as std cuts it
pub returns : goal.returns
returns c =
    split_is 58 c.args.text.now c.split_once.result
    (split_once_first 58 c.args.text.now c.split_once.result c.split_once.ensures.cases (lit< tt))
