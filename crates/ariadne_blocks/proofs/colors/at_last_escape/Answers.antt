use Rattle.std.proofs.Common.{lit<}
use Rattle.ariadne_parse.proofs.Texts.{last_is}
use Rattle.ariadne_blocks.proofs.colors.at_last_escape.Goals as goal

-- as std cuts it
pub returns : goal.returns
returns c = last_is 27 c.args.text.now c.rsplit_once.result c.rsplit_once.ensures.cases (lit< tt)
