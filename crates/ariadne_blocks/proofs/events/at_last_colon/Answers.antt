use Rattle.std.proofs.Common.{lit<}
use Rattle.ariadne_parse.proofs.Texts.{last_is}
use Rattle.ariadne_blocks.proofs.events.at_last_colon.Goals as goal

-- as std cuts it
pub returns : goal.returns
returns c = last_is 58 c.args.text.now c.rsplit_once.result c.rsplit_once.ensures.cases (lit< tt)
