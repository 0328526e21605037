use Rattle.ariadne_parse.proofs.Texts.{behind_text_is}
use Rattle.ariadne_parse.proofs.pieces.behind_text.Goals as goal

pub returns : goal.returns
returns c = behind_text_is c.args.words.now c.args.text.now c.strip_prefix.result c.strip_prefix.ensures.cases
