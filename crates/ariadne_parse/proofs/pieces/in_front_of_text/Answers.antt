use Rattle.ariadne_parse.proofs.Texts.{in_front_text_is}
use Rattle.ariadne_parse.proofs.pieces.in_front_of_text.Goals as goal

pub returns : goal.returns
returns c = in_front_text_is c.args.words.now c.args.text.now c.strip_suffix.result c.strip_suffix.ensures.cases
