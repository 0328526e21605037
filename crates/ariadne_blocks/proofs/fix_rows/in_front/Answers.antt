use Rattle.ariadne_parse.proofs.Texts.{in_front_text_is}
use Rattle.ariadne_blocks.proofs.fix_rows.in_front.Goals as goal

-- as std strips it
pub returns : goal.returns
returns c = in_front_text_is c.args.end.now c.args.text.now c.strip_suffix.result c.strip_suffix.ensures.cases
