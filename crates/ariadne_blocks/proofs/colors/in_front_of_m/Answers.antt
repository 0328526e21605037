use Rattle.std.proofs.Common.{lit<}
use Rattle.std.proofs.lemmas.Str.Pattern.{strip_suffix_char}
use Rattle.ariadne_parse.proofs.Texts.{in_front_is}
use Rattle.ariadne_blocks.proofs.colors.in_front_of_m.Goals as goal

-- as std strips it
pub returns : goal.returns
returns c =
    in_front_is 109 c.args.text.now c.strip_suffix.result
    (strip_suffix_char 109 c.args.text.now c.strip_suffix.result c.strip_suffix.ensures.cases (lit< tt))
