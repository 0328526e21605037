use Rattle.std.proofs.lemmas.Str.Pattern.{strip_suffix_char}
use Rattle.ariadne_parse.proofs.Texts.{in_front_is}
use Rattle.ariadne_parse.proofs.pieces.in_front_of.Goals as goal

pub returns : goal.returns
returns c =
    in_front_is c.args.mark c.args.text.now c.strip_suffix.result
    (strip_suffix_char c.args.mark c.args.text.now c.strip_suffix.result c.strip_suffix.ensures.cases c.requires)
