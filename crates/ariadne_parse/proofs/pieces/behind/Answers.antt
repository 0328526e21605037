use Rattle.std.proofs.lemmas.Str.Pattern.{strip_prefix_char}
use Rattle.ariadne_parse.proofs.Texts.{behind_is}
use Rattle.ariadne_parse.proofs.pieces.behind.Goals as goal

pub returns : goal.returns
returns c =
    behind_is c.args.mark c.args.text.now c.strip_prefix.result
    (strip_prefix_char c.args.mark c.args.text.now c.strip_prefix.result c.strip_prefix.ensures.cases c.requires)
