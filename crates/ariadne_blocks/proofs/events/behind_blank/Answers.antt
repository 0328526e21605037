use Rattle.std.proofs.Common.{lit<}
use Rattle.std.proofs.lemmas.Str.Pattern.{strip_prefix_char}
use Rattle.ariadne_parse.proofs.Texts.{behind_is}
use Rattle.ariadne_blocks.proofs.events.behind_blank.Goals as goal

-- as std strips it
pub returns : goal.returns
returns c =
    behind_is 32 c.args.text.now c.strip_prefix.result
    (strip_prefix_char 32 c.args.text.now c.strip_prefix.result c.strip_prefix.ensures.cases (lit< tt))
