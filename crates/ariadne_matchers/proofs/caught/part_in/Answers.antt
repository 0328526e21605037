use Rattle.std.proofs.Common.{lit<}
use Rattle.std.proofs.lemmas.Iterator.Consumers.{nth_from_yields_List}
use Rattle.std.proofs.lemmas.Iterator.Splits.{YieldsList-from_str_split}
use Rattle.ariadne_matchers.proofs.caught.part_in.Goals as goal

-- the parts are those of the text
pub returns : goal.returns
returns c =
    nth_from_yields_List c.nth.result _ c.args.number c.nth.ensures.ran
    (YieldsList-from_str_split 44 c.args.text.now (lit< tt) c.split.ensures.text c.split.ensures.has_more c.split.ensures.pattern)
