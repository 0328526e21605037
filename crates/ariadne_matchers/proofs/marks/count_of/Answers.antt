use Rattle.std.proofs.lemmas.Iterator.{YieldsList-from_chars}
use Rattle.std.proofs.lemmas.Iterator.Consumers.{count_from_yields_List}
use Rattle.ariadne_matchers.proofs.marks.count_of.Goals as goal

-- each character is counted
pub returns : goal.returns
returns c =
    count_from_yields_List c.chars.result c.count.result c.count.ensures.ran
    (YieldsList-from_chars {s = c.chars.result} c.args.text.now c.utf8.text c.chars.ensures.rest)
