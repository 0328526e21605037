-- Where the label that is passed has a vertical, the next one at its place is seen there instead.
use Rattle.std.proofs.Common.{◌+◌, ◌∙◌, sym}
use Rattle.ariadne_layout.proofs.LabelVerticals.{passed-shown, passed-silent, vertical-there}
use Rattle.ariadne_layout.proofs.verticals.Verticals.pass.Goals as goal

-- what is seen at the place of a label stands there
pub replace-requires : goal.replace-requires
replace-requires c = vertical-there c.args.layout.now (c.args.rank + 1) _ c.vertical_at.result c.vertical_at.ensures

-- the label's vertical was seen there
pub returns-then-has_vertical : goal.returns-then-has_vertical
returns-then-has_vertical c =
    passed-shown c.args.layout.now c.args.rank c.labels.result.now _ c.args.self.now c.replace.new.self c.vertical_at.result c.labels.ensures c.requires
    (sym c.has_vertical.ensures ∙ c.if-has_vertical.true) c.vertical_at.ensures c.replace.ensures

-- a label without vertical hid none
pub returns-else-has_vertical : goal.returns-else-has_vertical
returns-else-has_vertical c =
    passed-silent c.args.layout.now c.args.rank c.labels.result.now _ c.args.self.now c.labels.ensures c.requires
    (sym c.has_vertical.ensures ∙ c.if-has_vertical.false)
