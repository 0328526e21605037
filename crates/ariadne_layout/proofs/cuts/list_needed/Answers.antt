use Rattle.std.proofs.Common.{◌∙◌, ap, option_to_list}
use Rattle.std.proofs.lemmas.Result.{on_ok_weaker}
use Rattle.ariadne_picture.specs.Columns.{or_begin}
use Rattle.ariadne_layout.proofs.CutParts.{needed-listed}
use Rattle.ariadne_layout.proofs.cuts.list_needed.Goals as goal

-- the parts of the margin label and of the others are those of the labels that the line is cut round
pub returns : goal.returns
returns c =
    let y = c.args.layout.now in
    let listed = needed-listed c.args.spans c.has_told-all.result y.offset c.offset.result (option_to_list y.margin) y.labels c.labels.result.now
    c.clear.new.self.items c.push_margin.new.list.items c.push_parts.new.list.items c.clear.ensures.items c.in_ok-push_margin.ensures
    c.offset.ensures c.labels.ensures c.in_ok-push_parts.ensures c.has_told-all.ensures in
    on_ok_weaker c.push_begin.result (λ e. e ∙ ap or_begin listed) c.push_begin.ensures
