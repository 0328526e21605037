use Rattle.std.proofs.Common.{◌∙◌, ◌++◌, arith, ap, sym, append-nil}
use Rattle.std.proofs.lemmas.List.{take_all}
use Rattle.ariadne_layout.specs.Cuts.{parts_of_labels}
use Rattle.ariadne_layout.proofs.CutParts.{labels-pushed}
use Rattle.ariadne_layout.proofs.cuts.push_parts.Goals as goal

-- no label has no part
pub loop-label-init : goal.loop-label-init
loop-label-init c = sym (append-nil c.args.list.now.items)

-- a turn looks at one label more
pub loop-label-preserved : goal.loop-label-preserved
loop-label-preserved c =
    labels-pushed c.args.spans c.args.all c.args.offset c.args.labels.now c.loop-label.label-index _ c.args.list.now.items c.loop-label.list.items
    c.push_part.new.list.items (omega arith) c.in_ok-push_part.ensures c.loop-label.invariant

-- the last turn has looked at all
pub returns : goal.returns
returns c =
    c.loop-label.invariant
    ∙ ap (λ t. c.args.list.now.items ++ parts_of_labels c.args.spans c.args.all c.args.offset t)
    (take_all c.loop-label.label-index c.args.labels.now (omega arith))
