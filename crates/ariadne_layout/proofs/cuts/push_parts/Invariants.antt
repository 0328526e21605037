-- the parts of the labels so far are listed
use Rattle.std.proofs.Common.{◌≡◌, ◌++◌, take}
use Rattle.ariadne_layout.specs.Cuts.{parts_of_labels}
use Rattle.ariadne_layout.proofs.cuts.push_parts.Given as goal

abbrev pub invariant-loop-label : goal.invariant-loop-label
invariant-loop-label l = l.list.items ≡ l.fn.list.items ++ parts_of_labels l.spans l.all l.offset (take l.label-index l.labels)
