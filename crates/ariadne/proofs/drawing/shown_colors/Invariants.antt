use Rattle.std.proofs.Common.{◌≡◌, map, take}
use Rattle.ariadne.proofs.drawing.shown_colors.Given as goal

abbrev pub invariant-loop-label : goal.invariant-loop-label
invariant-loop-label g l = l.labels.items ≡ map (λ label. label.color) (take l.label-index l.label-items)
