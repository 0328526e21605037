-- so far the stretches show what the first labels do
use Rattle.std.proofs.Common.{take}
use Rattle.ariadne_layout.specs.Choices.{inline_infos}
use Rattle.ariadne_layout.proofs.Apart.{Apart}
use Rattle.ariadne_layout.proofs.stretches.take_apart.Given as goal

abbrev pub invariant-loop-label : goal.invariant-loop-label
invariant-loop-label l = Apart (inline_infos (take l.label-index l.labels)) l.offset l.place l.list.items
