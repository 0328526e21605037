-- the parts that were passed end by the place
use Rattle.std.proofs.Common.{◌≤◌, ◌-◌, length, take}
use Rattle.ariadne_layout.specs.Cuts.{end_of}
use Rattle.ariadne_render.proofs.seen.part_at.Given as goal

abbrev pub invariant-loop-number : goal.invariant-loop-number
invariant-loop-number l = end_of 0 (take l.first l.parts) ≤ l.place → end_of 0 (take l.number l.parts) ≤ l.place

-- fewer are left
abbrev pub decreases-loop-number : goal.decreases-loop-number
decreases-loop-number l = length l.parts - l.number
