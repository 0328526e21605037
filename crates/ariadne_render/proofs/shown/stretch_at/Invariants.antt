-- the stretches that were passed show nothing from the place on
use Rattle.std.proofs.Common.{◌≡◌, ◌≤◌, ◌-◌, ℕ, drop, length}
use Rattle.ariadne_layout.specs.Tables.{shown_at}
use Rattle.ariadne_render.proofs.shown.stretch_at.Given as goal

abbrev pub invariant-loop-number : goal.invariant-loop-number
invariant-loop-number l = (k : ℕ) → l.place ≤ k → shown_at (drop l.number l.paints) k ≡ shown_at (drop l.first l.paints) k

-- fewer are left
abbrev pub decreases-loop-number : goal.decreases-loop-number
decreases-loop-number l = length l.paints - l.number
