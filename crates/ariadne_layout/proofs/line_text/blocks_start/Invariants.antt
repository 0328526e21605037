use Rattle.std.proofs.Common.{◌≡◌, ℕ, ◌<◌, ◌≤◌, length, get_or}
use Rattle.ariadne_layout.proofs.line_text.blocks_start.Given as goal

-- what stands behind are blanks
abbrev pub invariant-loop-start : goal.invariant-loop-start
invariant-loop-start l = (l.start ≤ length l.bytes) × ((k : ℕ) → l.start ≤ k → k < length l.bytes → get_or l.bytes k 0 ≡ 32)

abbrev pub decreases-loop-start : goal.decreases-loop-start
decreases-loop-start l = l.start
