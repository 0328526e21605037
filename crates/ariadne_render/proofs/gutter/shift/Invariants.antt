-- the starts from the first on up to this one are moved, the others are not
use Rattle.std.proofs.Common.{◌≡◌, ℕ, ◌+◌, ◌-◌, ◌<◌, ◌≤◌, get_or, length}
use Rattle.ariadne_render.proofs.gutter.shift.Given as goal

abbrev pub invariant-loop-k : goal.invariant-loop-k
invariant-loop-k l = record {
  kept : (j : ℕ) → j < l.first → get_or l.starts j 0 ≡ get_or l.fn.starts j 0;
  moved : (j : ℕ) → l.first ≤ j → j < l.k → j < length l.fn.starts → get_or l.starts j 0 ≡ get_or l.fn.starts j 0 + l.new - l.old;
  left : (j : ℕ) → l.k ≤ j → get_or l.starts j 0 ≡ get_or l.fn.starts j 0;
}
