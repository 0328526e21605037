-- the columns of the places so far are held
use Rattle.std.proofs.Common.{◌≡◌, ◌<◌, ◌≤◌, ◌+◌, ℕ}
use Rattle.ariadne_layout.specs.Knots.{HoldColumns}
use Rattle.ariadne_layout.proofs.line_columns.push_even.Given as goal

abbrev pub invariant-loop-place : goal.invariant-loop-place
invariant-loop-place l =
    (f : ℕ → ℕ) → HoldColumns f l.fn.knots.items l.from l.column → ((k : ℕ) → l.from ≤ k → k < l.to → f (k + 1) ≡ f k + 1)
    → HoldColumns f l.knots.items l.place l.next
