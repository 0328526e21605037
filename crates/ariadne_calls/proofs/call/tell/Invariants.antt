-- The labels so far are told, and the other places are as they were.
use Rattle.std.proofs.Common.{◌≡◌, ℕ, ◌<◌, ◌≤◌, length}
use Rattle.std.specs.Prelude.{slice_get}
use Rattle.ariadne_calls.proofs.call.tell.Given as goal

abbrev pub invariant-loop-i : goal.invariant-loop-i
invariant-loop-i l = record {
  same : length l.left ≡ length l.fn.left;
  told : (k : ℕ) → k < l.i → slice_get l.left k ≡ slice_get l.left_out k;
  rest : (k : ℕ) → l.i ≤ k → slice_get l.left k ≡ slice_get l.fn.left k;
}
