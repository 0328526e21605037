use Rattle.std.proofs.Common.{◌≡◌, ◌≤◌, drop, take}
use Rattle.std.specs.Prelude.{map}
use Rattle.ariadne_matchers.specs.Catches.{caught_at}
use Rattle.ariadne_matchers.specs.Lasts.{place_lines}
use Rattle.ariadne_matchers.proofs.lasts.place_lines.Given as goal

-- those of the lines so far stand from the first on
abbrev pub invariant-loop-place : goal.invariant-loop-place
invariant-loop-place l = record {
  within : l.first ≤ l.place;
  same : place_lines (map caught_at (take l.place l.lines)) ≡ map caught_at (drop l.first (take l.place l.lines));
}
