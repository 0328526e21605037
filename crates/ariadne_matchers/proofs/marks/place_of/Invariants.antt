use Rattle.std.proofs.Common.{◌≡◌, drop}
use Rattle.ariadne_matchers.specs.QuotedMarks.{found_in}
use Rattle.ariadne_matchers.proofs.marks.place_of.Given as goal

-- the letters stand nowhere so far
abbrev pub invariant-loop-place : goal.invariant-loop-place
invariant-loop-place l = found_in l.letters 0 l.line ≡ found_in l.letters l.place (drop l.place l.line)
