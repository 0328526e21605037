use Rattle.std.proofs.Common.{◌≡◌, drop}
use Rattle.ariadne_matchers.specs.QuotedMarks.{begin_line}
use Rattle.ariadne_matchers.proofs.marks.begins_with.Given as goal

-- the letters so far are the same
abbrev pub invariant-loop-place : goal.invariant-loop-place
invariant-loop-place l = begin_line l.letters l.line ≡ begin_line (drop l.place l.letters) (drop l.place l.line)
