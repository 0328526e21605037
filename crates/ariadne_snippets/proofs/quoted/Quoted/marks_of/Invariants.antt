use Rattle.std.proofs.Common.{◌≡◌, ◌++◌, drop, map, All}
use Rattle.ariadne_snippets.specs.Snippets.{covered, extent_of, Covers}
use Rattle.ariadne_snippets.proofs.quoted.Quoted.marks_of.Given as goal

-- what the runs so far cover, and those of the rest
abbrev pub invariant-loop-place : goal.invariant-loop-place
invariant-loop-place l =
    (map extent_of l.marks.items ++ map (covered l.self) (drop l.place l.runs) ≡ map (covered l.self) l.runs)
    × All (Covers l.self) l.marks.items
