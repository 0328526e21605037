use Rattle.std.proofs.Common.{◌≡◌, ◌++◌, drop, map, All}
use Rattle.ariadne_snippets.specs.Snippets.{covered, extent_of, runs_of, Covers}
use Rattle.ariadne_snippets.proofs.quoted.Quoted.take_parts.Given as goal

-- the runs of the parts so far, and those of the rest; and the marks that cover what the runs do
abbrev pub invariant-loop-part : goal.invariant-loop-part
invariant-loop-part l =
    (l.runs.items ++ runs_of l.self.unit (drop l.part-index l.parts) ≡ runs_of l.self.unit l.parts)
    × (map extent_of l.marks.items ≡ map (covered l.self) l.runs.items)
    × All (Covers l.self) l.marks.items
