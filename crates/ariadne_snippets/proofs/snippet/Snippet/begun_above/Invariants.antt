use Rattle.std.proofs.Common.{◌≡◌, List, ℕ}
use Rattle.ariadne_snippets.specs.Snippets.{AreMarksIn}
use Rattle.ariadne_snippets.specs.declared.quoted.Quoted.{Quoted}
use Rattle.ariadne_snippets.proofs.snippet.Snippet.begun_above.Given as goal

-- the same line is quoted, and the marks are still those of the row
abbrev pub invariant-loop-place : goal.invariant-loop-place
invariant-loop-place l =
    (l.self.quoted ≡ l.initial.self.quoted)
    × ((quoted : Quoted) (row : List ℕ) → AreMarksIn quoted row l.initial.marks.items → AreMarksIn quoted row l.marks.items)
