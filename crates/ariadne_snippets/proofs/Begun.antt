-- Marks that begin further up.
use Rattle.std.proofs.Common.{List, ℕ}
use Rattle.std.specs.Prelude.{All}
use Rattle.std.specs.List.{AllZip}
use Rattle.ariadne_snippets.specs.Snippets.{AreMarksIn, Covers, IsMarkOf}
use Rattle.ariadne_snippets.specs.declared.quoted.Quoted.{Quoted}
use Rattle.ariadne_snippets.specs.declared.run.Run.{Run}
use Rattle.ariadne_snippets.specs.declared.taken.Mark.{Mark}

-- they are still those of the row
pub begun_marks : (quoted : Quoted) (row : List ℕ) (marks begun : List Mark)
    → ((quoted : Quoted) (runs : List Run) → AllZip (IsMarkOf quoted) runs marks → AllZip (IsMarkOf quoted) runs begun)
    → ((quoted : Quoted) → All (Covers quoted) marks → All (Covers quoted) begun)
    → AreMarksIn quoted row marks → AreMarksIn quoted row begun
begun_marks quoted row marks begun each cover is = record {
  parts = is.parts;
  stand = is.stand;
  runs = is.runs;
  each = each quoted quoted.runs.items is.each;
  cover = cover quoted is.cover;
}
