use denote.Shadow.{shadow}
use denote.Text.{Utf8}
use Rattle.std.proofs.Common.{length}
use Rattle.std.specs.Prelude.{All}
use Rattle.ariadne_snippets.specs.Snippets.{IsPartOf}
use Rattle.ariadne_snippets.proofs.Parts.{IsCut}
use Rattle.ariadne_snippets.proofs.rows.parts_of.Given as goal

-- the row is cut in front of what is left, and what was found are parts of it
abbrev pub invariant-loop-rest : goal.invariant-loop-rest
invariant-loop-rest l =
    shadow (Utf8 l.rest) × IsCut l.start l.row l.rest l.column × All (IsPartOf l.start l.row) l.parts.items

-- less is left
abbrev pub decreases-loop-rest : goal.decreases-loop-rest
decreases-loop-rest l = length l.rest
