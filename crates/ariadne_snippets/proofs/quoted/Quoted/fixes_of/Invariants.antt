use Rattle.std.proofs.Common.{◌≡◌, ◌++◌, drop, map}
use Rattle.ariadne_snippets.specs.Snippets.{change_told, insertion}
use Rattle.ariadne_snippets.proofs.quoted.Quoted.fixes_of.Given as goal

-- what the texts so far say, and those of the rest
abbrev pub invariant-loop-piece : goal.invariant-loop-piece
invariant-loop-piece l =
    map change_told l.fixes.items ++ map (insertion l.self) (drop l.piece-index l.pieces)
    ≡ map (insertion l.self) l.pieces
