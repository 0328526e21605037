use Rattle.std.proofs.Common.{◌≡◌, ◌++◌, drop, map}
use Rattle.ariadne_snippets.specs.Snippets.{change_told, put_into}
use Rattle.ariadne_snippets.proofs.framed.puts.Given as goal

-- what the pieces so far are, and those of the rest
abbrev pub invariant-loop-piece : goal.invariant-loop-piece
invariant-loop-piece l =
    map change_told l.fixes.items ++ map (put_into l.line) (drop l.piece-index l.put) ≡ map (put_into l.line) l.put
