use Rattle.std.proofs.Common.{◌≡◌, ◌++◌, drop, map}
use Rattle.ariadne_snippets.specs.Snippets.{change_told, removal}
use Rattle.ariadne_snippets.proofs.quoted.Quoted.removals_in.Given as goal

-- what the runs so far say, and those of the rest
abbrev pub invariant-loop-run : goal.invariant-loop-run
invariant-loop-run l =
    map change_told l.fixes.items ++ map (removal l.self) (drop l.run-index l.run-items)
    ≡ map (removal l.self) l.run-items
