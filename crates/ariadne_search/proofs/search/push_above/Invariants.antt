use Rattle.std.proofs.Common.{◌≡◌, ◌++◌, ◌-◌, map}
use Rattle.std.specs.Prelude.{option_map}
use Rattle.ariadne_search.specs.Search.{above}
use Rattle.ariadne_search.proofs.search.push_above.Given as goal

-- the folders that were added, and those above the last of them
abbrev pub invariant-loop-turn : goal.invariant-loop-turn
invariant-loop-turn l =
    map (λ folder. folder.now) l.folders.items ++ above (64 - l.turn) (option_map (λ path. path.now) l.next)
    ≡ map (λ folder. folder.now) l.initial.folders.items ++ above 64 (option_map (λ path. path.now) l.fn.path)
