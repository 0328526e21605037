use Rattle.std.proofs.Common.{◌≡◌, ◌++◌, map, take}
use Rattle.ariadne_search.specs.Search.{texts_of}
use Rattle.ariadne_search.proofs.search.push_entered.Given as goal

-- the folders that are passed were added
abbrev pub invariant-loop-folder : goal.invariant-loop-folder
invariant-loop-folder l =
    map (λ folder. folder.now) l.folders.items
    ≡ map (λ folder. folder.now) l.initial.folders.items ++ texts_of (take l.folder-index l.entered)
