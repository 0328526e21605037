use Rattle.std.proofs.Common.{◌≡◌, ◌++◌, map, take}
use Rattle.ariadne_search.specs.Search.{joined, texts_of}
use Rattle.ariadne_search.proofs.search.push_joined.Given as goal

-- the paths below the folders that are passed were added
abbrev pub invariant-loop-folder : goal.invariant-loop-folder
invariant-loop-folder l =
    texts_of l.paths.items
    ≡ texts_of l.initial.paths.items ++ joined (map (λ folder. folder.now) (take l.folder-index l.folders)) l.name
