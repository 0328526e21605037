use Rattle.std.proofs.Common.{take}
use Rattle.ariadne_search.specs.Search.{texts_of}
use Rattle.ariadne_show.proofs.Reading.{Searching}
use Rattle.ariadne_show.proofs.shelf.Shelf.find.Given as goal

-- the paths that are passed were tried, and can't be read
abbrev pub invariant-loop-path : goal.invariant-loop-path
invariant-loop-path g l = Searching (texts_of (take l.path-index l.path-items)) l.initial.self l.self
