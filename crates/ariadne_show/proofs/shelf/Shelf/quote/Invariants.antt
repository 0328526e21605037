use Rattle.std.proofs.Common.{take}
use Rattle.ariadne_show.specs.ReadFiles.{AreQuoted}
use Rattle.ariadne_show.proofs.shelf.Shelf.quote.Given as goal

-- the files of the spans that are passed are held
abbrev pub invariant-loop-span : goal.invariant-loop-span
invariant-loop-span l = AreQuoted l.quoted (take l.span-index l.spans) l.fn.self l.self
