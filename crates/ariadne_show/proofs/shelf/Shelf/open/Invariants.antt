use Rattle.ariadne_show.proofs.Reading.{Opening}
use Rattle.ariadne_show.proofs.shelf.Shelf.open.Given as goal

-- the spans that are passed were settled, and the others are as they were
abbrev pub invariant-loop-span : goal.invariant-loop-span
invariant-loop-span g l = Opening l.search l.initial.spans l.spans l.span-index l.initial.self l.self
