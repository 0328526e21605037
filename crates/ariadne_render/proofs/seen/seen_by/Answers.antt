use Rattle.ariadne_render.proofs.SeenPlaces.{next-char, next-mark}
use Rattle.ariadne_render.proofs.seen.seen_by.Goals as goal

-- a mark stands before the part
pub returns-then-place-there : goal.returns-then-place-there
returns-then-place-there c = λ parts apart there low. next-mark parts c.args.part c.args.place c.args.there.now apart there low c.if-place-there.true

-- the part has the place
pub returns-else-place-there : goal.returns-else-place-there
returns-else-place-there c = λ parts apart there low.
    next-char parts c.args.part c.args.place c.args.there.now there low c.if-place-there.false c.requires
