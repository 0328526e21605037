use Rattle.std.proofs.Common.{◌∙◌, arith}
use Rattle.std.proofs.lemmas.Bool.{le-ltb}
use Rattle.ariadne_layout.proofs.CutParts.{goes-on-held, goes-on-past}
use Rattle.ariadne_layout.proofs.cuts.goes_on.Goals as goal

-- a place of the text is one without columns
pub returns-then-place-len-clause-goes_on : goal.returns-then-place-len-clause-goes_on
returns-then-place-len-clause-goes_on c = λ t text held size.
    goes-on-held t text c.args.len c.args.place c.place_width.result size (omega arith) (c.place_width.ensures t text held (omega (arith, size)))

-- past it no place goes on
pub returns-else-place-len-clause-goes_on : goal.returns-else-place-len-clause-goes_on
returns-else-place-len-clause-goes_on c = λ t text held size. le-ltb c.args.place c.args.len (omega arith) ∙ goes-on-past t text c.args.len c.args.place size (omega arith)
