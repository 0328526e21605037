use Rattle.std.proofs.Common.{subst}
use Rattle.ariadne_base.specs.Separators.{IsCharPlace}
use Rattle.ariadne_base.proofs.CharPlaces.{place_is}
use Rattle.ariadne_base.proofs.blocks.place.byte_of_char.Goals as goal

-- the bytes before the place are those of the characters before it
pub returns : goal.returns
returns c =
    place_is c.args.text.now c.args.number c.place_of.result c.utf8.text
    (subst (λ bs. IsCharPlace bs c.args.number c.place_of.result) c.as_bytes.ensures.value c.place_of.ensures)
