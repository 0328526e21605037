-- The definition has the same two cases.
use Rattle.std.proofs.Common.{refl}
use Rattle.ariadne_picture.specs.Accept.{offset_in_chars}
use Rattle.ariadne_report.proofs.accept.counted_in_chars.Goals as goal

-- an offset in bytes is looked up
pub returns-in-Byte-clause-offset : goal.returns-in-Byte-clause-offset
unfolding offset_in_chars
returns-in-Byte-clause-offset g c = rw c.in-Byte.is c.char_offset.ensures.offset

-- one in characters stays
pub returns-in-Char-clause-offset : goal.returns-in-Char-clause-offset
unfolding offset_in_chars
returns-in-Char-clause-offset g c = rw c.in-Char.is refl
