-- Byte by byte.
use Rattle.ariadne_safe.proofs.VisibleLaws.{no_control}
use Rattle.ariadne_safe.proofs.laws.such_bytes_have_no_control.Goals as goal

pub returns : goal.returns
returns c picture h = no_control picture h
