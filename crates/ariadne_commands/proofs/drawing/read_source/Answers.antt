-- What a `String` holds is text.
use Rattle.std.proofs.lemmas.Str.{IsUtf8-string_bytes}
use Rattle.ariadne_commands.proofs.drawing.read_source.Goals as goal

pub returns-in-Ok-clause-text : goal.returns-in-Ok-clause-text
returns-in-Ok-clause-text g c = rw c.in_ok-from-in-Ok.ensures (IsUtf8-string_bytes c.in-Ok.text)
