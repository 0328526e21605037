-- The length of a text is that of its bytes or of its characters.
use Rattle.std.proofs.Common.{sym, ap, ◌∙◌, subst, length}
use Rattle.std.specs.Str.{IsUtf8}
use Rattle.std.proofs.lemmas.Str.{encodes-chars}
use Rattle.ariadne_picture.specs.Accept.{text_len}
use Rattle.ariadne_report.proofs.accept.text_len.Goals as goal

-- the bytes of the characters of a text are the text
pub returns-in-Byte : goal.returns-in-Byte
unfolding text_len
returns-in-Byte g c =
    let utf8 : IsUtf8 c.args.source.now.text = subst IsUtf8 c.text.ensures c.text.utf8 in
    rw c.in-Byte.is (ap length c.text.ensures ∙ ap length (sym (encodes-chars c.args.source.now.text utf8)))

-- the length of a source is that of its characters
pub returns-in-Char : goal.returns-in-Char
unfolding text_len
returns-in-Char g c = rw c.in-Char.is c.len.ensures
