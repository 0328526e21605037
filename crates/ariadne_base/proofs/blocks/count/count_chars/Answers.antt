use Rattle.std.proofs.Common.{sym, ◌∙◌, ap}
use Rattle.std.specs.Fmt.{is_char_start}
use Rattle.std.specs.List.{count_by}
use Rattle.ariadne_base.proofs.CharStarts.{length-chars}
use Rattle.ariadne_base.proofs.blocks.count.count_chars.Goals as goal

-- there are as many characters as bytes that begin one
pub returns : goal.returns
returns c = c.count_starts.ensures ∙ ap (count_by is_char_start) c.as_bytes.ensures.value ∙ sym (length-chars c.args.text.now c.utf8.text)
