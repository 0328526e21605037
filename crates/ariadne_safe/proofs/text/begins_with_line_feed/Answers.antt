use Rattle.std.proofs.Common.{◌∙◌, lit<}
use Rattle.ariadne_base.proofs.Scanning.{first_byte}
use Rattle.ariadne_safe.proofs.text.begins_with_line_feed.Goals as goal

-- the first byte tells the first character
pub returns : goal.returns
returns c = c.starts_with.ensures.byte (lit< tt) (lit< tt) (λ w o r. r) ∙ first_byte c.args.text.now c.utf8.text
