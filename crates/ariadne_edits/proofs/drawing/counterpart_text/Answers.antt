use Rattle.std.proofs.Common.{◌∙◌, ap, sym}
use Rattle.std.proofs.lemmas.Str.{chars-nil}
use Rattle.ariadne_base.specs.Listing.{listed_lines}
use Rattle.ariadne_edits.specs.Views.{text_of_counterpart}
use Rattle.ariadne_edits.proofs.drawing.counterpart_text.Goals as goal

-- no counterpart has no text
pub returns-in-None : goal.returns-in-None
returns-in-None c = chars-nil ∙ sym (ap (text_of_counterpart (listed_lines c.args.others.now)) c.in-None.is)
