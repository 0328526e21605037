-- The offset of a line is that of its extent.
use Rattle.std.proofs.Common.{◌∙◌, ap}
use Rattle.ariadne_base.specs.Table.{LineExtent}
use Rattle.ariadne_base.proofs.LocationLemmas.{offset_is}
use Rattle.ariadne_layout.proofs.snippet.Snippet.line_offset.Goals as goal

pub returns : goal.returns
returns g c = c.offset.ensures ∙ ap (λ (e : LineExtent). e.offset) c.extent.ensures ∙ offset_is c.args.self.now.section.sheet.lines c.args.line
