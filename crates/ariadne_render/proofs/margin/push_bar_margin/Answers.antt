use Rattle.std.proofs.Common.{rules, append_assoc}
use Rattle.ariadne_picture.specs.Pieces.{glyph_text}
use Rattle.ariadne_render.proofs.Margins.{bare_bytes, gap_bytes}
use Rattle.ariadne_render.proofs.margin.push_bar_margin.Goals as goal

-- text after text, to the bar
pub returns-clause-bar : goal.returns-clause-bar
unfolding glyph_text
returns-clause-bar c e = rw (bare_bytes, ← e) (search (rules, append_assoc))

-- to the broken bar
pub returns-clause-gap : goal.returns-clause-gap
unfolding glyph_text
returns-clause-gap c e = rw (gap_bytes, ← e) (search (rules, append_assoc))
