use Rattle.std.proofs.Common.{rules}
use Rattle.ariadne_picture.specs.Pieces.{glyph_text}
use Rattle.ariadne_render.proofs.Bytes.{run_bytes}
use Rattle.ariadne_render.proofs.Copies.{repeated_one}
use Rattle.ariadne_render.proofs.Drawn.{draws_none}
use Rattle.ariadne_render.proofs.pen.Pen.push_run.Goals as goal

-- no cells are no pieces
pub returns-then-count-eq0 : goal.returns-then-count-eq0
returns-then-count-eq0 c = rw c.if-count-eq0.true (draws_none c.args.self.now)

-- the cells of a run are copies of one text
pub returns-then-is_none : goal.returns-then-is_none
unfolding glyph_text
returns-then-is_none c = rw run_bytes (search rules)

-- a single copy is the text
pub returns-then-count-eq1 : goal.returns-then-count-eq1
unfolding glyph_text
returns-then-count-eq1 c = rw (run_bytes, c.if-count-eq1.true, repeated_one) (search rules)

pub returns : goal.returns
unfolding glyph_text
returns c = rw run_bytes (search rules)
