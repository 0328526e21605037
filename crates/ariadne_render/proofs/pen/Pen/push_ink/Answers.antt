use Rattle.std.proofs.Common.{rules, ◌≡◌, suc, ◌-◌, arith, append_assoc}
use Rattle.ariadne_picture.specs.Pieces.{ink_pieces}
use Rattle.ariadne_render.proofs.Bytes.{ink_bytes}
use Rattle.ariadne_render.proofs.Drawn.{draws_none}
use Rattle.ariadne_render.proofs.pen.Pen.push_ink.Goals as goal

-- no columns have no cells
pub returns-then-width-eq0 : goal.returns-then-width-eq0
unfolding ink_pieces
returns-then-width-eq0 c = rw c.if-width-eq0.true (draws_none c.args.self.now)

-- the first cell, and a run of the others
pub returns : goal.returns
returns c =
    let cells : c.args.width ≡ suc (c.args.width - 1) = omega arith in
    rw (cells, ink_bytes) (search (rules, append_assoc))
