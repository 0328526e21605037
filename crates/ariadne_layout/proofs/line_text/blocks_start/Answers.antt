use Rattle.std.proofs.Common.{◌-◌, arith}
use Rattle.ariadne_layout.proofs.Layouts.{blanks_before}
use Rattle.ariadne_layout.proofs.line_text.blocks_start.Goals as goal

-- one block more is of blanks
pub loop-start-preserved : goal.loop-start-preserved
loop-start-preserved c =
    let at = c.loop-start.start in (
      omega arith,
      blanks_before c.args.bytes.now at (at - (at - 64)) (omega arith) (omega arith) (omega arith) (c.is_blank.ensures c.if-is_blank.true) c.loop-start.invariant.1,
    )
