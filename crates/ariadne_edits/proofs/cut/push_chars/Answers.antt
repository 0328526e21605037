use Rattle.std.proofs.Common.{string_bytes}
use Rattle.ariadne_edits.proofs.Cuts.{written_more, written_all}
use Rattle.ariadne_edits.proofs.cut.push_chars.Goals as goal

-- a character more
pub loop-c-preserved : goal.loop-c-preserved
loop-c-preserved c =
    written_more c.args.text.now c.loop-c.c-index (string_bytes c.loop-c.out) _ c.loop-c.invariant c.c-item.result (string_bytes c.push.new.self)
    c.loop-c-test.true c.c-item.is c.in_ok-push.ensures.bytes

pub returns : goal.returns
returns c = written_all c.args.text.now c.loop-c.c-index (string_bytes c.loop-c.out) _ c.loop-c.invariant c.loop-c-test.false
