use Rattle.ariadne_blocks.specs.FixChanges.{plain_bytes}
use Rattle.ariadne_blocks.proofs.Escapes.{byte_more, bytes_over}
use Rattle.ariadne_blocks.proofs.fix_rows.plain_bytes.Goals as goal

-- one byte more
pub loop-byte-preserved : goal.loop-byte-preserved
loop-byte-preserved c =
    byte_more c.loop-byte.escape c.in_ok-escape.escape c.loop-byte.bytes.items c.push_byte.new.bytes.items c.args.text.now
    (plain_bytes c.args.text.now) c.loop-byte.byte-index c.loop-byte-test.true c.loop-byte.invariant
    c.in_ok-escape.ensures

-- none is left
pub returns : goal.returns
returns c =
    bytes_over c.loop-byte.escape c.loop-byte.bytes.items c.args.text.now (plain_bytes c.args.text.now)
    c.loop-byte.byte-index c.loop-byte-test.false c.loop-byte.invariant
