use Rattle.std.proofs.Common.{◌≡◌, ◌++◌, drop}
use Rattle.ariadne_blocks.specs.FixChanges.{bytes_behind, plain_bytes}
use Rattle.ariadne_blocks.proofs.fix_rows.plain_bytes.Given as goal

-- what was read is there, and the rest is to come
abbrev pub invariant-loop-byte : goal.invariant-loop-byte
invariant-loop-byte l =
    l.bytes.items ++ bytes_behind l.escape (drop l.byte-index l.text) ≡ plain_bytes l.text
