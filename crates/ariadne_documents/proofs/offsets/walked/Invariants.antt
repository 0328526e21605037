use Rattle.std.specs.Prelude.{◌≡◌, ◌≤◌, ◌+◌, ◌*◌, drop}
use Rattle.ariadne_documents.specs.Offsets.{start, walked}
use Rattle.ariadne_documents.proofs.offsets.walked.Given as goal

-- the bytes that are left lead to the same end, and each is one line at most, and two columns
abbrev pub invariant-loop-byte : goal.invariant-loop-byte
invariant-loop-byte l =
    record {
      rest : walked l.walk (drop l.byte-index l.bytes) ≡ walked (start l.fn.offset) l.fn.bytes;
      line : l.walk.line ≤ l.byte-index + 1;
      column : l.walk.column ≤ 2 * l.byte-index + 1;
    }
