use Rattle.std.specs.Prelude.{◌≡◌, ◌≤◌, drop}
use Rattle.ariadne_documents.specs.Brackets.{scanned, unscanned}
use Rattle.ariadne_documents.proofs.scan.scan_line.Given as goal

-- the bytes that are left lead to the same state, and each byte is one bracket at most
abbrev pub invariant-loop-byte : goal.invariant-loop-byte
invariant-loop-byte l =
    record {
      rest : scanned l.scan (drop l.byte-index l.line) ≡ scanned unscanned l.fn.line;
      opened : l.scan.opened ≤ l.byte-index;
      closed : l.scan.closed ≤ l.byte-index;
    }
