use Rattle.std.proofs.Common.{ℕ, List, ◌∙◌, ◌+◌, ◌∷◌, [], ap, arith, drop, get_or, sym}
use Rattle.std.proofs.lemmas.List.{at_drop_more}
use Rattle.ariadne_documents.specs.Brackets.{scanned}
use Rattle.ariadne_documents.specs.declared.scan.Scan.{Scan}
use Rattle.ariadne_documents.proofs.Scans.{scanned_append, next_opened, next_closed}
use Rattle.ariadne_documents.proofs.scan.scan_line.Goals as goal

-- the next byte leads on
pub loop-byte-preserved : goal.loop-byte-preserved
loop-byte-preserved c =
    let line : List ℕ = c.args.line.now in
    let i : ℕ = c.loop-byte.byte-index in
    let b : ℕ = get_or line i 0 in
    let scan : Scan = c.loop-byte.scan in record {
      rest =
          ap (λ (s : Scan). scanned s (drop (i + 1) line)) c.behind-scan.ensures
          ∙ scanned_append scan (b ∷ []) (drop (i + 1) line)
          ∙ sym (at_drop_more (scanned scan) line i 0 c.loop-byte-test.true)
          ∙ c.loop-byte.invariant.rest;
      opened = omega (arith, next_opened scan c.behind-scan.result b c.behind-scan.ensures, c.loop-byte.invariant.opened);
      closed = omega (arith, next_closed scan c.behind-scan.result b c.behind-scan.ensures, c.loop-byte.invariant.closed);
    }
