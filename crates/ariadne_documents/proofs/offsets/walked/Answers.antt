use Rattle.std.proofs.Common.{ℕ, List, ◌∙◌, ◌+◌, ap, arith, drop, get_or, sym}
use Rattle.std.proofs.lemmas.List.{at_drop_more}
use Rattle.ariadne_documents.specs.Offsets.{walked as walk_through}
use Rattle.ariadne_documents.specs.declared.offsets.Walk.{Walk}
use Rattle.ariadne_documents.proofs.Walks.{is_near}
use Rattle.ariadne_documents.proofs.offsets.walked.Goals as goal

-- the next byte leads on
pub loop-byte-preserved : goal.loop-byte-preserved
loop-byte-preserved c =
    let bytes : List ℕ = c.args.bytes.now in
    let i : ℕ = c.loop-byte.byte-index in
    let near = is_near c.loop-byte.walk c.step-walk.result (get_or bytes i 0) c.step-walk.ensures in record {
      rest =
          ap (λ (w : Walk). walk_through w (drop (i + 1) bytes)) c.step-walk.ensures
          ∙ sym (at_drop_more (walk_through c.loop-byte.walk) bytes i 0 c.loop-byte-test.true)
          ∙ c.loop-byte.invariant.rest;
      line = omega (arith, near.line, c.loop-byte.invariant.line);
      column = omega (arith, near.column, c.loop-byte.invariant.column);
    }
