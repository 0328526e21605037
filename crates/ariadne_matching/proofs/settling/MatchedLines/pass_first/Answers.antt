use Rattle.std.proofs.Common.{◌∙◌, ◌++◌, ap, arith, refl}
use Rattle.ariadne_matching.proofs.Settled.{passed_first, settled_none}
use Rattle.ariadne_matching.proofs.settling.MatchedLines.pass_first.Goals as goal

-- none waits
pub returns-then-is_empty : goal.returns-then-is_empty
returns-then-is_empty g c = settled_none _ _ _ _ refl refl

-- the first passes
pub returns : goal.returns
returns g c =
    let old = c.args.self.now in
    passed_first old.waiting.items c.remove-line.new.self.items c.remove-line.result old.ready.items c.extend_from_slice.new.self.items
    (omega (arith, c.remove-line.ensures.len, old.waiting.ok.0)) c.remove-line.ensures.value c.remove-line.ensures.items
    (c.in_ok-extend_from_slice.ensures.items ∙ ap (λ bytes. old.ready.items ++ bytes) c.as_slice.ensures.value)
