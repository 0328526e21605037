use Rattle.std.proofs.Common.{◌≡◌, ◌∙◌, ◌++◌, ◌∷◌, [], ap, arith, length}
use Rattle.std.specs.Prelude.{vec_len}
use Rattle.ariadne_snippets.proofs.InUnits.{begins_end, begins_past, units_end, units_past}
use Rattle.ariadne_snippets.proofs.units.in_units.Goals as goal

-- a character has its units
pub loop-c-preserved : goal.loop-c-preserved
loop-c-preserved c =
    let size : vec_len c.loop-c.chars ≡ length c.loop-c.chars.items = omega (arith, c.loop-c.chars.ok.0) in record {
      chars = units_past c.args.units c.args.line.now c.loop-c.c-index c.c-item.result c.loop-c-test.true c.c-item.is
          c.loop-c.chars.items _ _ c.in_ok-push_units.ensures c.loop-c.invariant.chars;
      begins = begins_past c.args.units c.args.line.now c.loop-c.c-index c.c-item.result c.loop-c-test.true c.c-item.is
          c.loop-c.chars.items _ c.loop-c.begins.items _ _ c.in_ok-push_units.ensures
          ((c.in_ok-push.ensures).items ∙ ap (λ n. c.loop-c.begins.items ++ n ∷ []) (c.len.ensures ∙ size))
          c.loop-c.invariant.begins;
    }

-- the line ends
pub returns-clause-chars : goal.returns-clause-chars
returns-clause-chars c =
    units_end c.args.units c.args.line.now c.loop-c.c-index c.loop-c.chars.items _ c.loop-c-test.false c.loop-c.invariant.chars

pub returns-clause-begins : goal.returns-clause-begins
returns-clause-begins c =
    let size : vec_len c.loop-c.chars ≡ length c.loop-c.chars.items = omega (arith, c.loop-c.chars.ok.0) in
    begins_end c.args.units c.args.line.now c.loop-c.c-index (length c.loop-c.chars.items) c.loop-c.begins.items _ _
    c.loop-c-test.false ((c.in_ok-push-2.ensures).items ∙ ap (λ n. c.loop-c.begins.items ++ n ∷ []) (c.len-2.ensures ∙ size))
    c.loop-c.invariant.begins
