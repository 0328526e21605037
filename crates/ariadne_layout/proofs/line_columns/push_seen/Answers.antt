use Rattle.std.proofs.Common.{◌≡◌, arith, subst}
use Rattle.ariadne_layout.specs.Knots.{HoldColumns}
use Rattle.ariadne_layout.proofs.Knots.{hold-step}
use Rattle.ariadne_layout.proofs.line_columns.push_seen.Goals as goal

-- a turn holds one place more
pub loop-place-preserved : goal.loop-place-preserved
loop-place-preserved c = λ f held steps.
    let here = c.loop-place.invariant f held steps in
    c.in_ok-next.ensures f c.loop-place.place here (omega arith) (hold-step f c.loop-place.knots.items c.loop-place.place c.loop-place.next here)
    (let step = steps c.loop-place.place (omega arith) (omega arith) in let next = here.next in let width = c.width.ensures in omega (arith, step, next, width))

-- the last turn has held all
pub returns : goal.returns
returns c = λ f held steps.
    let end : c.loop-place.place ≡ c.args.to = omega arith in
    subst (λ n. HoldColumns f c.loop-place.knots.items n c.loop-place.next) end (c.loop-place.invariant f held steps)
