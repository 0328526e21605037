use Rattle.std.proofs.Common.{◌≤◌, ◌+◌, ◌-◌, ◌/◌, ◌∙◌, arith}
use Rattle.ariadne_layout.proofs.CutParts.{whole-up}
use Rattle.ariadne_layout.proofs.cuts.first_behind.Goals as goal

-- the place in the middle ends at the column or before it, and so do those before it
pub loop-first-preserved : goal.loop-first-preserved
loop-first-preserved c =
    let first = c.loop-first.first in
    let behind = c.loop-first.behind in
    let middle = first + (behind - first) / 2 in
    let known = c.loop-first.invariant in
    let from = known.0 in
    let to = known.2 in
    let more : middle + 1 ≤ behind = omega (arith, c.loop-first-test.true) in
    let few : c.column.result ≤ c.args.column = omega (arith, c.if-column.false) in (
      omega (arith, from),
      more,
      to,
      λ t text held within. (
        λ k low less.
            let here = c.column.ensures ∙ held (middle + 1) (omega (arith, more, to, within)) in
            let up = whole-up t text (k + 1) (middle + 1) (omega (arith, less)) in
            omega (arith, here, up, few),
        (known.3 t text held within).1,
      ),
    )
