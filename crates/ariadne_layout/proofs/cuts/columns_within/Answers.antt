use Rattle.std.proofs.Common.{◌≡◌, ◌+◌, arith}
use Rattle.ariadne_layout.proofs.PartColumns.{added-none, all-added, few-enough, mark-too-many, part-added, part-too-many}
use Rattle.ariadne_layout.proofs.cuts.columns_within.Goals as goal

-- no place has no columns
pub loop-part-init : goal.loop-part-init
loop-part-init c = λ text held size apart. added-none c.args.switches.now text c.args.parts.now c.args.len

-- the mark before a part is too much
pub returns-in_err-total-clause-none : goal.returns-in_err-total-clause-none
returns-in_err-total-clause-none c = λ text held size apart none.
    mark-too-many c.args.switches.now text c.args.parts.now c.loop-part.part-index _ c.args.len c.loop-part.total c.mark_before.result apart
    (omega arith) size (c.loop-part.invariant text held size apart) c.mark_before.ensures (c.sum_within.ensures.none c.in_err-total.was)

-- or its places are
pub returns-in_err-total-2-clause-none : goal.returns-in_err-total-2-clause-none
returns-in_err-total-2-clause-none c = λ text held size apart none.
    let both : c.in_ok-total.total ≡ c.loop-part.total + c.mark_before.result = c.in_ok-total.ensures.some.0 in
    let next = part-added c.args.switches.now text c.args.columns.now c.args.parts.now c.loop-part.part-index _ c.args.len c.loop-part.total
    c.mark_before.result c.in_ok-total.total c.min.result c.min-in-loop-part.result c.width-width.result _ apart (omega arith) size held
    (c.loop-part.invariant text held size apart) c.mark_before.ensures both c.min.ensures c.min-in-loop-part.ensures c.width-width.ensures (λ i. c.in_ok-total.total + c.width-width.result) in
    part-too-many c.args.switches.now text c.args.parts.now _ c.args.len _ size next (c.sum_within-in-loop-part.ensures.none c.in_err-total-2.was)

-- a turn adds both
pub loop-part-preserved : goal.loop-part-preserved
loop-part-preserved c = λ text held size apart.
    part-added c.args.switches.now text c.args.columns.now c.args.parts.now c.loop-part.part-index _ c.args.len c.loop-part.total
    c.mark_before.result c.in_ok-total.total c.min.result c.min-in-loop-part.result c.width-width.result c.in_ok-total-2.total apart (omega arith) size held
    (c.loop-part.invariant text held size apart) c.mark_before.ensures c.in_ok-total.ensures.some.0 c.min.ensures c.min-in-loop-part.ensures c.width-width.ensures
    c.in_ok-total-2.ensures.some.0

-- with the mark behind the last they are all
pub returns-clause-some : goal.returns-clause-some
returns-clause-some c = λ text held size apart.
    let all = all-added c.args.switches.now text c.args.parts.now c.loop-part.part-index c.args.len c.loop-part.total c.mark_behind.result apart
    (omega arith) size (c.loop-part.invariant text held size apart) c.mark_behind.ensures in
    few-enough c.sum_within-2.result _ c.args.switches.now.width _ c.sum_within-2.ensures.some all

pub returns-clause-none : goal.returns-clause-none
returns-clause-none c = λ text held size apart none.
    let all = all-added c.args.switches.now text c.args.parts.now c.loop-part.part-index c.args.len c.loop-part.total c.mark_behind.result apart
    (omega arith) size (c.loop-part.invariant text held size apart) c.mark_behind.ensures in
    omega (arith, all, c.sum_within-2.ensures.none none)
