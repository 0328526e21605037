use Rattle.std.proofs.Common.{arith}
use Rattle.ariadne_layout.proofs.CutColumns.{end-held, none-held, part-held, part-order}
use Rattle.ariadne_layout.proofs.line_columns.push_parts.Goals as goal

-- in front of the first part there is no place
pub loop-part-init : goal.loop-part-init
loop-part-init c = λ s text same held within. none-held s text c.args.parts.now c.args.knots.now.items c.args.end c.requires.empty

-- a part ends behind its begin
pub push_seen-requires : goal.push_seen-requires
push_seen-requires c =
    part-order c.args.parts.now c.loop-part.part-index _ c.args.end c.min.result c.min-in-loop-part.result c.requires.apart (omega arith) c.min.ensures
    c.min-in-loop-part.ensures

-- a turn holds the places of one part more
pub loop-part-preserved : goal.loop-part-preserved
loop-part-preserved c = λ s text same held within.
    part-held s text c.args.whole.now c.args.parts.now c.loop-part.part-index _ c.args.end c.args.set c.loop-part.knots.items c.push_before.new.knots.items
    c.push_seen.new.knots.items c.loop-part.column c.in_ok-column.column c.in_ok-column-2.column c.min.result c.min-in-loop-part.result c.requires.apart
    (omega arith) same held within (c.loop-part.invariant s text same held within) (c.in_ok-column.ensures {u = tt}) c.min.ensures c.min-in-loop-part.ensures
    (c.in_ok-column-2.ensures {u = tt})

-- and then the mark behind the last
pub returns : goal.returns
returns c = λ s text same held within.
    let end = end-held s text c.args.parts.now c.loop-part.part-index c.args.end c.args.set c.loop-part.knots.items c.loop-part.column c.requires.apart (omega arith)
    same (c.loop-part.invariant s text same held within) in
    c.push_end.ensures _ end.0 end.1
