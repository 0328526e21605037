use Rattle.std.proofs.Common.{arith}
use Rattle.ariadne_layout.proofs.snippet.last_line.Goals as goal

-- it is one of the source, or that of the last label
pub overflow_add-result : goal.overflow_add-result
overflow_add-result c = omega arith

-- so many lines behind that of the last label, or as many as there are
pub returns : goal.returns
returns c =
    let behind = c.saturating_sub-behind.ensures in
    let lines = c.saturating_sub.ensures in
    let few = c.min.ensures in
    let is = c.group_end_line-last.ensures in
    omega (arith, behind, lines, few, is)
