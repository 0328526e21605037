use Rattle.std.proofs.Common.{arith}
use Rattle.ariadne_base.proofs.StartLemmas.{kept_count}
use Rattle.ariadne_base.proofs.source.Source.number_of_lines.Goals as goal

-- where the text ends there is a start
pub overflow_sub-result : goal.overflow_sub-result
overflow_sub-result g c = omega (arith, kept_count c.self.view_is c.self.invariant.0, c.len.ensures)

-- all others are those of lines
pub returns : goal.returns
returns g c = omega (arith, kept_count c.self.view_is c.self.invariant.0, c.len.ensures)
