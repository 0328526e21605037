use Rattle.std.proofs.Common.{◌∙◌, ap, arith, length, refl, sym}
use Rattle.ariadne_layout.proofs.CutColumns.{line-found, rising-found}
use Rattle.ariadne_layout.proofs.Knots.{rising-none}
use Rattle.ariadne_layout.proofs.line_columns.LineColumns.fill_cut.Goals as goal

-- neither a list nor knots are held at first
pub invariant_of-self : goal.invariant_of-self
invariant_of-self c = (
  rising-none c.clear-2.new.self.items c.clear-2.ensures.items,
  λ some. c.clear-2.ensures.items,
)

-- nor where there was no memory
pub invariant_of-self-then-is_err : goal.invariant_of-self-then-is_err
invariant_of-self-then-is_err c = (
  rising-none c.clear-then-is_err.new.self.items c.clear-then-is_err.ensures.items,
  λ some. c.clear-then-is_err.ensures.items,
)

-- else knots alone
pub invariant_of-self-else-is_err : goal.invariant_of-self-else-is_err
invariant_of-self-else-is_err c = (
  rising-found c.push_cut-filled.result c.push_cut-filled.new.knots.items (sym c.is_err.ensures.value ∙ c.if-is_err.false) c.push_cut-filled.ensures.rising,
  λ some. let none = ap length c.clear.ensures.items in absurd (omega (arith, none, some)),
)

-- those of the line
pub returns-else-is_err : goal.returns-else-is_err
returns-else-is_err c =
    line-found c.push_cut-filled.result c.args.switches.now c.args.layout.now c.clear.new.self.items c.push_cut-filled.new.knots.items c.args.len _ refl
    c.push_cut-filled.ensures.some c.push_cut-filled.ensures.held
