use Rattle.std.proofs.Common.{◌≡◌, ◌*◌, ap, ◌∙◌, arith}
use Rattle.std.proofs.Math.Nat.{mul-le-mul_left}
use Rattle.ariadne_picture.specs.Pieces.{column_size, spaces}
use Rattle.ariadne_render.specs.Gutters.{GutterFields, columns}
use Rattle.ariadne_render.proofs.GutterState.{ready-for, offsets-len}
use Rattle.ariadne_render.proofs.gutter.Gutter.push_blank.Goals as goal

-- a column has two cells at most
pub overflow_mul-len : goal.overflow_mul-len
overflow_mul-len c =
    let few = mul-le-mul_left c.len.result c.column_size.ensures.few in
    omega (arith, c.len.ensures, c.self.inside.starts.ok.1, c.self.inside.starts.small)

-- each column has its bar, or none
pub returns-clause-bars : goal.returns-clause-bars
returns-clause-bars c = (ready-for _ c.args.self.now _ _ c.self.view_is c.self.invariant).positions

-- blanks for each column
pub returns-clause-blanks : goal.returns-clause-blanks
returns-clause-blanks c =
    let g = c.args.self.now in
    let ready = ready-for _ g _ _ c.self.view_is c.self.invariant in
    let len : c.len.result ≡ columns g = omega (arith, c.len.ensures, c.self.inside.starts.ok.0, offsets-len g _ _ ready) in
    let size : c.column_size.result ≡ column_size g.page.switches =
    c.column_size.ensures.size ∙ ap column_size (c.switches.ensures.switches ∙ ap (λ (v : GutterFields). v.page.switches) c.self.view_is) in
    let there : spaces (c.len.result * c.column_size.result) ≡ spaces (columns g * column_size g.page.switches) = λ i. spaces (len i * size i) in
    rw there at c.push_spaces.ensures
