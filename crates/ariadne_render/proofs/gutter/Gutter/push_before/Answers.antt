use Rattle.std.proofs.Common.{◌≡◌, arith}
use Rattle.ariadne_picture.specs.declared.cell.Glyph.TheVariants.{Vbar}
use Rattle.ariadne_render.specs.Gutters.{bars_ink, columns_bytes}
use Rattle.ariadne_render.proofs.GutterState.{ready-for, columns-some, text-cut, text-front}
use Rattle.ariadne_render.proofs.gutter.Gutter.push_before.Goals as goal

-- the column is there
pub start-requires : goal.start-requires
start-requires c = record { column = omega (arith, columns-some c.args.self.now c.args.column c.requires.column) }

-- the text may be cut there
pub range-requires-clause-end_boundary : goal.range-requires-clause-end_boundary
range-requires-clause-end_boundary c =
    let g = c.args.self.now in
    let k = c.args.column in
    let ready = ready-for _ g _ _ c.self.view_is c.self.invariant in
    let some = columns-some g k c.requires.column in
    rw (c.start.ensures, c.deref.ensures) (text-cut g _ _ ready k (omega (arith, some)))

-- before it stand the columns before
pub returns : goal.returns
returns c =
    let g = c.args.self.now in
    let k = c.args.column in
    let ready = ready-for _ g _ _ c.self.view_is c.self.invariant in
    let some = columns-some g k c.requires.column in
    let there : c.range.result.now ≡ columns_bytes g.page (bars_ink Vbar g) k =
    rw (c.range.ensures.value, c.start.ensures, c.deref.ensures) (text-front g _ _ ready k (omega (arith, some))) in
    rw there at c.push_text.ensures
