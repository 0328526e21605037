use Rattle.std.proofs.Common.{◌≡◌, Some, slice_get, length, ◌≤◌, sym, ap, ◌∙◌, arith}
use Rattle.std.proofs.lemmas.Grind.{common_steps}
use Rattle.std.proofs.lemmas.Option.{gets}
use Rattle.ariadne_layout.specs.Tables.{position_paint}
use Rattle.ariadne_render.proofs.ShownRows.{stretch_shown, stretch_absent}
use Rattle.ariadne_render.proofs.shown.stretch_paint.Goals as goal

-- a stretch tells its own label
pub returns-in-Some : goal.returns-in-Some
returns-in-Some c = λ k h.
    let s = c.in-Some.stretch.now in
    let found : slice_get c.args.paints.now c.args.number ≡ Some s = grind (arith, common_steps, gets) in
    c.paint_of.ensures ∙ ap position_paint (sym (stretch_shown c.args.paints.now c.args.number k s found (h s found)))

-- behind the last there is none
pub returns-in-None : goal.returns-in-None
returns-in-None c = λ k h.
    let past : length c.args.paints.now ≤ c.args.number = grind (arith, common_steps, gets) in
    sym (stretch_absent c.args.paints.now c.args.number k past)
