use Rattle.std.proofs.Common.{sym, subst, None}
use Rattle.std.proofs.lemmas.Result.{on_ok_weaker}
use Rattle.ariadne_picture.specs.declared.cell.Glyph.TheVariants.{Hbar, Underline}
use Rattle.ariadne_picture.specs.declared.cell.Paint.TheVariants.{Label}
use Rattle.ariadne_render.specs.declared.area.Backdrop.{Backdrop}
use Rattle.ariadne_render.specs.Areas.{seen_ink, DrawsPlaces}
use Rattle.ariadne_render.proofs.Areas.{draws_run, draws_spaces}
use Rattle.ariadne_render.proofs.area.push_stretch.Goals as goal

-- blanks
pub returns-in-Open : goal.returns-in-Open
unfolding seen_ink
returns-in-Open c =
    let old = c.args.pen.now in
    let new = c.push_spaces.new.self in
    let table = c.args.table.now in
    on_ok_weaker c.push_spaces.result
    (λ d. subst (λ (b : Backdrop). DrawsPlaces old new table (λ _. seen_ink b None) c.args.from c.args.to) (sym c.in-Open.is)
    (draws_spaces old new table c.args.from c.args.to c.width-width.result c.requires.order c.requires.within c.width-width.ensures d))
    c.push_spaces.ensures

-- an underline
pub returns-in-Underlined : goal.returns-in-Underlined
unfolding seen_ink
returns-in-Underlined c =
    let old = c.args.pen.now in
    let new = c.push_run.new.self in
    let table = c.args.table.now in
    on_ok_weaker c.push_run.result
    (λ d. subst (λ (b : Backdrop). DrawsPlaces old new table (λ _. seen_ink b None) c.args.from c.args.to) (sym c.in-Underlined.is)
    (draws_run old new table Underline (Label c.in-Underlined.position) c.args.from c.args.to c.width-width.result c.requires.order
    c.requires.within c.width-width.ensures d))
    c.push_run.ensures

-- a horizontal
pub returns-in-Level : goal.returns-in-Level
unfolding seen_ink
returns-in-Level c =
    let old = c.args.pen.now in
    let new = c.push_run-in-Level.new.self in
    let table = c.args.table.now in
    on_ok_weaker c.push_run-in-Level.result
    (λ d. subst (λ (b : Backdrop). DrawsPlaces old new table (λ _. seen_ink b None) c.args.from c.args.to) (sym c.in-Level.is)
    (draws_run old new table Hbar (Label c.in-Level.position) c.args.from c.args.to c.width-width.result c.requires.order
    c.requires.within c.width-width.ensures d))
    c.push_run-in-Level.ensures
