use Rattle.std.proofs.Common.{◌∙◌, ℕ, List, length, slice_index, ap, subst, arith}
use Rattle.std.proofs.lemmas.Result.{on_ok_weaker}
use Rattle.ariadne_picture.specs.Columns.{shown, whole_column}
use Rattle.ariadne_picture.specs.Pieces.{char_pieces}
use Rattle.ariadne_render.specs.Pages.{Draws}
use Rattle.ariadne_render.proofs.CutRows.{printable_bytes}
use Rattle.ariadne_render.proofs.shown.push_place.Goals as goal

-- of printable ASCII a place is a byte
pub bounds-as_bytes-place : goal.bounds-as_bytes-place
bounds-as_bytes-place c =
    let y = c.args.layout.now in
    let same = c.as_bytes.ensures.value ∙ printable_bytes c.shown.result.now (shown y) c.shown.utf8 c.shown.ensures (c.is_plain.ensures.0 c.if-is_plain.true) in
    let size = ap length same in
    omega (arith, c.requires.within, size)

pub returns-then-is_plain-clause-drawn : goal.returns-then-is_plain-clause-drawn
returns-then-is_plain-clause-drawn c = λ h.
    let pen = c.args.pen.now in
    let s = pen.page.switches in
    let y = c.args.layout.now in
    let k = c.args.place in
    let same = c.as_bytes.ensures.value ∙ printable_bytes c.shown.result.now (shown y) c.shown.utf8 c.shown.ensures (c.is_plain.ensures.0 c.if-is_plain.true) in
    on_ok_weaker c.push_char.result
    (λ d. (
      d.0,
      subst (λ (x : ℕ). Draws pen c.push_char.new.pen (char_pieces s c.args.paint (whole_column s.tab_width (shown y) k) x))
          (ap (λ (bs : List ℕ). slice_index bs k) same) d.1,
    ))
    (c.push_char.ensures.drawn y h c.requires.within)
