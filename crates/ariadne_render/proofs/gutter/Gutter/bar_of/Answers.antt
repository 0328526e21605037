use Rattle.std.proofs.Common.{◌≡◌, ◌<◌, ◌≤◌, arith, get_or, length, true, false, sym, ap, ◌∙◌}
use Rattle.std.proofs.lemmas.List.{get_or_read, get_or_past}
use Rattle.ariadne_render.specs.Gutters.{GutterFields}
use Rattle.ariadne_render.proofs.GutterState.{ready-for, bar-stands, bar-stands_not}
use Rattle.ariadne_render.proofs.gutter.Gutter.bar_of.Goals as goal
use Rattle.ariadne_render.proofs.gutter.Gutter.bar_of.Goals.{else-column-len-via-then-column-len+else-index, else-column-len-via-else-column-len}

-- a bar that stands is that of the column's label
pub returns-then-index : goal.returns-then-index
returns-then-index c =
    let g = c.args.self.now in
    let k = c.args.column in
    let ready = ready-for _ g _ _ c.self.view_is c.self.invariant in
    let bars = c.self.inside.bars.items in
    let inside : k < length bars = omega (arith, c.len.ensures, c.self.inside.bars.ok.0) in
    let on : get_or g.bars k false ≡ true =
    sym (ap (λ (v : GutterFields). get_or v.bars k false) c.self.view_is) ∙ sym (get_or_read bars k _ inside c.index.ensures false) ∙ c.if-index.true in
    bar-stands g k _ on ready.positions
    (c.index-then-index.ensures ∙ ap (λ (v : GutterFields). get_or v.positions k c.index-then-index.result.now) c.self.view_is)

-- another bar does not stand, nor does one past the last column
pub returns-else-column-len : goal.returns-else-column-len
returns-else-column-len c =
    let g = c.args.self.now in
    let k = c.args.column in
    let bars = c.self.inside.bars.items in
    let same = ap (λ (v : GutterFields). get_or v.bars k false) c.self.view_is in
    elim c.else-column-len.branch [
      | else-column-len-via-then-column-len+else-index w ↦
          let inside : k < length bars = omega (arith, c.len.ensures, c.self.inside.bars.ok.0, w.if-column-len.true) in
          bar-stands_not g k (sym same ∙ sym (get_or_read bars k _ inside w.index.ensures false) ∙ w.if-index.false)
      | else-column-len-via-else-column-len w ↦
          let past : length bars ≤ k = omega (arith, c.len.ensures, c.self.inside.bars.ok.0, w.if-column-len.false) in
          bar-stands_not g k (sym same ∙ get_or_past bars k false past)
    ]
