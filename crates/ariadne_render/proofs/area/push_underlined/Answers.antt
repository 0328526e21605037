use Rattle.std.proofs.Common.{List, sym, ap, ◌∙◌, arith, None, refl}
use Rattle.std.proofs.lemmas.Result.{on_ok_weaker}
use Rattle.ariadne_layout.specs.declared.stretches.Stretch.{Stretch}
use Rattle.ariadne_layout.specs.Tables.{shown_at}
use Rattle.ariadne_render.proofs.Areas.{draws_none}
use Rattle.ariadne_render.proofs.UnderlinedRows.{stretch_later, underlined_more, underlined_rest}
use Rattle.ariadne_render.proofs.area.push_underlined.Goals as goal
use Rattle.ariadne_render.proofs.area.push_underlined.Goals.{then-place-end+in_ok-push_places, else-place-end}

-- nothing is written at first, and all stretches tell what is seen
pub loop-stretch-init : goal.loop-stretch-init
loop-stretch-init c = record {
  within = omega arith;
  shown = λ k low high. ap (λ (xs : List Stretch). shown_at xs k) (sym c.deref-stretch-items.ensures.value);
  drawn = draws_none c.args.pen.now c.args.table.now _ 0;
}

-- a turn writes the places of a stretch, as far as they are not written
pub loop-stretch-preserved : goal.loop-stretch-preserved
loop-stretch-preserved c =
    let table = c.args.table.now in
    let stretches = c.deref-stretch-items.result.now in
    let n = c.loop-stretch.stretch-index in
    let place = c.loop-stretch.place in
    let kept = c.loop-stretch.invariant in
    let end = c.min-end.result in
    let d : Stretch = record { end = 0; position = None } in
    elim c.if-place-end.branch [
      | then-place-end+in_ok-push_places w ↦
          rw (w.place-is, w.pen-is) (record {
            within = omega arith;
            shown = λ k low high.
                kept.shown k (omega arith) high ∙ stretch_later stretches n k d c.loop-stretch-test.true (omega arith);
            drawn =
                underlined_more c.args.pen.now c.loop-stretch.pen w.push_places.new.pen table c.args.blank.now w.underlined_or-backdrop.result
                stretches n place kept.shown kept.drawn d end c.loop-stretch-test.true (omega arith) (omega arith) (omega arith)
                w.underlined_or-backdrop.ensures w.in_ok-push_places.ensures;
          })
      | else-place-end w ↦
          rw (w.place-is, w.pen-is) (record {
            within = kept.within;
            shown = λ k low high. kept.shown k low high ∙ stretch_later stretches n k d c.loop-stretch-test.true (omega arith);
            drawn = kept.drawn;
          })
    ]

-- behind the last stretch none is seen
pub returns : goal.returns
returns c =
    let kept = c.loop-stretch.invariant in
    on_ok_weaker c.push_places-2.result
    (underlined_rest c.args.pen.now c.loop-stretch.pen c.push_places-2.new.pen c.args.table.now c.args.blank.now c.args.blank.now
    c.deref-stretch-items.result.now c.loop-stretch.stretch-index c.loop-stretch.place kept.shown kept.drawn (omega arith) kept.within refl)
    c.push_places-2.ensures
