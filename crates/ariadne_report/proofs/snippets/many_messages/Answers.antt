-- The messages so far, and one more.
use Rattle.std.proofs.Common.{◌∙◌, ◌≡◌, ◌≤◌, ◌++◌, ◌∷◌, [], List, ap, arith, length, map, sym, Bor}
use Rattle.std.specs.Prelude.{Option, unwrap_or}
use Rattle.std.proofs.lemmas.List.{map-append, map_more, take_all}
use Rattle.ariadne_picture.specs.Canvas.{texts_of}
use Rattle.ariadne_picture.specs.Report.{LabelFields, ReportFields}
use Rattle.ariadne_report.proofs.GroupParts.{copied_or}
use Rattle.ariadne_report.proofs.snippets.many_messages.Goals as goal

-- there is room for all
pub loop-label-init : goal.loop-label-init
loop-label-init g c =
    let items : length c.deref-label-items.result.now ≡ length c.report.inside.labels.items = ap length c.deref-label-items.ensures.value in
    record {
      told = ap (map (λ (m : Bor (List _)). m.now)) c.in_ok-messages.ensures.items;
      len = c.in_ok-messages.ensures.len;
      room = omega (arith, items, c.len.ensures, c.report.inside.labels.ok.0, c.in_ok-messages.ensures.capacity);
    }

-- one more
pub loop-label-preserved : goal.loop-label-preserved
loop-label-preserved g c =
    let text = λ (m : Bor (List _)). m.now in
    let more = map_more (λ (label : LabelFields _). unwrap_or label.message []) c.deref-label-items.result.now c.loop-label.label-index
    c.label-item.result c.loop-label-test.true in
    let shown = ap text c.unwrap_or.ensures ∙ copied_or c.message.result _
    ∙ ap (λ (o : Option (List _)). unwrap_or o []) (c.message.ensures ∙ ap (λ (label : LabelFields _). label.message) c.label-item.is) in
    record {
      told = ap (map text) c.push_reserved.ensures.items ∙ map-append text c.loop-label.messages.items (c.unwrap_or.result ∷ [])
          ∙ (λ j. c.loop-label.invariant.told j ++ shown j ∷ []) ∙ sym more;
      len = omega (arith, c.push_reserved.ensures.len, c.loop-label.invariant.len);
      room = omega (arith, c.push_reserved.ensures.capacity, c.loop-label.invariant.room);
    }

-- then those of all
pub returns : goal.returns
unfolding texts_of
returns g c =
    let items = c.deref-label-items.result.now in
    let message = λ (label : LabelFields _). unwrap_or label.message [] in
    let test = c.loop-label-test.false in
    let all : length items ≤ c.loop-label.label-index = omega arith in
    c.loop-label.invariant.told ∙ ap (map message) (take_all c.loop-label.label-index items all)
    ∙ ap (map message) (c.deref-label-items.ensures.value ∙ ap (λ (x : ReportFields _). x.labels) c.report.view_is)
