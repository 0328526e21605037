-- Labels of equal ids have one source.
use Rattle.std.proofs.Common.{◌≡◌, ◌∙◌, ◌+◌, ◌<◌, ap, arith, get_or, length, subst, sym, Some}
use Rattle.std.specs.Prelude.{chars}
use Rattle.std.proofs.lemmas.Option.{slice_get-get_or}
use Rattle.ariadne_base.specs.Cache.{held}
use Rattle.ariadne_picture.specs.Accept.{text_len}
use Rattle.ariadne_picture.specs.Report.{LabelFields, ReportFields}
use Rattle.ariadne_report.proofs.Judging.{source_alike, was_equal}
use Rattle.ariadne_report.proofs.KnownPlaces.{start_known}
use Rattle.ariadne_report.proofs.accept.judge_alike.Goals as goal

-- at first none is judged
pub loop-position-init : goal.loop-position-init
loop-position-init g c = record {
  from = omega arith;
  within = c.requires.first;
  known = start_known c.args.source.now.text;
  so_far = λ start_names names start_contents contents early at_first. (at_first, λ s. s);
}

-- its source has the size that was found
pub judge_held-requires-clause-size : goal.judge_held-requires-clause-size
judge_held-requires-clause-size g c =
    c.text_len-size.ensures
    ∙ ap (λ t. text_len t (chars c.args.source.now.text)) (c.index_type.ensures ∙ ap (λ (r : ReportFields g.row.S.Denot). r.config.index_type) c.report.view_is)

-- one label more is judged, and the next one has an equal id
pub loop-position-preserved : goal.loop-position-preserved
loop-position-preserved g c =
    let labels = c.args.report.now.labels in
    let source_of = g.S.Span.source_of in
    let eq = g.S.SourceId.PartialEq.eq in
    let inv = c.loop-position.invariant in
    let next = c.loop-position.position + 1 in
    let same : c.report.inside.labels.items ≡ labels = ap (λ (r : ReportFields g.row.S.Denot). r.labels) c.report.view_is in
    let here : next < length labels =
    let within = inv.within in let last = c.if-position-len.false in omega (arith, c.len.ensures, ap length same) in
    let x = c.index-else-position-len.result.now in
    let y = c.index.result.now in
    let x_is : x ≡ get_or labels next x = rw same at c.index-else-position-len.ensures in
    let y_is : y ≡ get_or labels c.args.first y = rw same at c.index.ensures in
    let x_id : c.source.result.now ≡ source_of x.span = c.source.ensures ∙ ap source_of c.span-else-position-len.ensures.span in
    let y_id : c.source-id.result.now ≡ source_of y.span = c.source-id.ensures ∙ ap source_of c.span.ensures.span in
    record {
      from = let from = inv.from in omega arith;
      within = here;
      known = c.judge_held.ensures.known;
      so_far = λ start_names names start_contents contents early at_first.
          let so_far = inv.so_far start_names names start_contents contents early at_first in
          let held_at = λ (q : g.row.S-SourceId.Denot). held eq contents q ≡ Some c.args.source.now in
          let first : held_at c.source-id.result.now =
          subst held_at (sym y_id) (at_first y (slice_get-get_or labels c.args.first y c.requires.first ∙ ap Some (sym y_is))) in
          let found : held_at (source_of x.span) =
          subst held_at x_id (source_alike source_of g.S.Span.start_of g.S.Span.end_of eq g.met.S.SourceId.Eq.laws names contents _ _ _
          (was_equal _ c.if-ne.ensures) first) in (
            λ label there.
                let is : Some x ≡ Some label = ap Some x_is ∙ sym (slice_get-get_or labels next x here) ∙ there in
                let x_label : x ≡ label = cc in
                subst (λ (a : LabelFields g.row.S.Denot). held_at (source_of a.span)) x_label found,
            λ s. c.in_ok-judge_held.ensures.judged start_names names start_contents contents early so_far.0 (so_far.1 s),
          );
    }
