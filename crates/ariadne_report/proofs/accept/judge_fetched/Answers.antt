-- The cache has grown by the source of the label.
use Rattle.std.proofs.Common.{◌≡◌, ◌∙◌, ap, get_or, subst, sym, Some}
use Rattle.std.specs.Prelude.{IsSome}
use Rattle.std.proofs.lemmas.Option.{slice_get-get_or}
use Rattle.ariadne_base.specs.Cache.{Grows, held}
use Rattle.ariadne_picture.specs.Report.{LabelFields, ReportFields}
use Rattle.ariadne_report.proofs.Judging.{so_far_grown, so_far_left}
use Rattle.ariadne_report.proofs.accept.judge_fetched.Goals as goal

-- the source could not be had
pub returns-in-Err-Failed-clause-judged : goal.returns-in-Err-Failed-clause-judged
returns-in-Err-Failed-clause-judged g c = λ names contents early before.
    let labels = c.args.report.now.labels in
    let same : c.report.inside.labels.items ≡ labels = ap (λ (r : ReportFields g.row.S.Denot). r.labels) c.report.view_is in
    let is = rw same at c.index.ensures in
    let step = rw c.in-Err-Failed.field-0-is at c.in-Err-Failed.ensures.step in
    let id : c.source-id.result.now ≡ g.S.Span.source_of c.index.result.now.span = c.source-id.ensures ∙ ap g.S.Span.source_of c.span.ensures.span in
    rw (c.in_ok-leave_out-in-Err-Failed.ensures.infos, c.in_ok-leave_out-in-Err-Failed.ensures.left_out)
    (so_far_left _ _ _ _ _ _ g.met.S.SourceId.Eq.laws _ _ _ _ _ _ labels c.args.first c.index.result.now c.requires.first is
    c.span.ensures.forward early (λ q h. step.1 q) _ _ _ (rw id at step.0, subst (g.C.Cache.fails (g.S.Span.source_of c.index.result.now.span)) (sym c.in-Err-Failed.error-is) (rw id at step.2)) before)

-- it is held
pub returns-clause-judged : goal.returns-clause-judged
returns-clause-judged g c = λ names contents early before.
    let labels = c.args.report.now.labels in
    let eq = g.S.SourceId.PartialEq.eq in
    let new = g.C.Cache.contents c.ensure.new.self in
    let grown : Grows eq (g.C.Cache.contents c.args.cache.now) new = c.in-Ok.ensures.step.1 in
    let same : c.report.inside.labels.items ≡ labels = ap (λ (r : ReportFields g.row.S.Denot). r.labels) c.report.view_is in
    let x = c.index.result.now in
    let x_is : x ≡ get_or labels c.args.first x = rw same at c.index.ensures in
    let x_id : c.source-id.result.now ≡ g.S.Span.source_of x.span = c.source-id.ensures ∙ ap g.S.Span.source_of c.span.ensures.span in
    c.judge_alike.ensures.judged names (g.C.Cache.names c.ensure.new.self) contents new
    (λ q h. grown q (subst IsSome (sym (early q h)) h) ∙ early q h)
    (λ label there.
    let is : Some x ≡ Some label = ap Some x_is ∙ sym (slice_get-get_or labels c.args.first x c.requires.first) ∙ there in
    let x_label : x ≡ label = cc in
    subst (λ (a : LabelFields g.row.S.Denot). held eq new (g.S.Span.source_of a.span) ≡ Some c.in-Some.source.now) x_label
    (sym (c.in-Some.ensures ∙ ap (held eq new) x_id)))
    (so_far_grown _ _ _ _ _ _ _ _ _ _ _ _ grown _ _ _ before)
