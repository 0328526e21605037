-- The columns of one group more.
use Rattle.std.proofs.Common.{◌≡◌, ◌∙◌, ◌+◌, ◌<◌, ◌≤◌, List, ap, arith, drop, length, map, max, refl, suc, sym, Bor}
use Rattle.std.proofs.lemmas.List.{drop_all, length-map}
use Rattle.ariadne_picture.specs.Canvas.{sheet_of}
use Rattle.ariadne_picture.specs.Report.{switches_of}
use Rattle.ariadne_picture.specs.declared.label_info.LabelInfo.{LabelInfo}
use Rattle.ariadne_report.specs.CacheReads.{world}
use Rattle.ariadne_report.proofs.Grouping.{mapped_from}
use Rattle.ariadne_report.proofs.GroupingWidths.{max_is}
use Rattle.ariadne_report.proofs.FrontColumns.{columns_over, most_is, most_none, most_of, most_step}
use Rattle.ariadne_report.proofs.margins.most_before_text.Goals as goal

-- one group more
pub loop-group-preserved : goal.loop-group-preserved
loop-group-preserved g c =
    let w = world g.S.Span.source_of g.S.Span.start_of g.S.Span.end_of g.S.SourceId.PartialEq.eq (g.C.Cache.names c.args.cache.now)
    (g.C.Cache.contents c.args.cache.now) in
    let r = c.args.report.now in
    let i = c.loop-group.group-index in
    let digits = c.number_width-digits.result in
    let gs = map (λ (x : Bor (List LabelInfo)). x.now) c.args.groups.now in
    let less : i < length c.args.groups.now = c.loop-group-test.true in
    let switches = sym (c.switches-switches.ensures.switches ∙ ap switches_of c.config.ensures) in
    let wider : c.max-most.result ≡ max c.loop-group.most c.columns_before_text.result =
    c.max-most.ensures ∙ max_is c.loop-group.most c.columns_before_text.result in
    let next : i + 1 ≡ suc i = omega arith in
    most_step w r digits gs i _ (mapped_from (λ (x : Bor (List LabelInfo)). x.now) c.args.groups.now i _ less) c.columns_before_text.result c.loop-group.most
    c.max-most.result _ (c.columns_before_text.ensures ∙ columns_over digits _ _ (sheet_of w r _) refl switches) wider c.loop-group.invariant
    ∙ ap (λ k. max c.max-most.result (most_of w r digits (drop k gs))) (sym next)

-- no group is left
pub returns : goal.returns
returns g c =
    let w = world g.S.Span.source_of g.S.Span.start_of g.S.Span.end_of g.S.SourceId.PartialEq.eq (g.C.Cache.names c.args.cache.now)
    (g.C.Cache.contents c.args.cache.now) in
    let r = c.args.report.now in
    let digits = c.number_width-digits.result in
    let gs = map (λ (x : Bor (List LabelInfo)). x.now) c.args.groups.now in
    let size = length-map c.args.groups.now (λ (x : Bor (List LabelInfo)). x.now) in
    let past : length gs ≤ c.loop-group.group-index = omega arith in
    let none = ap (most_of w r digits) (drop_all c.loop-group.group-index gs past) ∙ most_none w r digits in
    let all = c.loop-group.invariant in
    let is = most_is w r gs digits c.number_width-digits.ensures.width in
    omega (arith, none, all, is)
