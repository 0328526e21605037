-- The width of one group more.
use Rattle.std.proofs.Common.{◌≡◌, ◌∙◌, ◌+◌, ◌<◌, ◌≤◌, List, ap, arith, drop, length, map, max, suc, sym, Bor}
use Rattle.std.specs.Prelude.{decimal}
use Rattle.std.proofs.lemmas.List.{drop_all, length-map}
use Rattle.ariadne_picture.specs.Canvas.{number_width}
use Rattle.ariadne_picture.specs.declared.label_info.LabelInfo.{LabelInfo}
use Rattle.ariadne_report.specs.CacheReads.{world}
use Rattle.ariadne_report.specs.DrawnGroups.{IsGroup}
use Rattle.ariadne_report.proofs.Grouping.{all_mapped, mapped_from}
use Rattle.ariadne_report.proofs.GroupingSources.{width_none, width_step}
use Rattle.ariadne_report.proofs.GroupingWidths.{few_digits, max_is}
use Rattle.ariadne_report.proofs.groups.number_width.Goals as goal

-- each is a group
pub last_number-requires : goal.last_number-requires
last_number-requires g c =
    let w = world g.S.Span.source_of g.S.Span.start_of g.S.Span.end_of g.S.SourceId.PartialEq.eq (g.C.Cache.names c.args.cache.now)
    (g.C.Cache.contents c.args.cache.now) in
    let less : c.loop-group.group-index < length c.args.groups.now = c.loop-group-test.true in
    record {
      group =
          all_mapped (λ (x : Bor (List LabelInfo)). x.now) (IsGroup w c.args.report.now) c.args.groups.now c.loop-group.group-index _ less
          c.requires.groups;
    }

-- one group more
pub loop-group-preserved : goal.loop-group-preserved
loop-group-preserved g c =
    let w = world g.S.Span.source_of g.S.Span.start_of g.S.Span.end_of g.S.SourceId.PartialEq.eq (g.C.Cache.names c.args.cache.now)
    (g.C.Cache.contents c.args.cache.now) in
    let r = c.args.report.now in
    let i = c.loop-group.group-index in
    let gs = map (λ (x : Bor (List LabelInfo)). x.now) c.args.groups.now in
    let less : i < length c.args.groups.now = c.loop-group-test.true in
    let wider : c.max-width.result ≡ max c.loop-group.width (length (decimal c.last_number.result)) =
    c.max-width.ensures ∙ max_is c.loop-group.width c.decimal_len.result ∙ ap (max c.loop-group.width) c.decimal_len.ensures in
    let next : i + 1 ≡ suc i = omega arith in
    let few = few_digits c.last_number.result (omega arith) in
    record {
      width =
          width_step w r gs i _ (mapped_from (λ (x : Bor (List LabelInfo)). x.now) c.args.groups.now i _ less) c.last_number.result c.loop-group.width
          c.max-width.result _ c.last_number.ensures wider c.loop-group.invariant.width
          ∙ ap (λ k. max c.max-width.result (number_width w r (drop k gs))) (sym next);
      few = omega (arith, wider, few, c.loop-group.invariant.few);
    }

-- no group is left
pub returns-clause-width : goal.returns-clause-width
returns-clause-width g c =
    let w = world g.S.Span.source_of g.S.Span.start_of g.S.Span.end_of g.S.SourceId.PartialEq.eq (g.C.Cache.names c.args.cache.now)
    (g.C.Cache.contents c.args.cache.now) in
    let r = c.args.report.now in
    let gs = map (λ (x : Bor (List LabelInfo)). x.now) c.args.groups.now in
    let size = length-map c.args.groups.now (λ (x : Bor (List LabelInfo)). x.now) in
    let past : length gs ≤ c.loop-group.group-index = omega arith in
    let none = ap (number_width w r) (drop_all c.loop-group.group-index gs past) ∙ width_none w r in
    let all = c.loop-group.invariant.width in
    omega (arith, none, all)
