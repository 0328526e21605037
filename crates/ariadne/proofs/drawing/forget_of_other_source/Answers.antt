-- No line is remembered, or it is one of the source of both groups.
use Rattle.std.proofs.Common.{◌∙◌, subst, sym}
use Rattle.ariadne_base.specs.Listing.{Listing, listed_lines}
use Rattle.ariadne_picture.specs.Canvas.{group_source}
use Rattle.ariadne_render.specs.LongLines.{IsRemembered}
use Rattle.ariadne_render.proofs.LongLines.{none_remembered}
use Rattle.ariadne_report.specs.CacheReads.{world}
use Rattle.ariadne_report.proofs.GroupingSources.{one_group_source, one_source}
use Rattle.ariadne.proofs.drawing.forget_of_other_source.Goals.{else-is_some-via-then-is_some+else-not-are_over_one_source}
use Rattle.ariadne.proofs.drawing.forget_of_other_source.Goals.{else-is_some-via-else-is_some}
use Rattle.ariadne.proofs.drawing.forget_of_other_source.Goals as goal

pub returns-else-is_some : goal.returns-else-is_some
returns-else-is_some g c = λ names contents before group first second known.
    let w = world g.S.Span.source_of g.S.Span.start_of g.S.Span.end_of g.S.SourceId.PartialEq.eq names contents in
    let r = c.args.report.now in
    elim c.else-is_some.branch [
      | else-is_some-via-then-is_some+else-not-are_over_one_source t ↦
          let one = one_source g.S.SourceId.PartialEq.eq g.met.S.SourceId.Eq.laws contents in
          let same = sym (t.are_over_one_source.ensures names contents) ∙ t.if-not-are_over_one_source.false in
          subst (λ (s : Listing). IsRemembered (listed_lines s) c.args.long.now)
          (one_group_source w r one c.args.before.now c.args.first.now before group first second same) known
      | else-is_some-via-else-is_some t ↦
          none_remembered (listed_lines (group_source w r group)) c.args.long.now (sym c.is_some.ensures ∙ t.if-is_some.false)
    ]
