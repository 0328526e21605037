-- What is drawn is what was accepted.
use Rattle.std.proofs.Common.{ap, ◌∙◌}
use Rattle.ariadne_picture.specs.Canvas.{canvas}
use Rattle.ariadne_picture.specs.Print.{printed}
use Rattle.ariadne_picture.proofs.Reading.EveryHeadline.{every-headline}
use Rattle.ariadne_report.specs.CacheReads.{world}
use Rattle.ariadne_report.proofs.Judging.{one_source}
use Rattle.ariadne_report.proofs.Outcomes.{are-accepted}
use Rattle.ariadne.proofs.report.Report.picture.Goals as goal

-- the accepted labels are drawn over sources that the cache holds
pub draw-requires : goal.draw-requires
draw-requires g c =
    let s = g.S.Span in
    let w = world s.source_of s.start_of s.end_of g.S.SourceId.PartialEq.eq (g.C.Cache.names c.accept.new.cache) (g.C.Cache.contents c.accept.new.cache) in
    let judged = c.in_ok-judged.ensures.judged in
    let accepted = are-accepted _ _ w c.self.inside.data judged.0 judged.1 in
    record { drawn = rw judged.3 accepted.each }

-- their picture is drawn, and of every picture the headline holds
pub returns-clause-drawn : goal.returns-clause-drawn
returns-clause-drawn g c =
    let s = g.S.Span in
    let eq = g.S.SourceId.PartialEq.eq in
    let names = g.C.Cache.names c.accept.new.cache in
    let contents = g.C.Cache.contents c.accept.new.cache in
    let w = world s.source_of s.start_of s.end_of eq names contents in
    let judged = c.in_ok-judged.ensures.judged in
    let r = c.self.inside.data in
    rw (← c.self.view_is)
    record {
      outcomes = judged.0;
      are_outcomes = judged.1;
      left_out = judged.2;
      drawn =
          every-headline w r _ (are-accepted _ _ w r judged.0 judged.1) (one_source s.source_of s.start_of s.end_of eq g.met.S.SourceId.Eq.laws names contents)
          c.in_ok-judged.ensures.forward _ (c.in_ok-text.ensures ∙ ap (λ infos. printed (canvas w r infos)) judged.3);
    }
