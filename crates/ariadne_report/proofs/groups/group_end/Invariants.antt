-- No cut stands in the group so far.
use Rattle.std.proofs.Common.{◌<◌, ◌≤◌, ◌-◌, ℕ, List, length, Option}
use Rattle.std.specs.List.{slice_range}
use Rattle.ariadne_base.specs.Listing.{Listing}
use Rattle.ariadne_picture.specs.Canvas.{same_source}
use Rattle.ariadne_report.specs.CacheReads.{world}
use Rattle.ariadne_report.proofs.Grouping.{NoCuts}
use Rattle.ariadne_report.proofs.groups.group_end.Given as goal

abbrev pub invariant-loop-end : goal.invariant-loop-end
invariant-loop-end g l = record {
  after : l.start < l.end;
  within : l.end ≤ length l.infos;
  uncut : (names : g.row.S-SourceId.Denot → Option (List ℕ)) (contents : List (g.row.S-SourceId.Denot × Listing))
      → NoCuts (same_source (world g.S.Span.source_of g.S.Span.start_of g.S.Span.end_of g.S.SourceId.PartialEq.eq names contents) l.report) (slice_range l.infos l.start l.end);
}

-- how many labels are left
abbrev pub decreases-loop-end : goal.decreases-loop-end
decreases-loop-end g l = length l.infos - l.end
