-- The groups so far, and those to come.
use Rattle.std.proofs.Common.{◌≡◌, ◌≤◌, ◌-◌, ◌++◌, ℕ, List, Option, drop, length, map, Bor}
use Rattle.ariadne_base.specs.Listing.{Listing}
use Rattle.ariadne_picture.specs.Canvas.{same_source}
use Rattle.ariadne_picture.specs.Groups.{groups_of}
use Rattle.ariadne_picture.specs.declared.label_info.LabelInfo.{LabelInfo}
use Rattle.ariadne_report.specs.CacheReads.{world}
use Rattle.ariadne_report.proofs.groups.cut_groups.Given as goal

abbrev pub invariant-loop-start : goal.invariant-loop-start
invariant-loop-start g l = record {
  within : l.start ≤ length l.infos;
  cut : (names : g.row.S-SourceId.Denot → Option (List ℕ)) (contents : List (g.row.S-SourceId.Denot × Listing)) →
      let same = same_source (world g.S.Span.source_of g.S.Span.start_of g.S.Span.end_of g.S.SourceId.PartialEq.eq names contents) l.report in
      map (λ (x : Bor (List LabelInfo)). x.now) l.groups.items ++ groups_of same (drop l.start l.infos) ≡ groups_of same l.infos;
}

-- how many labels are left
abbrev pub decreases-loop-start : goal.decreases-loop-start
decreases-loop-start g l = length l.infos - l.start
