use Rattle.std.proofs.Common.{◌≡◌, ◌≤◌, ◌-◌, length, take}
use Rattle.ariadne_report.specs.CacheReads.{world}
use Rattle.ariadne_report.specs.Judging.{GrowsFor}
use Rattle.ariadne_report.specs.Progress.{SoFar}
use Rattle.ariadne_report.proofs.accept.accept.Given as goal

-- the labels so far are judged over what the cache holds by now, and it has grown by labels alone
abbrev pub invariant-loop-position : goal.invariant-loop-position
invariant-loop-position g l =
    let s = g.S.Span in
    let eq = g.S.SourceId.PartialEq.eq in
    let names = g.C.Cache.names in
    let contents = g.C.Cache.contents in
    record {
      within : l.position ≤ length l.report.labels;
      again : g.C.Cache.can_fetch l.cache;
      naming : (q : g.row.S-SourceId.Denot) → names l.cache q ≡ names l.initial.cache q;
      grows : GrowsFor s.source_of eq l.report.labels (contents l.initial.cache) (contents l.cache);
      so_far : SoFar g.C.Cache.fails l.report.config (world s.source_of s.start_of s.end_of eq (names l.initial.cache) (contents l.initial.cache))
          (world s.source_of s.start_of s.end_of eq (names l.cache) (contents l.cache)) (take l.position l.report.labels) l.judged.left_out.items l.judged.infos.items;
    }

abbrev pub decreases-loop-position : goal.decreases-loop-position
decreases-loop-position g l = length l.report.labels - l.position
