use Rattle.std.proofs.Common.{◌≤◌, ◌<◌, ◌-◌, ℕ, List, Option, length, take}
use Rattle.ariadne_base.specs.Cache.{Grows}
use Rattle.ariadne_base.specs.Listing.{Listing}
use Rattle.ariadne_report.specs.Counting.{IsKnown}
use Rattle.ariadne_report.specs.CacheReads.{world}
use Rattle.ariadne_report.specs.Progress.{IsSourceAt, SoFar}
use Rattle.ariadne_report.proofs.accept.judge_alike.Given as goal

-- the next label is over the source, and those before it are judged
abbrev pub invariant-loop-position : goal.invariant-loop-position
invariant-loop-position g l =
    let s = g.S.Span in
    let eq = g.S.SourceId.PartialEq.eq in
    let Id = g.row.S-SourceId.Denot in
    let labels = l.report.labels in
    record {
      from : l.first ≤ l.position;
      within : l.position < length labels;
      known : IsKnown l.source.text l.known;
      so_far : (start_names names : Id → Option (List ℕ)) (start_contents contents : List (Id × Listing))
          → let start = world s.source_of s.start_of s.end_of eq start_names start_contents in
          let w = world s.source_of s.start_of s.end_of eq names contents in
          Grows eq start_contents contents → IsSourceAt w labels l.first l.source
          → IsSourceAt w labels l.position l.source
          × (SoFar g.C.Cache.fails l.report.config start w (take l.first labels) l.initial.judged.left_out.items l.initial.judged.infos.items
          → SoFar g.C.Cache.fails l.report.config start w (take l.position labels) l.judged.left_out.items l.judged.infos.items);
    }

abbrev pub decreases-loop-position : goal.decreases-loop-position
decreases-loop-position g l = length l.report.labels - l.position
