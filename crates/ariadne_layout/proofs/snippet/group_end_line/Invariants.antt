-- the last line is the greatest of it and the end lines of the labels to come
use Rattle.std.proofs.Common.{◌≡◌, drop, map, max}
use Rattle.ariadne_picture.specs.Groups.{greatest, group_end_line}
use Rattle.ariadne_layout.proofs.snippet.group_end_line.Given as goal

abbrev pub invariant-loop-info : goal.invariant-loop-info
invariant-loop-info l = max l.last (greatest (map (λ a. a.end_line) (drop l.info-index l.group))) ≡ group_end_line l.group
