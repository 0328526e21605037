-- the first line is the least of it and the start lines of the labels to come
use Rattle.std.proofs.Common.{◌≡◌, ◌≤◌, drop, map, min}
use Rattle.ariadne_picture.specs.Groups.{least_below, group_start_line, group_end_line}
use Rattle.ariadne_layout.proofs.snippet.group_start_line.Given as goal

abbrev pub invariant-loop-info : goal.invariant-loop-info
invariant-loop-info l = record {
  bound : l.first ≤ group_end_line l.group;
  least : min l.first (least_below (group_end_line l.group) (map (λ a. a.start_line) (drop l.info-index l.group))) ≡ group_start_line l.group;
}
