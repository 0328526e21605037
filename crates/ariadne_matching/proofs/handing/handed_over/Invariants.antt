use Rattle.std.proofs.Common.{◌≡◌}
use Rattle.std.specs.Prelude.{map}
use Rattle.std.specs.List.{concat, range_with_len}
use Rattle.ariadne_matching.specs.HandedOver.{handed_at}
use Rattle.ariadne_matching.proofs.handing.handed_over.Given as goal

-- what stands in the place of the lines so far
abbrev pub invariant-loop-place : goal.invariant-loop-place
invariant-loop-place l = l.bytes.items ≡ concat (map (handed_at l.lines l.fit l.report) (range_with_len 0 l.place))
