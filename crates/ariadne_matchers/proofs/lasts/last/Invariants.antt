use Rattle.std.proofs.Common.{◌≡◌, take}
use Rattle.std.specs.Prelude.{map, option_map}
use Rattle.ariadne_matchers.specs.Catches.{caught_at, cut_told}
use Rattle.ariadne_matchers.specs.Lasts.{last_of}
use Rattle.ariadne_matchers.proofs.lasts.last.Given as goal

-- what was caught last of the lines so far
abbrev pub invariant-loop-caught : goal.invariant-loop-caught
invariant-loop-caught l = option_map cut_told l.last ≡ last_of l.group (map caught_at (take l.caught-index l.lines))
