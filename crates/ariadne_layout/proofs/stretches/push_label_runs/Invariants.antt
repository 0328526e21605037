-- so far a stretch is added for each of the first runs
use Rattle.std.proofs.Common.{◌≡◌, map, take}
use Rattle.ariadne_layout.proofs.Stretched.{stretch_of}
use Rattle.ariadne_layout.proofs.stretches.push_label_runs.Given as goal

abbrev pub invariant-loop-run : goal.invariant-loop-run
invariant-loop-run l = l.list.items ≡ map stretch_of (take l.run-index l.runs)
