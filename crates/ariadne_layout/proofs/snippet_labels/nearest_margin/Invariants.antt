-- It is the nearest of the labels so far.
use Rattle.std.proofs.Common.{◌≡◌, take}
use Rattle.ariadne_layout.specs.SnippetLabels.{margin_of}
use Rattle.ariadne_layout.proofs.snippet_labels.nearest_margin.Given as goal

abbrev pub invariant-loop-label : goal.invariant-loop-label
invariant-loop-label l = l.nearest ≡ margin_of (take l.label-index l.labels)
