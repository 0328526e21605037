-- the labels so far, and those that come, are those of the files behind the first; all else is as it was
use Rattle.std.proofs.Common.{◌≡◌, drop}
use Rattle.std.specs.Prelude.{◌++◌}
use Rattle.std.specs.List.{flat_map}
use Rattle.ariadne_commands.specs.Linted.{labels_of}
use Rattle.ariadne_commands.proofs.linting.with_labels_of_all.Given as goal

abbrev pub invariant-loop-it : goal.invariant-loop-it
invariant-loop-it l = record {
  report : l.builder ≡ record l.fn.builder { labels = l.builder.labels };
  labels : l.builder.labels ++ flat_map labels_of (drop l.it-index l.checked) ≡ l.fn.builder.labels ++ flat_map labels_of l.checked;
}
