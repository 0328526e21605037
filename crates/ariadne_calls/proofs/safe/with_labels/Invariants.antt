-- The labels so far are in the report, each as it is shown.
use Rattle.std.proofs.Common.{◌≡◌, ◌++◌, map, take}
use Rattle.ariadne_safe.specs.SafeBuilding.{made_of, sources_under}
use Rattle.ariadne_safe.specs.SafeReports.{shown_label}
use Rattle.ariadne_calls.proofs.safe.with_labels.Given as goal

abbrev pub invariant-loop-label : goal.invariant-loop-label
invariant-loop-label l = record {
  report : made_of l.builder ≡ record (made_of l.fn.builder) {
    labels = (made_of l.fn.builder).labels
        ++ map (shown_label (made_of l.fn.builder).config.index_type (sources_under l.fn.builder)) (take l.label-index l.labels);
  };
  sources : sources_under l.builder ≡ sources_under l.fn.builder;
}
