use Rattle.std.proofs.Common.{◌≡◌, map, take}
use Rattle.ariadne_safe.specs.SafeBuilding.{made_of, sources_under}
use Rattle.ariadne_show.specs.FoundSpans.{found_of}
use Rattle.ariadne_show.specs.FoundLabels.{labels_of, with_labels}
use Rattle.ariadne_show.proofs.drawing.with_labels.Given as goal

-- the spans that are passed have their labels
abbrev pub invariant-loop-it : goal.invariant-loop-it
invariant-loop-it l = record {
  report : made_of l.builder
      ≡ with_labels (labels_of (made_of l.fn.builder).config.index_type (sources_under l.fn.builder) l.severity l.is_compact
      (map found_of (take l.it-index l.spans))) (made_of l.fn.builder);
  sources : sources_under l.builder ≡ sources_under l.fn.builder;
}
