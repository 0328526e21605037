use Rattle.std.proofs.Common.{◌≡◌, take}
use Rattle.ariadne_safe.specs.SafeBuilding.{made_of, sources_under}
use Rattle.ariadne_show.specs.Asides.{missing_notes, with_notes}
use Rattle.ariadne_show.specs.FoundSpans.{files_of}
use Rattle.ariadne_show.proofs.asides.with_missing.Given as goal

-- the spans that are passed have their notes
abbrev pub invariant-loop-span : goal.invariant-loop-span
invariant-loop-span l = record {
  report : made_of l.builder
      ≡ with_notes (missing_notes l.width (files_of l.shelf) (take l.span-index l.spans)) (made_of l.fn.builder);
  sources : sources_under l.builder ≡ sources_under l.fn.builder;
}
