use Rattle.std.proofs.Common.{◌≡◌, take}
use Rattle.ariadne_safe.specs.SafeBuilding.{made_of, sources_under}
use Rattle.ariadne_show.specs.Asides.{texts_at, with_helps}
use Rattle.ariadne_show.proofs.asides.with_sketches.Given as goal

-- the texts of those that are passed and begin there are in the report
abbrev pub invariant-loop-sketch : goal.invariant-loop-sketch
invariant-loop-sketch l = record {
  report : made_of l.builder
      ≡ with_helps (texts_at l.number (take l.sketch-index l.sketches)) (made_of l.fn.builder);
  sources : sources_under l.builder ≡ sources_under l.fn.builder;
}
