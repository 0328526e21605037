use Rattle.std.proofs.Common.{◌≡◌, drop}
use Rattle.ariadne_safe.specs.SafeBuilding.{made_of, sources_under}
use Rattle.ariadne_show.specs.Asides.{helps_from, with_helps}
use Rattle.ariadne_show.proofs.asides.with_helps.Given as goal

-- what stands for the helps that are left is behind the report so far
abbrev pub invariant-loop-number : goal.invariant-loop-number
invariant-loop-number l = record {
  report : with_helps (helps_from l.width l.sketches l.number (drop l.number l.helps)) (made_of l.builder)
      ≡ with_helps (helps_from l.width l.sketches 0 l.helps) (made_of l.fn.builder);
  sources : sources_under l.builder ≡ sources_under l.fn.builder;
}
