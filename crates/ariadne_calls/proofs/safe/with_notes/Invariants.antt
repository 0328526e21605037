-- The notes so far are in the report, each as it is shown.
use Rattle.std.proofs.Common.{◌≡◌, ◌++◌, map, take}
use Rattle.std.specs.Prelude.{string_bytes}
use Rattle.ariadne_safe.specs.Visible.{visible_bytes}
use Rattle.ariadne_safe.specs.declared.text.TextKind.TheVariants.{Aside}
use Rattle.ariadne_safe.specs.SafeBuilding.{made_of, sources_under}
use Rattle.ariadne_calls.proofs.safe.with_notes.Given as goal

abbrev pub invariant-loop-note : goal.invariant-loop-note
invariant-loop-note l = record {
  report : made_of l.builder ≡ record (made_of l.fn.builder) {
    notes = (made_of l.fn.builder).notes ++ map (visible_bytes Aside) (map string_bytes (take l.note-index l.notes));
  };
  sources : sources_under l.builder ≡ sources_under l.fn.builder;
}
