use Rattle.std.proofs.Common.{◌≡◌, take}
use Rattle.ariadne_safe.specs.SafeBuilding.{made_of, sources_under}
use Rattle.ariadne_show.specs.Asides.{aside_notes, with_notes}
use Rattle.ariadne_show.proofs.asides.with_notes.Given as goal

-- those that are passed are in the report
abbrev pub invariant-loop-note : goal.invariant-loop-note
invariant-loop-note l = record {
  report : made_of l.builder ≡ with_notes (aside_notes l.width (take l.note-index l.notes)) (made_of l.fn.builder);
  sources : sources_under l.builder ≡ sources_under l.fn.builder;
}
