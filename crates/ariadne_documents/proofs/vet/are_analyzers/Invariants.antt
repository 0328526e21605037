use Rattle.std.specs.Prelude.{◌≡◌}
use Rattle.serde_json.specs.View.{members_view}
use Rattle.ariadne_documents.specs.Objects.{all_members}
use Rattle.ariadne_documents.specs.Vet.{is_analyzer}
use Rattle.ariadne_documents.proofs.vet.are_analyzers.Given as goal

-- those that are left pass where all do
abbrev pub invariant-loop-analyzer : goal.invariant-loop-analyzer
invariant-loop-analyzer l =
    all_members is_analyzer (members_view l.analyzer-iterator) ≡ all_members is_analyzer (members_view l.fn.analyzers.entries)
