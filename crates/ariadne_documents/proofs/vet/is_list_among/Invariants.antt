use Rattle.std.specs.Prelude.{◌≡◌, is_some}
use Rattle.serde_json.specs.Find.{as_array}
use Rattle.serde_json.specs.View.{members_view}
use Rattle.ariadne_documents.specs.Objects.{any_member}
use Rattle.ariadne_documents.proofs.vet.is_list_among.Given as goal

-- one of those that are left is a list where one of all is
abbrev pub invariant-loop-analyzer : goal.invariant-loop-analyzer
invariant-loop-analyzer l =
    any_member (λ analyzer. is_some (as_array analyzer)) (members_view l.analyzer-iterator)
    ≡ any_member (λ analyzer. is_some (as_array analyzer)) (members_view l.fn.analyzers.entries)
