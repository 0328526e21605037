use Rattle.std.specs.Prelude.{◌≡◌}
use Rattle.serde_json.specs.View.{members_view}
use Rattle.ariadne_documents.specs.Objects.{any_member}
use Rattle.ariadne_documents.specs.Vet.{has_list}
use Rattle.ariadne_documents.proofs.vet.have_list.Given as goal

-- one of those that are left has a list where one of all has
abbrev pub invariant-loop-package : goal.invariant-loop-package
invariant-loop-package l =
    any_member has_list (members_view l.package-iterator) ≡ any_member has_list (members_view l.fn.packages.entries)
