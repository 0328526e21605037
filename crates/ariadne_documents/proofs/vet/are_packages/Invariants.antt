use Rattle.std.specs.Prelude.{◌≡◌}
use Rattle.serde_json.specs.View.{members_view}
use Rattle.ariadne_documents.specs.Objects.{all_members}
use Rattle.ariadne_documents.specs.Vet.{is_package}
use Rattle.ariadne_documents.proofs.vet.are_packages.Given as goal

-- those that are left pass where all do
abbrev pub invariant-loop-package : goal.invariant-loop-package
invariant-loop-package l =
    all_members is_package (members_view l.package-iterator) ≡ all_members is_package (members_view l.fn.packages.entries)
