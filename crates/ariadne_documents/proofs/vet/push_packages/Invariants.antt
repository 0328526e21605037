use Rattle.std.specs.Prelude.{◌≡◌, ◌++◌, map}
use Rattle.serde_json.specs.View.{members_view}
use Rattle.ariadne_parse.specs.Read.{read}
use Rattle.ariadne_documents.specs.Objects.{flat_members}
use Rattle.ariadne_documents.specs.Vet.{package_parsed}
use Rattle.ariadne_documents.proofs.vet.push_packages.Given as goal

-- the diagnostics so far and those that are still to come are all
abbrev pub invariant-loop-package : goal.invariant-loop-package
invariant-loop-package l =
    map read l.all.items ++ flat_members package_parsed (members_view l.package-iterator)
    ≡ map read l.initial.all.items ++ flat_members package_parsed (members_view l.fn.packages.entries)
