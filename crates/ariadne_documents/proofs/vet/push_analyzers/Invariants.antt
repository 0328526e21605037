use Rattle.std.specs.Prelude.{◌≡◌, ◌++◌, map}
use Rattle.serde_json.specs.View.{members_view}
use Rattle.ariadne_parse.specs.Read.{read}
use Rattle.ariadne_documents.specs.Objects.{flat_members}
use Rattle.ariadne_documents.specs.Vet.{analyzer_parsed}
use Rattle.ariadne_documents.proofs.vet.push_analyzers.Given as goal

-- the diagnostics so far and those that are still to come are all
abbrev pub invariant-loop-name : goal.invariant-loop-name
invariant-loop-name l =
    map read l.all.items ++ flat_members analyzer_parsed (members_view l.name-iterator)
    ≡ map read l.initial.all.items ++ flat_members analyzer_parsed (members_view l.fn.analyzers.entries)
