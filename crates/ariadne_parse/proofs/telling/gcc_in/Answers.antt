use Rattle.std.proofs.Common.{◌<◌, length, rules, sym}
use Rattle.serde_json.specs.View.{items_view}
use Rattle.ariadne_parse.specs.ParsedDiagnostics.{of_gcc}
use Rattle.ariadne_parse.proofs.telling.gcc_in.Goals as goal

-- the diagnostics that stand in the list
pub returns-in_ok-parsed_by_gcc-in-Some-clause-all : goal.returns-in_ok-parsed_by_gcc-in-Some-clause-all
returns-in_ok-parsed_by_gcc-in-Some-clause-all c =
    let parsed = c.in_ok-parsed_by_gcc-in-Some in
    let some : 0 < length parsed.field-0.items = search rules in
    of_gcc (items_view c.in-Some.messages.now) c.in-Some.ensures.items (sym c.in-Some.ensures.list) parsed.ensures.all some
