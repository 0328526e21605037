use Rattle.std.proofs.Common.{ap, is_some, subst, sym, true, Bool, IfOk}
use Rattle.std.proofs.lemmas.Result.{IfOk-weaker}
use Rattle.ariadne_matching.specs.OwnTables.{HasWordsBehind, IsOwnTable}
use Rattle.ariadne_matching.proofs.own.own_table.Goals as goal

-- that of a file, with the program's words
pub returns-in_ok-read_table-in-Some : goal.returns-in_ok-read_table-in-Some
returns-in_ok-read_table-in-Some g c =
    let read = c.in_ok-read_table-in-Some.ensures in
    let own = c.in_ok-read_table-in-Some.field-0 in
    subst (λ (b : Bool). IfOk c.with_words.result (IsOwnTable b)) (sym (ap is_some c.in-Some.is))
    (IfOk-weaker c.with_words.result (HasWordsBehind own) (IsOwnTable true) (λ whole behind. (read.0, own, read.1, behind)) c.with_words.ensures)
