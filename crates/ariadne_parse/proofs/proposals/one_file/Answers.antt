use Rattle.std.proofs.Common.{◌∙◌, ap, sym}
use Rattle.std.specs.Prelude.{if◌then◌else◌, Bool, None, Option, Some, List, ℕ}
use Rattle.ariadne_parse.proofs.Ways.{one_file_is}
use Rattle.ariadne_parse.proofs.proposals.one_file.Goals as goal

-- the others are of the file of the first
pub returns-then-are_of : goal.returns-then-are_of
returns-then-are_of c =
    let P : Bool → Option (List ℕ) = λ b. if b then Some c.in_ok-first.first.now.file.now else None in
    sym
    (one_file_is c.args.changes.now c.in_ok-first.others.now c.in_ok-first.first.now c.in_ok-first.ensures.cases.0
    ∙ ap P (sym c.are_of.ensures ∙ c.if-are_of.true))

-- one is not
pub returns-else-are_of : goal.returns-else-are_of
returns-else-are_of c =
    let P : Bool → Option (List ℕ) = λ b. if b then Some c.in_ok-first.first.now.file.now else None in
    sym
    (one_file_is c.args.changes.now c.in_ok-first.others.now c.in_ok-first.first.now c.in_ok-first.ensures.cases.0
    ∙ ap P (sym c.are_of.ensures ∙ c.if-are_of.false))
