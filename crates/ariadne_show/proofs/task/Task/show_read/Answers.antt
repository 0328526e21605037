use Rattle.std.proofs.Common.{subst}
use Rattle.std.specs.Prelude.{Bool}
use Rattle.ariadne_show.specs.Known.{IsTriedAsRow}
use Rattle.ariadne_show.specs.Writing.{out_of}
use Rattle.ariadne_show.proofs.Answered.{told_if}
use Rattle.ariadne_show.proofs.task.Task.show_read.Goals as goal

-- it is no row, and was shown by what it tells
pub returns-clause-shown : goal.returns-clause-shown
returns-clause-shown g c =
    told_if c.show_answer.result c.args.self.now.options.now c.args.line c.args.run.now.known c.take_row.new.self c.line_answer.new.sent
    (out_of c.args.run.now.shown c.args.streams.now) c.in_ok-answer.answer _
    (subst (λ (b : Bool). IsTriedAsRow c.args.line c.args.run.now.known c.take_row.new.self b) c.if-branch.false
    c.in_ok-take_row.ensures.row)
    c.in_ok-answer.ensures c.show_answer.ensures.shown
