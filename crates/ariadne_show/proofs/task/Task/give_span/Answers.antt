use Rattle.std.proofs.Common.{◌∙◌, ap, refl, sym}
use Rattle.ariadne_show.specs.WaitingLines.{bytes_in}
use Rattle.ariadne_show.specs.RunOutput.{gave_span}
use Rattle.ariadne_show.specs.Writing.{out_of}
use Rattle.ariadne_show.specs.declared.known.Known.{Known}
use Rattle.ariadne_show.proofs.Given.{unread_if}
use Rattle.ariadne_show.proofs.task.Task.give_span.Goals as goal

-- the diagnostic has it
pub returns-then-branch-clause-gone : goal.returns-then-branch-clause-gone
returns-then-branch-clause-gone g c =
    gave_span c.settle.new.span c.in_ok-settle.ensures.settled (sym c.in_ok-settle.ensures.held ∙ c.if-branch.true)
    c.in_ok-add_span.ensures refl

-- its lines passed
pub returns-clause-gone : goal.returns-clause-gone
returns-clause-gone g c =
    unread_if c.pass_lines.result c.args.self.now.options.now (bytes_in c.args.lines.now) c.args.span c.settle.new.span
    c.args.run.now.known.finder c.settle.new.self c.pass_lines.new.run.known.finder c.args.block.now
    (out_of c.args.run.now.shown c.args.streams.now) _ c.in_ok-settle.ensures.settled (sym c.in_ok-settle.ensures.held ∙ c.if-branch.false)
    (ap (λ (k : Known). k.finder) c.pass_lines.ensures.known) c.pass_lines.ensures.passed
