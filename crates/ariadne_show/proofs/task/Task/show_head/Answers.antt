use Rattle.ariadne_show.specs.Writing.{out_of}
use Rattle.ariadne_show.proofs.Answered.{head_began_if, head_passed_if}
use Rattle.ariadne_show.proofs.task.Task.show_head.Goals as goal

-- its diagnostic is held
pub returns-in-Some-clause-shown : goal.returns-in-Some-clause-shown
returns-in-Some-clause-shown g c =
    head_began_if c.begin.result c.args.self.now.options.now c.args.line c.args.parsed c.in-Some.parsed c.args.run.now.known
    c.opened.new.self (out_of c.args.run.now.shown c.args.streams.now) _ (rw c.in-Some.is at c.in_ok-parsed.ensures.opened) c.begin.ensures.begun

-- its line passed
pub returns-in-None-clause-shown : goal.returns-in-None-clause-shown
returns-in-None-clause-shown g c =
    head_passed_if c.pass_line.result c.args.self.now.options.now c.args.line c.args.parsed c.args.run.now.known
    c.opened.new.self (out_of c.args.run.now.shown c.args.streams.now) _ (rw c.in-None.is at c.in_ok-parsed.ensures.opened) c.pass_line.ensures.passed
