use Rattle.ariadne_show.specs.Writing.{out_of}
use Rattle.ariadne_show.proofs.Answered.{all_passed_if, placed_began_if}
use Rattle.ariadne_show.proofs.task.Task.show_placed.Goals as goal

-- its diagnostic is held
pub returns-in-Some-clause-shown : goal.returns-in-Some-clause-shown
returns-in-Some-clause-shown g c =
    placed_began_if c.begin.result c.args.self.now.options.now c.args.line c.args.head c.in-Some.opened c.args.run.now.known
    c.opened.new.self (out_of c.args.run.now.shown c.args.streams.now) _ (rw c.in-Some.is at c.in_ok-opened.ensures.opened) c.begin.ensures.begun

-- all lines passed
pub returns-clause-shown : goal.returns-clause-shown
returns-clause-shown g c =
    all_passed_if c.pass_both.result c.args.self.now.options.now c.args.line c.args.head c.args.run.now.known
    c.opened.new.self (out_of c.args.run.now.shown c.args.streams.now) _ c.as_slice.result.now (rw c.in-None.is at c.in_ok-opened.ensures.opened)
    c.as_slice.ensures.value c.pass_both.ensures.passed
