use Rattle.ariadne_show.specs.Writing.{out_of}
use Rattle.ariadne_show.proofs.Ended.{settled_shown_if}
use Rattle.ariadne_show.proofs.task.Task.show_settled.Goals as goal

-- over the files that it proposes to change
pub returns-clause-shown : goal.returns-clause-shown
returns-clause-shown g c =
    settled_shown_if c.show_one.result c.args.self.now.options.now c.args.parsed.now c.find_changed.new.parsed c.args.run.now.known
    c.show_one.new.run.known c.find_changed.new.self (out_of c.args.run.now.shown c.args.streams.now) _
    c.in_ok-find_changed.ensures c.show_one.ensures.known c.show_one.ensures.shown
