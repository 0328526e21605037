use Rattle.ariadne_show.specs.Writing.{out_of}
use Rattle.ariadne_show.proofs.Ended.{read_written_if}
use Rattle.ariadne_show.proofs.task.Task.write_read.Goals as goal

-- it was shown, and the lines behind it passed
pub returns-clause-written : goal.returns-clause-written
returns-clause-written g c =
    read_written_if c.pass_behind.result c.args.self.now.options.now c.args.read.now c.settle.new.parsed _ c.args.run.now.known
    c.settle.new.self c.show_settled.new.run.known (out_of c.args.run.now.shown c.args.streams.now) _ _
    c.in_ok-settle.ensures c.in_ok-show_settled.ensures.shown c.pass_behind.ensures
