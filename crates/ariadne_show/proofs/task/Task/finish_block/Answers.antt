use Rattle.ariadne_show.specs.Writing.{out_of}
use Rattle.ariadne_show.proofs.Ended.{finished_none, finished_some_if}
use Rattle.ariadne_show.proofs.task.Task.finish_block.Goals as goal

-- it was written
pub returns-in-Some-clause-finished : goal.returns-in-Some-clause-finished
returns-in-Some-clause-finished g c =
    finished_some_if c.write_block.result c.args.self.now.options.now c.args.run.now.known
    (out_of c.args.run.now.shown c.args.streams.now)
    c.take.new.self c.in-Some.block _ c.in-Some.ensures.value c.take.ensures.after c.write_block.ensures.written

-- there is none
pub returns-in-None-clause-finished : goal.returns-in-None-clause-finished
returns-in-None-clause-finished g c =
    finished_none c.args.self.now.options.now c.args.run.now.known
    (out_of c.args.run.now.shown c.args.streams.now)
    c.take.new.self c.in-None.ensures.value c.take.ensures.after
