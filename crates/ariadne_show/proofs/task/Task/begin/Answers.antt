use Rattle.ariadne_show.specs.RunOutput.{at_of}
use Rattle.ariadne_show.specs.Writing.{out_of}
use Rattle.ariadne_show.proofs.Given.{begun_if}
use Rattle.ariadne_show.proofs.task.Task.begin.Goals as goal

-- it has the spans of the lines that waited
pub returns-clause-begun : goal.returns-clause-begun
returns-clause-begun g c =
    begun_if c.give_front-given.result c.args.self.now.options.now c.args.head.now c.args.parsed (at_of c.args.run.now c.args.streams.now)
    c.finish_block.new.run.known c.give_front-given.new.run.known c.hold.new.self
    (out_of c.finish_block.new.run.shown c.finish_block.new.streams)
    (out_of c.give_front-given.new.run.shown c.give_front-given.new.streams) _ _ _
    c.in_ok-finish_block.ensures.finished c.caret_of-caret.ensures c.in_ok-block.ensures c.hold.ensures c.give_front-given.ensures.given
