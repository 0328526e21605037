use Rattle.std.proofs.Common.{◌∙◌, ap}
use Rattle.std.specs.Prelude.{Vec}
use Rattle.std.specs.declared.alloc.Global.{Global}
use Rattle.ariadne_show.specs.RunOutput.{at_of}
use Rattle.ariadne_show.specs.Writing.{out_of}
use Rattle.ariadne_show.specs.declared.front.WaitingLine.{WaitingLine}
use Rattle.ariadne_show.proofs.Ended.{finished_if}
use Rattle.ariadne_show.proofs.task.Task.finish.Goals as goal

-- and the lines that waited passed
pub returns-clause-finished : goal.returns-clause-finished
returns-clause-finished g c =
    finished_if c.pass_waiting.result c.args.self.now.options.now
    (at_of c.args.run.now c.args.streams.now)
    c.finish_block.new.run.known
    (out_of c.finish_block.new.run.shown c.finish_block.new.streams)
    (out_of c.pass_waiting.new.shown c.pass_waiting.new.streams)
    c.replace-front.new.dest c.as_slice.result.now c.in_ok-finish_block.ensures.finished
    (c.as_slice.ensures.value ∙ ap (λ (v : Vec WaitingLine Global). v.items) c.replace-front.ensures.value)
    (ap (λ (v : Vec WaitingLine Global). v.items) c.replace-front.ensures.after ∙ c.new.ensures.items) c.pass_waiting.ensures
