use Rattle.std.proofs.Common.{◌∙◌, ap}
use Rattle.ariadne_show.specs.RunOutput.{at_of}
use Rattle.ariadne_show.specs.WaitingLines.{bytes_of}
use Rattle.ariadne_show.proofs.Ended.{written_if}
use Rattle.ariadne_show.proofs.task.Task.write_block.Goals as goal

-- what was read of it was shown, and the lines behind it passed
pub returns-clause-written : goal.returns-clause-written
returns-clause-written g c =
    written_if c.write_read-written.result c.args.self.now.options.now c.args.block _ _ (at_of c.args.run.now c.args.streams.now)
    (at_of c.write_read-written.new.run c.write_read-written.new.streams) c.finish-parsed.ensures.parsed
    (ap bytes_of c.as_slice.ensures.value ∙ c.finish-parsed.ensures.behind) c.write_read-written.ensures.written
