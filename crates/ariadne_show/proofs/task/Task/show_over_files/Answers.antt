use Rattle.std.proofs.Common.{refl}
use Rattle.ariadne_show.specs.RunOutput.{at_of}
use Rattle.ariadne_show.specs.Writing.{out_of}
use Rattle.ariadne_show.proofs.Ended.{whole_if}
use Rattle.ariadne_show.proofs.task.Task.show_over_files.Goals as goal

-- over its files, without spans that repeat others
pub returns-clause-shown : goal.returns-clause-shown
returns-clause-shown g c =
    whole_if c.show_settled.result c.args.self.now.options.now c.args.parsed.now c.open.new.parsed
    (record c.open.new.parsed { spans = c.drop_repeats.new.spans }) c.args.run.now.known c.open.new.self
    (out_of c.args.run.now.shown c.args.streams.now) (at_of c.show_settled.new.run c.show_settled.new.streams)
    c.in_ok-open.ensures.opened (record { spans = c.in_ok-drop_repeats.ensures; others = refl })
    c.show_settled.ensures.shown
