use Rattle.std.proofs.Common.{refl, subst}
use Rattle.ariadne_show.specs.RunOutput.{at_of, IsInputShown}
use Rattle.ariadne_show.specs.declared.showing.InputEnd.{InputEnd}
use Rattle.ariadne_show.proofs.task.Task.show_to_end.Goals as goal

-- the lines of the input, and what stands behind them
pub returns-in_ok-show_end-in-AtEnd : goal.returns-in_ok-show_end-in-AtEnd
returns-in_ok-show_end-in-AtEnd g c =
    let finished = at_of c.show_input.new.run c.show_input.new.streams in record {
      finished = finished;
      lines = subst (λ (e : InputEnd). IsInputShown c.args.self.now.options.now (g.I.Read.remaining c.args.input.now)
          (at_of c.args.run.now c.args.streams.now) finished e) c.in-AtEnd.is c.in_ok-show_input.ensures;
      end = c.in_ok-show_end-in-AtEnd.ensures;
      summed = refl;
    }
