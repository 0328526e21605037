use Rattle.std.proofs.Common.{◌+◌, ap, arith, option_copied}
use Rattle.ariadne_layout.specs.Candidates.{infos_among}
use Rattle.ariadne_layout.proofs.LabelRuns.{runs_choice}
use Rattle.ariadne_layout.proofs.label_runs.find_label_runs_of_few.Goals as goal

-- a turn adds the run of a choice
pub loop-place-preserved : goal.loop-place-preserved
loop-place-preserved c =
    let within = c.choose-choice.ensures.within in
    record {
      within = omega (arith, c.len-place.ensures);
      seen = runs_choice (infos_among c.args.labels.now) c.args.offset c.loop-place.place c.args.len c.choose-choice.result
          c.loop-place.runs.items c.push.new.self.items _ c.loop-place.invariant.seen c.choose-choice.ensures c.loop-place-test.true
          (ap (λ n. c.loop-place.place + n) c.len-place.ensures) (ap option_copied c.label.ensures) c.in_ok-push.ensures.items;
    }
