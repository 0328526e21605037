use Rattle.std.proofs.Common.{◌∙◌, ap, arith, map}
use Rattle.std.proofs.lemmas.List.{take_all}
use Rattle.ariadne_layout.specs.Tables.{shown_at}
use Rattle.ariadne_layout.proofs.Stretched.{stretch_of, stretches_shown}
use Rattle.ariadne_layout.proofs.stretches.push_label_runs.Goals as goal

-- at the end there is a stretch for each run
pub returns : goal.returns
returns c = λ k.
    let runs = c.args.runs.now in
    ap (λ t. shown_at t k) (c.loop-run.invariant ∙ ap (map stretch_of) (take_all c.loop-run.run-index runs (omega arith)))
    ∙ stretches_shown runs k
