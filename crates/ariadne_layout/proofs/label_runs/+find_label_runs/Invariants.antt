-- either half has fewer labels
use Rattle.ariadne_layout.specs.Candidates.{count}
use Rattle.ariadne_layout.proofs.label_runs.+find_label_runs.Given as goal

abbrev pub decreases-find_label_runs : goal.decreases-find_label_runs
decreases-find_label_runs l = count l.labels.now
