use Rattle.ariadne_show.proofs.Ended.{all_shown_if}
use Rattle.ariadne_show.proofs.task.Task.show_all.Goals as goal

-- behind what was held
pub returns-clause-shown : goal.returns-clause-shown
returns-clause-shown g c =
    all_shown_if c.show_each.result c.args.self.now.options.now c.args.all.items _ _ _ c.in_ok-finish.ensures.finished
    c.show_each.ensures.shown
