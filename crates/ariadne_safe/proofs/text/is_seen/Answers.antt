-- The run that is kept is the whole text, or is over before its end.
use Rattle.ariadne_safe.proofs.KeptTexts.{kept_decides}
use Rattle.ariadne_safe.proofs.text.is_seen.Goals as goal

pub returns : goal.returns
returns c =
    kept_decides c.args.text.now c.kept_run.result c.utf8.text c.kept_run.ensures.kept c.kept_run.ensures.end
