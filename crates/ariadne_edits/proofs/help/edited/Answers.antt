use Rattle.std.proofs.Common.{sym, subst}
use Rattle.ariadne_edits.specs.Changes.{Fit}
use Rattle.ariadne_edits.proofs.Fitting.{accepted_fit}
use Rattle.ariadne_edits.proofs.help.edited.Goals as goal

-- edits that are accepted fit
pub joined-requires : goal.joined-requires
joined-requires c =
    subst (Fit c.args.text.now 0) (sym c.as_slice.ensures.value)
    (accepted_fit c.args.counts c.args.text.now c.utf8.text c.args.edits.now c.in_ok-made.made.items c.in_ok-made.ensures.ok)
