use Rattle.std.proofs.Common.{◌∙◌}
use Rattle.ariadne_layout.proofs.PartColumns.{is-within}
use Rattle.ariadne_layout.proofs.cuts.fits.Goals as goal

-- it does where they are few enough
pub returns : goal.returns
returns c = λ text held size apart.
    c.is_some.ensures
    ∙ is-within c.columns_within.result c.args.switches.now.width _ (c.columns_within.ensures.some text held size apart) (c.columns_within.ensures.none text held size apart)
