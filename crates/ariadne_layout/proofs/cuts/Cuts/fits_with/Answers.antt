use Rattle.std.proofs.Common.{subst, sym}
use Rattle.ariadne_layout.specs.Cuts.{AreApart}
use Rattle.ariadne_layout.proofs.JoinedParts.{fits-told}
use Rattle.ariadne_layout.proofs.cuts.Cuts.fits_with.Goals as goal

-- the joined parts fit as the widened ones do
pub returns-clause-fits : goal.returns-clause-fits
returns-clause-fits c = λ text held size.
    let t = c.args.switches.now.tab_width in
    let apart = subst AreApart (sym c.deref-2.ensures.value) (c.in_ok-widen.ensures.apart t text held size) in
    fits-told c.args.switches.now text c.widen.new.list.items c.deref-2.result.now c.args.self.now.needed.items c.deref.result.now c.args.count c.fits.result
    c.deref-2.ensures.value c.deref.ensures.value (c.in_ok-widen.ensures.alike t text held size) (c.fits.ensures text held size apart)
