use Rattle.std.proofs.Common.{◌∙◌, refl, sym, ap, subst, arith, inl, inr}
use Rattle.ariadne_picture.specs.Columns.{fits_with}
use Rattle.ariadne_layout.specs.Tables.{AreWholeColumns}
use Rattle.ariadne_layout.specs.declared.cuts.Cuts.{Cuts}
use Rattle.ariadne_layout.proofs.CutParts.{context-is, fits-more}
use Rattle.ariadne_layout.proofs.cuts.Cuts.context.Goals as goal

-- with none more nothing is tried
pub loop-count-init : goal.loop-count-init
loop-count-init c = (omega arith, refl, λ text held size k less. absurd (omega (arith, less)))

-- a turn tries one more
pub loop-count-preserved : goal.loop-count-preserved
loop-count-preserved c = (
  omega (arith, c.loop-count-test.true),
  ap (λ (q : Cuts). record q { parts = c.args.self.now.parts }) c.in_ok-fits.ensures.others ∙ c.loop-count.invariant.1,
  λ text held size.
      fits-more (fits_with c.args.switches.now text c.args.self.now.needed.items) c.loop-count.count (c.loop-count.invariant.2 text held size)
      (ap (λ (q : Cuts). fits_with c.args.switches.now text q.needed.items c.loop-count.count) (sym c.loop-count.invariant.1)
      ∙ sym (c.in_ok-fits.ensures.fits text
      (subst (AreWholeColumns c.args.switches.now.tab_width text) (sym (ap (λ (q : Cuts). q.columns) c.loop-count.invariant.1)) held) size) ∙ c.if-not-fits.false),
)

-- one that doesn't fit ends the search
pub returns-then-not-fits-clause-context : goal.returns-then-not-fits-clause-context
returns-then-not-fits-clause-context c = λ text held size.
    context-is c.args.switches.now text c.args.self.now.needed.items c.loop-count.count c.args.len c.saturating_sub.result size c.loop-count.invariant.0
    (c.loop-count.invariant.2 text held size)
    (inr (ap (λ (q : Cuts). fits_with c.args.switches.now text q.needed.items c.loop-count.count) (sym c.loop-count.invariant.1)
    ∙ sym (c.in_ok-fits.ensures.fits text
    (subst (AreWholeColumns c.args.switches.now.tab_width text) (sym (ap (λ (q : Cuts). q.columns) c.loop-count.invariant.1)) held) size) ∙ c.if-not-fits.true))
    c.saturating_sub.ensures

-- so does the last
pub returns-clause-context : goal.returns-clause-context
returns-clause-context c = λ text held size.
    context-is c.args.switches.now text c.args.self.now.needed.items c.loop-count.count c.args.len c.saturating_sub-2.result size c.loop-count.invariant.0
    (c.loop-count.invariant.2 text held size) (inl (omega (arith, c.loop-count.invariant.0, c.loop-count-test.false))) c.saturating_sub-2.ensures
