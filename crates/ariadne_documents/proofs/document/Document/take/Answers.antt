use Rattle.std.proofs.Common.{◌≡◌, ◌∙◌, ◌+◌, ap, List, arith, subst, sym, ℕ}
use Rattle.std.specs.Prelude.{true}
use Rattle.ariadne_documents.specs.Documents.{fits, step_of, IsGathered}
use Rattle.ariadne_documents.proofs.Gathering.{closed_bound, gathered, opened_bound, stepped}
use Rattle.ariadne_documents.proofs.document.Document.take.Goals as goal

-- the line fits, so that the sums do
pub overflow_add-self : goal.overflow_add-self
overflow_add-self c =
    let text : List ℕ = c.self.inside.bytes.items in
    let line : List ℕ = c.args.line.now in
    let fit : fits text line ≡ true = ap (λ (t : List ℕ). fits t line) (sym c.as_slice.ensures.value) ∙ sym c.fits.ensures ∙ c.if-not-fits.false in
    let le = opened_bound text line c.self.inside.opened c.self.inside.closed c.scan_line-scan.result c.self.invariant c.scan_line-scan.ensures.scan fit in
    omega (arith, le)

pub overflow_add-self-2 : goal.overflow_add-self-2
overflow_add-self-2 c =
    let text : List ℕ = c.self.inside.bytes.items in
    let line : List ℕ = c.args.line.now in
    let fit : fits text line ≡ true = ap (λ (t : List ℕ). fits t line) (sym c.as_slice.ensures.value) ∙ sym c.fits.ensures ∙ c.if-not-fits.false in
    let le = closed_bound text line c.self.inside.opened c.self.inside.closed c.scan_line-scan.result c.self.invariant c.scan_line-scan.ensures.scan fit in
    omega (arith, le)

-- what is held then, and what that does
pub invariant_of-self-2 : goal.invariant_of-self-2
invariant_of-self-2 c =
    let text : List ℕ = c.self.inside.bytes.items in
    let line : List ℕ = c.args.line.now in
    let fit : fits text line ≡ true = ap (λ (t : List ℕ). fits t line) (sym c.as_slice.ensures.value) ∙ sym c.fits.ensures ∙ c.if-not-fits.false in
    subst (λ (t : List ℕ). IsGathered t (c.self.inside.opened + c.scan_line-scan.result.opened) (c.self.inside.closed + c.scan_line-scan.result.closed))
    (sym c.in_ok-extend_from_slice.ensures.items)
    (gathered text line c.self.inside.opened c.self.inside.closed c.scan_line-scan.result c.self.invariant c.scan_line-scan.ensures.scan fit)

pub returns-clause-step : goal.returns-clause-step
returns-clause-step c =
    let text : List ℕ = c.self.inside.bytes.items in
    let line : List ℕ = c.args.line.now in
    let fit : fits text line ≡ true = ap (λ (t : List ℕ). fits t line) (sym c.as_slice.ensures.value) ∙ sym c.fits.ensures ∙ c.if-not-fits.false in
    stepped text line _ _ c.behind_line.result fit
    (gathered text line c.self.inside.opened c.self.inside.closed c.scan_line-scan.result c.self.invariant c.scan_line-scan.ensures.scan fit)
    c.behind_line.ensures
    ∙ ap (λ (t : List ℕ). step_of t line) c.self.view_is
