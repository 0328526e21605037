use Rattle.std.proofs.Common.{Some, refl, sym, ap, ◌∙◌}
use Rattle.ariadne_base.proofs.RangeLemmas.{line_number_some, line_number_none, location_number}
use Rattle.ariadne_base.proofs.source.Source.line_number.Goals as goal

-- an offset past the text has no line
pub returns-in_err-number-clause-number : goal.returns-in_err-number-clause-number
returns-in_err-number-clause-number g c = c.from_residual.ensures ∙ sym (line_number_none _ _ (λ h. let t = c.in_err-number.ensures.found.1 h in cc))

-- any other has the line of its location
pub returns-clause-number : goal.returns-clause-number
returns-clause-number g c =
    ap Some (location_number _ _ _ _ _ _ c.in_ok-number.ensures.location) ∙ sym (line_number_some _ _ (c.in_ok-number.ensures.found.0 refl))
