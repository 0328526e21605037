use Rattle.std.proofs.Common.{◌∙◌, ◌≤◌, length, sym, arith}
use Rattle.ariadne_layout.proofs.CutParts.{end-here, end-searched, goes-within}
use Rattle.ariadne_layout.proofs.cuts.letter_end.Goals as goal

-- behind a place that doesn't go on no letter does
pub returns-then-not-goes_on : goal.returns-then-not-goes_on
returns-then-not-goes_on c = λ t text held size. end-here t text c.args.place (sym (c.goes_on.ensures.goes_on t text held size) ∙ c.if-not-goes_on.true)

-- else the letter ends at the first place that ends behind its column
pub returns : goal.returns
returns c = λ t text held size.
    let k = c.args.place in
    let on = sym (c.goes_on.ensures.goes_on t text held size) ∙ c.if-not-goes_on.false in
    let below = goes-within t text k on in
    let is = c.column.ensures ∙ held k (omega (arith, below)) in
    let within : c.args.len ≤ length text = omega (arith, size) in
    let high = c.first_behind.ensures.to in
    end-searched t text k c.first_behind.result c.first_behind.ensures.from (omega (arith, high, within))
    (λ j low less. let most = c.first_behind.ensures.before t text held within j low less in omega (arith, most, is))
    (λ more. let wide = c.first_behind.ensures.there t text held within (omega (arith, more, size)) in omega (arith, wide, is))
