use Rattle.std.proofs.Common.{◌≡◌, ◌≤◌, ◌+◌, ◌∙◌, length, sym, arith, rules}
use Rattle.ariadne_layout.proofs.CutParts.{goes-within, start-columnless, start-here, start-searched}
use Rattle.ariadne_layout.proofs.cuts.letter_start.Goals as goal

-- a place that doesn't go on begins its letter
pub returns-then-not-goes_on : goal.returns-then-not-goes_on
returns-then-not-goes_on c = λ t text held size. start-here t text c.args.place (sym (c.goes_on.ensures.goes_on t text held size) ∙ c.if-not-goes_on.true)

-- the letter of another begins at the first place that ends where it does
pub returns-in-Some : goal.returns-in-Some
returns-in-Some c = λ t text held size.
    let k = c.args.place in
    let on = sym (c.goes_on.ensures.goes_on t text held size) ∙ c.if-not-goes_on.false in
    let below = goes-within t text k on in
    let is = c.column.ensures ∙ held k (omega (arith, below)) in
    let before : c.in-Some.before + 1 ≡ c.column.result = search rules in
    let within : k ≤ length text = omega (arith, below) in
    start-searched t text c.first_behind.result k c.in-Some.before on (omega (arith, is, before)) c.first_behind.ensures.to
    (λ j less. c.first_behind.ensures.before t text held within j (omega arith) less) (c.first_behind.ensures.there t text held within)

-- or at the first of all
pub returns-in-None : goal.returns-in-None
returns-in-None c = λ t text held size.
    let k = c.args.place in
    let on = sym (c.goes_on.ensures.goes_on t text held size) ∙ c.if-not-goes_on.false in
    let below = goes-within t text k on in
    let is = c.column.ensures ∙ held k (omega (arith, below)) in
    let none : c.column.result ≡ 0 = search rules in
    start-columnless t text k on (omega (arith, is, none))
