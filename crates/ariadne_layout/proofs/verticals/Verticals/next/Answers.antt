-- The last of those from a place on stands at the next place that shows one.
use Rattle.std.proofs.Common.{◌≡◌, ◌≤◌, ◌∙◌, ap, arith, get_or, subst}
use Rattle.ariadne_layout.specs.declared.verticals.Vertical.{Vertical}
use Rattle.ariadne_layout.specs.Falling.{AreFalling}
use Rattle.ariadne_layout.proofs.FallingVerticals.{index-seen, none-before, none-before_last}
use Rattle.ariadne_layout.proofs.verticals.Verticals.next.Goals as goal

-- none stands there or behind
pub returns-in_err-index-clause-none : goal.returns-in_err-index-clause-none
returns-in_err-index-clause-none c e k from to =
    let none : 1 ≤ c.count_from.result → ⊥ = c.in_err-index.ensures in
    none-before c.args.self.now c.args.from c.count_from.result k c.count_from.ensures.point from (λ j d l. absurd (none (omega arith)))

-- it is seen at its place, and those before it stand further behind
pub returns-then-vertical-to-clause-some : goal.returns-then-vertical-to-clause-some
returns-then-vertical-to-clause-some c =
    let xs = c.args.self.now in
    let n = c.count_from.result in
    let i = c.in_ok-index.index in
    let v = c.index-vertical.result.now in
    let f = subst AreFalling c.self.view_is c.self.invariant in
    let within = c.count_from.ensures.within in
    let read : v ≡ get_or xs i v = c.index-vertical.ensures ∙ rw (c.self.view_is) in
    let there : v.place ≡ (get_or xs i v).place = ap (λ (w : Vertical). w.place) read in
    let low = c.count_from.ensures.point.0 i v (omega arith) (omega arith) in
    let seen = index-seen xs i v f (omega arith) in (
      omega arith,
      c.if-vertical-to.true,
      rw (← read) at seen,
      λ k from below. none-before_last xs c.args.from n i k v f c.count_from.ensures.point (omega arith) within from (omega arith),
    )

-- all from there on stand at the end or behind it
pub returns-else-vertical-to-clause-none : goal.returns-else-vertical-to-clause-none
returns-else-vertical-to-clause-none c e k from to =
    let xs = c.args.self.now in
    let n = c.count_from.result in
    let i = c.in_ok-index.index in
    let v = c.index-vertical.result.now in
    let f = subst AreFalling c.self.view_is c.self.invariant in
    let read : v ≡ get_or xs i v = c.index-vertical.ensures ∙ rw (c.self.view_is) in
    let there : v.place ≡ (get_or xs i v).place = ap (λ (w : Vertical). w.place) read in
    none-before_last xs c.args.from n i k v f c.count_from.ensures.point (omega arith) c.count_from.ensures.within from (omega arith)
