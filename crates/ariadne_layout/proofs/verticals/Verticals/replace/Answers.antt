-- Where a vertical is seen at a place, it is the last of those from there on: another takes its place, or it goes.
use Rattle.std.proofs.Common.{◌≡◌, ◌≤◌, ◌==◌, ◌∙◌, ap, arith, cond, IfSome, length, None, Some, subst, sym}
use Rattle.std.specs.Option.{IsSome}
use Rattle.ariadne_layout.specs.declared.verticals.Vertical.{Vertical}
use Rattle.ariadne_layout.specs.Falling.{AreFalling}
use Rattle.ariadne_layout.specs.Tables.{seen_vertical}
use Rattle.ariadne_layout.proofs.FallingVerticals.{last-seen, none-before, not-seen, remove-falling, remove-seen, set-falling, set-seen, SplitAt}
use Rattle.ariadne_layout.proofs.verticals.Verticals.replace.Goals as goal

-- the other one stands at the place, so behind those that stand in front of it
pub invariant_of-self : goal.invariant_of-self
invariant_of-self c =
    let xs = c.self.inside.list.items in
    let n = c.count_from.result in
    let i = c.in-Some.index in
    let v = c.in-Some-vertical.vertical in
    let split = subst (λ ys. SplitAt c.args.place ys n) (sym c.self.view_is) c.count_from.ensures.point in
    let within : n ≤ length xs = rw (c.self.view_is) c.count_from.ensures.within in
    let there : v.place ≡ c.args.place = subst (λ o. IfSome o (λ (w : Vertical). w.place ≡ c.args.place)) c.in-Some-vertical.is c.requires in
    let low = split.0 i v (omega arith) (omega arith) in
    set-falling xs i v c.self.invariant (omega arith) (omega arith)
    (λ k d from below. let less = split.1 k d (omega arith) below in omega arith)

-- a list that falls still does without one of it
pub invariant_of-self-in-None : goal.invariant_of-self-in-None
invariant_of-self-in-None c =
    let xs = c.self.inside.list.items in
    let n = c.count_from.result in
    let within : n ≤ length xs = rw (c.self.view_is) c.count_from.ensures.within in
    subst AreFalling (sym c.remove.ensures.items) (remove-falling xs c.in-Some.index c.remove.result c.self.invariant (omega arith))

-- the last of those from there on was seen, and the other one is now
pub returns-in-Some-vertical : goal.returns-in-Some-vertical
returns-in-Some-vertical c seen k =
    let xs = c.self.inside.list.items in
    let n = c.count_from.result in
    let p = c.args.place in
    let i = c.in-Some.index in
    let v = c.in-Some-vertical.vertical in
    let split = subst (λ ys. SplitAt p ys n) (sym c.self.view_is) c.count_from.ensures.point in
    let within : n ≤ length xs = rw (c.self.view_is) c.count_from.ensures.within in
    let there : v.place ≡ p = subst (λ o. IfSome o (λ (w : Vertical). w.place ≡ p)) c.in-Some-vertical.is c.requires in
    let shown = subst (λ ys. IsSome (seen_vertical ys p)) (sym c.self.view_is) seen in
    let last = last-seen xs p n i v c.self.invariant split (omega arith) within shown in
    set-seen xs i v k c.self.invariant (invariant_of-self c) (omega arith) (last ∙ sym there)
    ∙ ap (λ q. cond (q == k) (Some v) (seen_vertical xs k)) there ∙ ap (λ o. cond (p == k) o (seen_vertical xs k)) (sym c.in-Some-vertical.is)
    ∙ ap (λ ys. cond (p == k) c.args.vertical (seen_vertical ys k)) c.self.view_is

-- it was seen, and nothing is now
pub returns-in-None : goal.returns-in-None
returns-in-None c seen k =
    let xs = c.self.inside.list.items in
    let n = c.count_from.result in
    let p = c.args.place in
    let i = c.in-Some.index in
    let v = c.remove.result in
    let split = subst (λ ys. SplitAt p ys n) (sym c.self.view_is) c.count_from.ensures.point in
    let within : n ≤ length xs = rw (c.self.view_is) c.count_from.ensures.within in
    let shown = subst (λ ys. IsSome (seen_vertical ys p)) (sym c.self.view_is) seen in
    let last = last-seen xs p n i v c.self.invariant split (omega arith) within shown in
    ap (λ ys. seen_vertical ys k) c.remove.ensures.items ∙ remove-seen xs i v k c.self.invariant (omega arith)
    ∙ ap (λ q. cond (q == k) None (seen_vertical xs k)) last ∙ ap (λ o. cond (p == k) o (seen_vertical xs k)) (sym c.in-None.is)
    ∙ ap (λ ys. cond (p == k) c.args.vertical (seen_vertical ys k)) c.self.view_is

-- none stands there or behind, so none was seen
pub returns-in_default : goal.returns-in_default
returns-in_default c seen k =
    let none : 1 ≤ c.count_from.result → ⊥ = c.in_default.ensures in
    absurd (not-seen c.args.self.now c.args.place
    (none-before c.args.self.now c.args.place c.count_from.result c.args.place c.count_from.ensures.point (omega arith)
    (λ j d l. absurd (none (omega arith)))) seen)
