-- A vertical takes the place of the one that stands at its place, or comes between those behind it and those in front of it.
use Rattle.std.proofs.Common.{◌≡◌, ℕ, ◌-◌, ◌<◌, ◌≤◌, ◌==◌, ◌∙◌, ap, arith, cond, get_or, length, List, Some, subst, sym}
use Rattle.std.proofs.lemmas.List.{get_or_default}
use Rattle.ariadne_layout.specs.declared.verticals.Vertical.{Vertical}
use Rattle.ariadne_layout.specs.Falling.{AreFalling}
use Rattle.ariadne_layout.specs.Tables.{seen_vertical}
use Rattle.ariadne_layout.proofs.FallingVerticals.{insert-falling, insert-seen, set-falling, set-seen, SplitAt}
use Rattle.ariadne_layout.proofs.verticals.Verticals.show.Goals as goal
use Rattle.ariadne_layout.proofs.verticals.Verticals.show.Goals.{else-count-gt0-via-then-count-gt0+else-index-vertical}
use Rattle.ariadne_layout.proofs.verticals.Verticals.show.Goals.{else-count-gt0-via-else-count-gt0}

-- the place of what is read at an index is the one there, whatever the default
read : (xs : List Vertical) (i : ℕ) (v d : Vertical) → i < length xs → v ≡ get_or xs i v → v.place ≡ (get_or xs i d).place
read xs i v d within e = ap (λ (w : Vertical). w.place) (e ∙ get_or_default xs i v d within)

-- the one that stood at its place gives way
pub invariant_of-self : goal.invariant_of-self
invariant_of-self c =
    let xs = c.self.inside.list.items in
    let n = c.count_from-count.result in
    let v = c.args.vertical in
    let split = subst (λ ys. SplitAt v.place ys n) (sym c.self.view_is) c.count_from-count.ensures.point in
    let within : n ≤ length xs = rw (c.self.view_is) c.count_from-count.ensures.within in
    set-falling xs (n - 1) v c.self.invariant (omega arith) (split.0 (n - 1) v (omega arith) (omega arith))
    (λ k d from below. split.1 k d (omega arith) below)

-- and is all that is no longer seen
pub returns-then-index-vertical : goal.returns-then-index-vertical
returns-then-index-vertical c k =
    let xs = c.self.inside.list.items in
    let n = c.count_from-count.result in
    let v = c.args.vertical in
    let within : n ≤ length xs = rw (c.self.view_is) c.count_from-count.ensures.within in
    let there = sym (read xs (n - 1) c.index.result.now v (omega arith) c.index.ensures) ∙ c.if-index-vertical.true in
    set-seen xs (n - 1) v k c.self.invariant (invariant_of-self c) (omega arith) there
    ∙ ap (λ ys. cond (v.place == k) (Some v) (seen_vertical ys k)) c.self.view_is

-- none stands at its place: the last of those from there on stands behind it, or there is none
pub invariant_of-self-2 : goal.invariant_of-self-2
invariant_of-self-2 c =
    let xs = c.self.inside.list.items in
    let n = c.count_from-count.result in
    let v = c.args.vertical in
    let split = subst (λ ys. SplitAt v.place ys n) (sym c.self.view_is) c.count_from-count.ensures.point in
    let within : n ≤ length xs = rw (c.self.view_is) c.count_from-count.ensures.within in
    let other : (d : Vertical) → 0 < n → (get_or xs (n - 1) d).place ≡ v.place → ⊥ = λ d some e. elim c.else-count-gt0.branch [
      | else-count-gt0-via-then-count-gt0+else-index-vertical w ↦
          w.if-index-vertical.false (read xs (n - 1) w.index.result.now d (omega arith) w.index.ensures ∙ e)
      | else-count-gt0-via-else-count-gt0 w ↦ omega arith
    ] in
    subst AreFalling (sym c.in_ok-insert.ensures.items) (insert-falling xs n v c.self.invariant within split other)

-- so it is all that comes to be seen
pub returns : goal.returns
returns c k =
    let xs = c.self.inside.list.items in
    let n = c.count_from-count.result in
    let v = c.args.vertical in
    ap (λ ys. seen_vertical ys k) c.in_ok-insert.ensures.items
    ∙ insert-seen xs n v k (subst AreFalling c.in_ok-insert.ensures.items (invariant_of-self-2 c))
    ∙ ap (λ ys. cond (v.place == k) (Some v) (seen_vertical ys k)) c.self.view_is
