-- The list falls by place, so that those at a place or behind it are the first.
use Rattle.std.proofs.Common.{◌≡◌, ◌∙◌, leb, rules, subst, sym, tests}
use Rattle.std.proofs.lemmas.Bool.{leb-false, leb-true}
use Rattle.std.proofs.lemmas.List.Sorted.{IsPartitionPoint-from_clause}
use Rattle.ariadne_layout.specs.Falling.{AreFalling}
use Rattle.ariadne_layout.proofs.FallingVerticals.{falling-partitioned, SplitAt}
use Rattle.ariadne_layout.proofs.verticals.Verticals.count_from.Goals as goal

pub returns-clause-point : goal.returns-clause-point
returns-clause-point c =
    let p = c.args.place in
    let items : c.deref.result.now ≡ c.args.self.now = c.deref.ensures.value ∙ c.self.view_is in
    let point = IsPartitionPoint-from_clause (λ v. leb p v.place) _ _ c.partition_point.ensures.partitioned
    (falling-partitioned p c.deref.result.now (subst AreFalling (sym c.deref.ensures.value) c.self.invariant)) (λ a r f' k. search (rules, tests)) in
    subst (λ xs. SplitAt p xs c.partition_point.result) items
    (λ k d l h. leb-true p _ (point.0 k d l h), λ k d l h. leb-false p _ (point.1 k d l h))
