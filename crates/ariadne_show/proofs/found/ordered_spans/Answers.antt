use Rattle.std.proofs.Common.{rules, ℕ}
use Rattle.std.proofs.lemmas.Fn.{always_returns_same}
use Rattle.std.specs.Prelude.{Bool}
use Rattle.ariadne_show.specs.declared.found.FoundSpan.{FoundSpan}
use Rattle.ariadne_show.specs.FoundSpans.{files_of, found_of}
use Rattle.ariadne_show.specs.FoundLabels.{span_key}
use Rattle.ariadne_show.proofs.Ordered.{ordered}
use Rattle.ariadne_show.proofs.found.ordered_spans.Goals as goal

-- the sort's own order
pub returns : goal.returns
returns c =
    let key : FoundSpan → Bool × ℕ × ℕ × ℕ = λ it. span_key c.args.main (found_of it) in
    ordered (files_of c.args.shelf.now) c.args.main c.args.spans.now c.in_ok-found.found.items
    c.sort_by_key.new.self.items c.in_ok-found.ensures c.in_ok-sort_by_key.ensures.permutation
    (c.in_ok-sort_by_key.ensures.sorted key (always_returns_same _ _ _ (λ a r f' k. search rules)))
    (c.in_ok-sort_by_key.ensures.stable key (always_returns_same _ _ _ (λ a r f' k. search rules)))
