-- The labels that touch the line are asked one after another.
use Rattle.std.proofs.Common.{◌∙◌, rules}
use Rattle.std.specs.List.{list_any}
use Rattle.std.proofs.lemmas.Iterator.{YieldsList-from_slice}
use Rattle.std.proofs.lemmas.Iterator.Search.{any_from_yields_List}
use Rattle.ariadne_layout.specs.SnippetLabels.{holds_at}
use Rattle.ariadne_layout.proofs.Insides.{found-touching}
use Rattle.ariadne_layout.proofs.snippet_labels.SnippetLabels.is_inside.Goals as goal

pub returns : goal.returns
returns c =
    let labels = c.multi_line-labels.result.now in
    let o = c.args.offset in
    any_from_yields_List (holds_at labels o) _ _ c.any.result c.any.ensures.ran (YieldsList-from_slice c.touching.result.now cc)
    (λ x b q k. search rules)
    ∙ (λ i. list_any (holds_at (c.multi_line-labels.ensures i) o) (c.touching.ensures i)) ∙ found-touching c.args.self.now.labels c.args.self.now.line o
