-- The labels that are held touch the line that was gone to.
use Rattle.std.proofs.Common.{◌+◌, ap, ◌∙◌}
use Rattle.ariadne_layout.specs.LabelLists.{reaching}
use Rattle.ariadne_layout.specs.SnippetLabels.{LabelsFields, touching}
use Rattle.ariadne_layout.proofs.TouchedLines.{reaching-touching}
use Rattle.ariadne_layout.proofs.snippet_labels.SnippetLabels.touching.Goals as goal

pub returns : goal.returns
returns c =
    let l = c.self.inside.line in
    c.deref.ensures.value ∙ c.self.invariant.1.touching ∙ ap (λ longs. reaching longs (l + 1) l) c.self.invariant.0.multi_line
    ∙ reaching-touching c.self.inside.labels.now l ∙ ap (λ (v : LabelsFields). touching v.labels v.line) c.self.view_is
