-- The labels that touch the line are those that may colour it.
use Rattle.std.proofs.Common.{◌≡◌, ◌∙◌, ◌+◌, ◌<◌, ap, false, length, subst, sym}
use Rattle.ariadne_picture.specs.Columns.{Layout, shown}
use Rattle.ariadne_picture.specs.Ranks.{multi_line_labels}
use Rattle.ariadne_picture.specs.Strokes.{holds}
use Rattle.ariadne_layout.specs.SnippetLabels.{LabelsFields, touching}
use Rattle.ariadne_layout.specs.Snippets.{sheet_at}
use Rattle.ariadne_render.proofs.LinesHidden.{holders-touch}
use Rattle.ariadne_render.proofs.LinesPaints.{numbers-strict, numbers-within, others-hold-none}
use Rattle.ariadne_render.proofs.lines.find_paints.Given.{Over}
use Rattle.ariadne_render.proofs.lines.find_paints.Goals.{After-touching}
use Rattle.ariadne_render.proofs.lines.find_paints.Goals as goal

-- the labels that were gone through are those of the snippet
own : (g : Over) (c : After-touching g) → c.go_to.new.self.labels ≡ (sheet_at c.args.shown.now).labels
own g c = ap (λ (x : LabelsFields). x.labels) c.in_ok-go_to.ensures.ok ∙ c.requires.labels

-- so those over several lines are
multi : (g : Over) (c : After-touching g) → c.multi_line.result.now ≡ multi_line_labels (sheet_at c.args.shown.now).labels
multi g c = c.multi_line.ensures ∙ ap multi_line_labels (own g c)

-- and the numbers are those of the line
numbers : (g : Over) (c : After-touching g) → c.touching.result.now ≡ touching (sheet_at c.args.shown.now).labels c.args.shown.now.line
numbers g c =
    let line : c.go_to.new.self.line ≡ c.args.shown.now.line = ap (λ (x : LabelsFields). x.line) c.in_ok-go_to.ensures.ok ∙ c.line.ensures in
    c.touching.ensures ∙ (λ i. touching (own g c i) (line i))

-- each is that of a label
pub fill_paints-requires-clause-within : goal.fill_paints-requires-clause-within
fill_paints-requires-clause-within g c =
    let v = c.args.shown.now in
    let b = (goal.at.fill_paints-requires-clause-within g c).After-touching in
    numbers-within (sheet_at v) v.line (holders-touch (sheet_at v) v.line c.layout.ensures.is.over) c.multi_line.result.now c.touching.result.now
    (multi g b) (numbers g b)

-- they rise
pub fill_paints-requires-clause-rising : goal.fill_paints-requires-clause-rising
fill_paints-requires-clause-rising g c =
    let v = c.args.shown.now in
    let b = (goal.at.fill_paints-requires-clause-rising g c).After-touching in
    numbers-strict (sheet_at v) v.line (holders-touch (sheet_at v) v.line c.layout.ensures.is.over) c.multi_line.result.now c.touching.result.now
    (multi g b) (numbers g b)

-- the others hold no shown character
pub fill_paints-requires-clause-touching : goal.fill_paints-requires-clause-touching
fill_paints-requires-clause-touching g c = λ i a there out k less.
    let v = c.args.shown.now in
    let b = (goal.at.fill_paints-requires-clause-touching g c).After-touching in
    let laid = c.layout.ensures.layout in
    let few = subst (λ (y : Layout). k < length (shown y)) laid less in
    subst (λ (y : Layout). holds a (y.offset + k) ≡ false) (sym laid)
    (others-hold-none (sheet_at v) v.line (holders-touch (sheet_at v) v.line c.layout.ensures.is.over) c.multi_line.result.now c.touching.result.now
    (multi g b) (numbers g b) i a there out k few)
