use Rattle.std.proofs.Common.{◌≡◌, ◌∙◌, ap, arith, refl, map, take}
use Rattle.std.proofs.lemmas.List.{take_all}
use Rattle.ariadne_picture.specs.Columns.{Layout, places_to_end}
use Rattle.ariadne_picture.specs.Groups.{greatest}
use Rattle.ariadne_layout.proofs.Layouts.{greatest_end_more}
use Rattle.ariadne_layout.proofs.layout.LineLayout.greatest_end.Goals as goal

-- of no labels it is 0
pub loop-label-init : goal.loop-label-init
unfolding greatest
loop-label-init c = refl

-- a turn looks at one label more
pub loop-label-preserved : goal.loop-label-preserved
loop-label-preserved c =
    let start : c.self.inside.offset ≡ c.args.self.now.offset = ap (λ (t : Layout). t.offset) c.self.view_is in
    c.max-greatest.ensures
    ∙ greatest_end_more c.args.self.now c.self.inside.labels.now c.loop-label.label-index _ c.loop-label.greatest c.saturating_sub.result
    c.self.inside.offset (omega arith) start c.loop-label.invariant c.saturating_sub.ensures

-- the last turn has looked at all labels
pub returns : goal.returns
returns c =
    let y = c.args.self.now in
    let items : c.self.inside.labels.now ≡ y.labels = ap (λ (t : Layout). t.labels) c.self.view_is in
    let all : take c.loop-label.label-index c.self.inside.labels.now ≡ y.labels = take_all _ _ (omega arith) ∙ items in
    c.loop-label.invariant ∙ ap (λ t. greatest (map (places_to_end y) t)) all
