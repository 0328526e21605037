-- The search goes over the labels from that rank on.
use Rattle.std.proofs.Common.{◌≡◌, ◌∙◌, ap, rules, tests, drop}
use Rattle.std.proofs.lemmas.Iterator.{YieldsList-from_slice}
use Rattle.std.proofs.lemmas.Iterator.Search.{find_from_yields_List}
use Rattle.std.proofs.lemmas.Slice.{between_to_end}
use Rattle.std.specs.Option.{option_map}
use Rattle.ariadne_picture.specs.Strokes.{has_vertical, vertical_at}
use Rattle.ariadne_layout.specs.Tables.{vertical_of}
use Rattle.ariadne_layout.proofs.verticals.vertical_at.Goals as goal

pub returns : goal.returns
unfolding vertical_at
returns c =
    let y = c.args.layout.now in
    let found = find_from_yields_List (has_vertical y.margin c.args.place) _ _ c.find.result c.find.ensures.ran
    (YieldsList-from_slice (drop c.args.rank y.labels) (rw (← c.labels.ensures) (search (rules, between_to_end)))) (λ x b q k. search (rules, tests)) in
    let e : c.map.result ≡ option_map vertical_of (option_map (λ x. x.now) c.find.result) = search rules in
    e ∙ ap (option_map vertical_of) found
