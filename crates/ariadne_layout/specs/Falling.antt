-- Verticals that are held by falling place: each stands at a lower place than all before it.
use Rattle.std.specs.Prelude.{◌<◌, List, [], ◌∷◌}
use Rattle.std.specs.List.{AllByRecursion}
use Rattle.ariadne_layout.specs.declared.verticals.Vertical.{Vertical}

-- the verticals fall by place, and no two stand at one
abbrev pub AreFalling : List Vertical → Type 0
AreFalling [] = Unit {0}
AreFalling (v ∷ verticals) =
    AllByRecursion (λ w. w.place < v.place) verticals × AreFalling verticals
