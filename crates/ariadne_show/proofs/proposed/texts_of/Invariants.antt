use Rattle.std.specs.Prelude.{take, string_bytes, Some}
use Rattle.std.specs.List.{AllZip}
use Rattle.ariadne_show.specs.DrawnProposals.{IsWayDrawn}
use Rattle.ariadne_show.proofs.proposed.texts_of.Given as goal

-- the ways that are passed have their texts
abbrev pub invariant-loop-way : goal.invariant-loop-way
invariant-loop-way l =
    AllZip (λ way text. IsWayDrawn l.room l.held l.source l.proposal way.items (Some (string_bytes text)))
    (take l.way-index l.way-items) l.texts.items
