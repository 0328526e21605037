use Rattle.std.proofs.Common.{◌≡◌, drop, map, string_bytes}
use Rattle.toml.specs.View.{items_view}
use Rattle.ariadne_matcher_tables.specs.TableMembers.{texts_in}
use Rattle.ariadne_matcher_tables.proofs.Texts.{texts_behind}
use Rattle.ariadne_matcher_tables.proofs.members.copies.Given as goal

-- the texts so far, in front of those that follow
abbrev pub invariant-loop-value : goal.invariant-loop-value
invariant-loop-value l =
    texts_in (items_view l.given) ≡ texts_behind (map string_bytes l.all.items) (texts_in (items_view (drop l.value-index l.given)))
