use Rattle.std.proofs.Common.{◌≡◌, ◌∙◌, ap, sym, ◌++◌, append-nil}
use Rattle.ariadne_base.specs.Listing.{listed_lines}
use Rattle.ariadne_base.specs.Locations.{byte_len}
use Rattle.ariadne_base.specs.Table.{location_of}
use Rattle.ariadne_edits.proofs.PairLists.{of_found, pair_here, pair_none}
use Rattle.ariadne_edits.proofs.hints.push_pair.Goals as goal

-- a line begins at the byte
pub returns-in_ok-push : goal.returns-in_ok-push
returns-in_ok-push c =
    let new = listed_lines c.args.new.now in
    let found = of_found c.get_byte_line.result (λ p. p ≡ location_of byte_len new c.args.to) c.unwrap-j.result c.get_byte_line.ensures.location c.unwrap-j.ensures in
    c.in_ok-push.ensures.items
    ∙ ap (λ ps. c.args.pairs.now.items ++ ps)
    (pair_here new c.args.i c.args.to c.unwrap-j.result.0 c.unwrap-j.result.1 c.unwrap-j.result.2 found c.if-column-eq0.true)

-- or none does
pub returns-else-column-eq0 : goal.returns-else-column-eq0
returns-else-column-eq0 c =
    let new = listed_lines c.args.new.now in
    let found = of_found c.get_byte_line.result (λ p. p ≡ location_of byte_len new c.args.to) c.unwrap-j.result c.get_byte_line.ensures.location c.unwrap-j.ensures in
    sym (append-nil c.args.pairs.now.items)
    ∙ ap (λ ps. c.args.pairs.now.items ++ ps)
    (pair_none new c.args.i c.args.to c.unwrap-j.result.0 c.unwrap-j.result.1 c.unwrap-j.result.2 found c.if-column-eq0.false)
