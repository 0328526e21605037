use Rattle.std.proofs.Common.{◌≡◌, ◌∙◌, ap, List, ℕ}
use Rattle.std.specs.Prelude.{Option, Some, option_and_then, option_map}
use Rattle.ariadne_parse.specs.Heads.{end_on_line, location_at}
use Rattle.ariadne_parse.specs.TextPieces.{behind, number_in}
use Rattle.ariadne_parse.proofs.locations.end_on_line.Goals as goal

-- the number behind the sign
pub returns : goal.returns
unfolding end_on_line
returns c =
    let sign : Some c.in_ok-behind.field-0.now ≡ behind 45 c.args.text.now = c.in_ok-behind.ensures in
    let column : Some (c.in_ok-column.column, c.in_ok-column.rest.now) ≡ number_in c.in_ok-behind.field-0.now = c.in_ok-column.ensures in
    ap (λ (o : Option (ℕ × List ℕ)). option_map (λ (x : ℕ × List ℕ). (location_at c.args.line x.0, x.1)) o)
    (column ∙ ap (λ (o : Option (List ℕ)). option_and_then number_in o) sign)
