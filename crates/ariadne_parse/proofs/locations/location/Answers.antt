use Rattle.std.proofs.Common.{◌≡◌, ◌∙◌, ap, List, ℕ}
use Rattle.std.specs.Prelude.{Option, Some, option_and_then, option_map}
use Rattle.ariadne_parse.specs.Heads.{column_in, location_at, location_in}
use Rattle.ariadne_parse.specs.TextPieces.{number_in}
use Rattle.ariadne_parse.proofs.locations.location.Goals as goal

-- both numbers
pub returns : goal.returns
unfolding location_in
returns c =
    let line : Some (c.in_ok-line.line, c.in_ok-line.rest.now) ≡ number_in c.args.text.now = c.in_ok-line.ensures in
    let column : Some (c.in_ok-column.column, c.in_ok-column.rest.now) ≡ column_in c.in_ok-line.rest.now = c.in_ok-column.ensures in
    ap (λ (o : Option (ℕ × List ℕ)). option_map (λ (x : ℕ × List ℕ). (location_at c.in_ok-line.line x.0, x.1)) o) column
    ∙ ap (λ (o : Option (ℕ × List ℕ)). option_and_then
    (λ (l : ℕ × List ℕ). option_map (λ (x : ℕ × List ℕ). (location_at l.0 x.0, x.1)) (column_in l.1)) o) line
