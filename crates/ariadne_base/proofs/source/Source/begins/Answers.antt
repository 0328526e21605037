use Rattle.std.proofs.Common.{◌≤◌, length, take, ap, ◌∙◌, arith}
use Rattle.std.proofs.lemmas.List.{length-take-le}
use Rattle.ariadne_base.specs.Listing.{listed_lines}
use Rattle.ariadne_base.proofs.StartLemmas.{kept_starts, kept_count, take-starts}
use Rattle.ariadne_base.proofs.source.Source.begins.Goals as goal

-- there is a start for each line
pub slice_bounds-result-end : goal.slice_bounds-result-end
slice_bounds-result-end g c =
    let starts = c.deref.result.now in
    let few : c.number_of_lines.result ≤ length starts = omega
    (arith, kept_count c.self.view_is c.self.invariant.0, ap length c.deref.ensures.value, c.number_of_lines.ensures) in
    omega (arith, length-take-le c.number_of_lines.result starts few)

-- all starts but the last are those of lines
pub returns : goal.returns
returns g c =
    ap (take c.number_of_lines.result) (c.deref.ensures.value ∙ kept_starts c.self.view_is c.self.invariant.0)
    ∙ take-starts (listed_lines c.args.self.now) c.number_of_lines.result c.number_of_lines.ensures
