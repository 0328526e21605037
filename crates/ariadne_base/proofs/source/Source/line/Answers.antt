use Rattle.std.proofs.Common.{Some, sym, ap, ◌∙◌, arith}
use Rattle.ariadne_base.specs.Listing.{listed_lines}
use Rattle.ariadne_base.proofs.StartLemmas.{slice_get-table, slice_get-table_past}
use Rattle.ariadne_base.proofs.source.Source.line.Goals as goal

-- there is such a line
pub returns-then-number-number_of_lines : goal.returns-then-number-number_of_lines
returns-then-number-number_of_lines g c =
    ap Some c.line_at.ensures
    ∙ sym (slice_get-table (listed_lines c.args.self.now) c.args.number (omega (arith, c.number_of_lines.ensures)))

-- or there are not so many
pub returns-else-number-number_of_lines : goal.returns-else-number-number_of_lines
returns-else-number-number_of_lines g c =
    sym (slice_get-table_past (listed_lines c.args.self.now) c.args.number (omega (arith, c.number_of_lines.ensures)))
