use Rattle.std.proofs.Common.{length, subst, sym, ap, ◌∙◌}
use Rattle.ariadne_base.specs.Listing.{listed_lines}
use Rattle.ariadne_base.specs.Starts.{extents, Rise}
use Rattle.ariadne_base.proofs.LineLaws.{are_lines, only_lines}
use Rattle.ariadne_base.proofs.StartLemmas.{kept_starts, extents-starts, rise-starts}
use Rattle.ariadne_base.proofs.TableLemmas.{length-line_table}
use Rattle.ariadne_base.proofs.source.Source.lines.Goals as goal

-- the starts rise
pub invariant_of-result : goal.invariant_of-result
invariant_of-result g c =
    subst Rise (sym (c.deref.ensures.value ∙ kept_starts c.self.view_is c.self.invariant.0)) (rise-starts (listed_lines c.args.self.now))

-- the lines between them are the table
pub returns-clause-table : goal.returns-clause-table
returns-clause-table g c =
    ap extents (c.deref.ensures.value ∙ kept_starts c.self.view_is c.self.invariant.0) ∙ extents-starts (listed_lines c.args.self.now)

-- which has a row for each line
pub returns-clause-number : goal.returns-clause-number
returns-clause-number g c = ap length (returns-clause-table g c) ∙ length-line_table (listed_lines c.args.self.now)

-- the lines of a text are lines of it
pub returns-clause-partition : goal.returns-clause-partition
returns-clause-partition g c = are_lines _

-- and nothing else is
pub returns-clause-only : goal.returns-clause-only
returns-clause-only g c = λ ls h. only_lines _ ls h
