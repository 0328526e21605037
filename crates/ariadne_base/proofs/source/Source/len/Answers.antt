use Rattle.std.proofs.Common.{arith}
use Rattle.std.specs.Str.{chars}
use Rattle.ariadne_base.proofs.StartLemmas.{kept_starts, kept_count, kept_end}
use Rattle.ariadne_base.proofs.source.Source.len.Goals as goal

-- there is a start behind the last line
pub index-end-requires : goal.index-end-requires
index-end-requires g c =
    omega (arith, kept_count c.self.view_is c.self.invariant.0, c.self.inside.starts.ok.0, c.number_of_lines.ensures)

-- it is where the text ends
pub returns : goal.returns
returns g c =
    kept_end (chars c.args.self.now.text) _ _ _ (kept_starts c.self.view_is c.self.invariant.0) c.number_of_lines.ensures
    c.index-end.ensures
