use Rattle.std.specs.Prelude.{string_bytes}
use Rattle.ariadne_show.proofs.InRows.{wrapped_kept}
use Rattle.ariadne_show.proofs.wrapping.wrapped.Goals as goal

-- blanks alone are left out
pub returns : goal.returns
returns c = record {
  rows = c.in_ok-rows.ensures;
  kept = wrapped_kept c.args.columns c.args.text.now (string_bytes c.in_ok-rows.rows) c.in_ok-rows.ensures;
}
