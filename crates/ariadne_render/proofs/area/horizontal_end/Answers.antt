use Rattle.std.proofs.Common.{sym, ◌∙◌, arith}
use Rattle.std.proofs.lemmas.Bool.{lt-ltb}
use Rattle.ariadne_render.proofs.SeenInks.{crossed_from_start, crossed_to_end}
use Rattle.ariadne_render.proofs.area.horizontal_end.Goals as goal

-- where it starts, up to its own place
pub returns-in-Starts-clause-covered : goal.returns-in-Starts-clause-covered
returns-in-Starts-clause-covered c = λ i k h.
    crossed_from_start c.args.own.now.side c.args.own.now.place k c.min.result c.in-Starts.is (λ low. omega arith) (λ low. omega arith)

-- where it ends, all places
pub returns-in-Inline : goal.returns-in-Inline
returns-in-Inline c = record {
  within = omega arith;
  covered = λ i k h. crossed_to_end c.args.own.now.side c.args.own.now.place k c.in-Inline.is i ∙ sym (lt-ltb k c.args.len h);
}
