use Rattle.std.proofs.Common.{◌∙◌, arith, sym}
use Rattle.ariadne_matchers.proofs.LastLines.{begun_more, kept_more}
use Rattle.ariadne_matchers.proofs.lasts.place_lines.Goals as goal
use Rattle.ariadne_matchers.proofs.lasts.place_lines.Goals.{then-names_place, else-names_place}

-- the place begins at this line, or goes on
pub loop-place-preserved : goal.loop-place-preserved
loop-place-preserved c =
    elim c.if-names_place.branch [
      | then-names_place w ↦ record {
        within = omega arith;
        same = rw w.first-is (begun_more c.args.lines.now c.loop-place.place _ c.loop-place-test.true (sym c.names_place.ensures ∙ w.if-names_place.true));
      }
      | else-names_place w ↦ record {
        within = omega arith;
        same = rw w.first-is (kept_more c.args.lines.now c.loop-place.first c.loop-place.place _ c.loop-place-test.true c.loop-place.invariant.within
            (sym c.names_place.ensures ∙ w.if-names_place.false) c.loop-place.invariant.same);
      }
    ]
