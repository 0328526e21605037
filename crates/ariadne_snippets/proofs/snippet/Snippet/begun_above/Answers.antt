use Rattle.ariadne_snippets.proofs.Begun.{begun_marks}
use Rattle.ariadne_snippets.proofs.snippet.Snippet.begun_above.Goals as goal
use Rattle.ariadne_snippets.proofs.snippet.Snippet.begun_above.Goals.{in-Some, in_default}

-- one more mark may begin further up
pub loop-place-preserved : goal.loop-place-preserved
loop-place-preserved c = (
  c.loop-place.invariant.0,
  λ quoted row is.
      let so_far = c.loop-place.invariant.1 quoted row is in
      elim c.match-pop.branch [
        | in-Some w ↦ rw w.marks-is (begun_marks quoted row _ _ (w.begun_at-marks.ensures).marks (w.begun_at-marks.ensures).cover so_far)
        | in_default w ↦ rw w.marks-is so_far
      ],
)
