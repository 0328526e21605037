use Rattle.std.proofs.Common.{◌∙◌, ap, sym, arith, rules}
use Rattle.ariadne_snippets.proofs.Joining.{all_joined, mark_pushed, near_runs, no_mark, none_left, runs_end}
use Rattle.ariadne_snippets.proofs.runs.runs_in.Goals as goal
use Rattle.ariadne_snippets.proofs.runs.runs_in.Goals.{then-is_mark+in_ok-push_mark, else-is_mark}

-- one more is joined with those so far
pub loop-byte-preserved : goal.loop-byte-preserved
loop-byte-preserved c = (
  (let le = c.loop-byte.invariant.0 in let wide = c.columns_of-column.ensures.bound in omega arith),
  elim c.if-is_mark.branch [
    | then-is_mark+in_ok-push_mark w ↦
        let pushed = w.in_ok-push_mark.ensures in
        rw w.runs-is (mark_pushed c.args.unit c.loop-byte.column c.args.row.now c.loop-byte.byte-index c.columns_of-column.result
        c.loop-byte-test.true c.columns_of-column.ensures.width c.loop-byte.runs.items _ c.loop-byte.invariant.1 _ (search rules) (search rules))
    | else-is_mark w ↦
        rw w.runs-is (no_mark c.args.unit c.loop-byte.column c.args.row.now c.loop-byte.byte-index c.columns_of-column.result
        c.loop-byte-test.true c.columns_of-column.ensures.width c.loop-byte.runs.items _ c.loop-byte.invariant.1 (search rules))
  ],
)

-- none is left at the end
pub returns-clause-runs : goal.returns-clause-runs
returns-clause-runs c =
    sym (none_left c.loop-byte.runs.items)
    ∙ ap (λ rest. all_joined c.loop-byte.runs.items rest)
    (sym (runs_end c.args.unit c.loop-byte.column c.args.row.now c.loop-byte.byte-index c.loop-byte-test.false))
    ∙ c.loop-byte.invariant.1

pub returns-clause-near : goal.returns-clause-near
returns-clause-near c = rw (returns-clause-runs c) (near_runs c.args.unit c.args.start c.args.row.now c.requires)
