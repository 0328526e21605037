use Rattle.std.proofs.Common.{◌∙◌}
use Rattle.ariadne_layout.proofs.ColumnLists.{run-more}
use Rattle.ariadne_layout.proofs.line_columns.push_behind.Goals as goal

-- a turn pushes the column behind the last
pub loop-place-preserved : goal.loop-place-preserved
loop-place-preserved c =
    (c.in_ok-push.ensures).items
    ∙ run-more c.args.list.now.items c.loop-place.list.items c.args.column c.len-first.result c.loop-place.place c.loop-place.auto.place c.loop-place.invariant
