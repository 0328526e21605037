use Rattle.std.proofs.Common.{◌≡◌, ◌+◌, rules}
use Rattle.std.specs.Str.{chars}
use Rattle.std.specs.Str.Iter.{chars_rest}
use Rattle.ariadne_edits.specs.Bodies.{columns_at, shown_at, spread}
use Rattle.ariadne_edits.proofs.Bodies.{spread_more, spread_none}
use Rattle.ariadne_edits.proofs.Pushing.{appended_more, appended_all}
use Rattle.ariadne_edits.proofs.body.push_spread.Goals as goal

-- one character more
pub loop-c-preserved : goal.loop-c-preserved
loop-c-preserved c =
    let tab = c.args.tab_width in
    let column = c.loop-c.column in
    let next : c.in_ok-column.column ≡ column + columns_at tab column c.in-Some.c = search rules in
    appended_more (spread tab column) (spread tab c.in_ok-column.column) _ _ _ _ _ (shown_at tab column c.in-Some.c) c.in-Some.c
    c.loop-c.invariant c.in-Some.ensures.steps.0 (spread_more tab column c.in_ok-column.column c.in-Some.c (chars (chars_rest c.next.new.self)) next) c.in_ok-columns.ensures.bytes

pub returns : goal.returns
returns c =
    appended_all (spread c.args.tab_width c.loop-c.column) _ _ _ c.loop-c.invariant (spread_none c.args.tab_width c.loop-c.column) c.in_default.ensures.steps.0.0
