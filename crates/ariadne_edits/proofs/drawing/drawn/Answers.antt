use Rattle.std.proofs.Common.{string_bytes}
use Rattle.std.proofs.lemmas.List.{drop_more}
use Rattle.ariadne_base.specs.Listing.{listed_lines}
use Rattle.ariadne_edits.specs.HelpTexts.{drawn_text}
use Rattle.ariadne_edits.proofs.DrawnRows.{drawn_more, drawn_end}
use Rattle.ariadne_edits.proofs.drawing.drawn.Goals as goal

-- a row is drawn
pub loop-row-preserved : goal.loop-row-preserved
loop-row-preserved c =
    let rows = c.args.rows.now in
    let k = c.loop-row.row-index in
    let old = listed_lines c.args.old.now in
    let new = listed_lines c.args.new.now in
    drawn_more c.args.layout old new rows k c.loop-row.standing.is_first c.loop-row.standing.is_apart (string_bytes c.loop-row.out)
    (drawn_text c.args.layout old new rows) c.loop-row.invariant _ _ _ (string_bytes c.push_drawn.new.out) (drop_more rows k _ c.loop-row-test.true)
    c.behind-standing.ensures.first c.behind-standing.ensures.apart c.in_ok-push_drawn.ensures

-- all are
pub returns : goal.returns
returns c =
    drawn_end c.args.layout (listed_lines c.args.old.now) (listed_lines c.args.new.now) c.args.rows.now c.loop-row.row-index
    c.loop-row.standing.is_first c.loop-row.standing.is_apart (string_bytes c.loop-row.out)
    (drawn_text c.args.layout (listed_lines c.args.old.now) (listed_lines c.args.new.now) c.args.rows.now) c.loop-row.invariant c.loop-row-test.false
