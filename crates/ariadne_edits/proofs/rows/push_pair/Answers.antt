use Rattle.ariadne_base.specs.Listing.{listed_lines}
use Rattle.ariadne_edits.proofs.Counterparts.{kept_more}
use Rattle.ariadne_edits.proofs.RowLists.{told_kept}
use Rattle.ariadne_edits.proofs.rows.push_pair.Goals as goal

-- the rows up to a pair, and its own
pub returns-in_ok-push-in-Some-clause-told : goal.returns-in_ok-push-in-Some-clause-told
returns-in_ok-push-in-Some-clause-told c = λ h.
    rw (c.in_ok-push-in-Some.ensures).items
    (told_kept (listed_lines c.args.old.now) (listed_lines c.args.new.now) c.args.pair.0 c.args.pair.1 c.push_run.new.rows.items
    (c.in_ok-push_run-in-Some.ensures.told h) c.in-Some.row c.in-Some.ensures.kept)

pub returns-in_ok-push-in-Some-clause-counterparts : goal.returns-in_ok-push-in-Some-clause-counterparts
returns-in_ok-push-in-Some-clause-counterparts c = λ h.
    rw (c.in_ok-push-in-Some.ensures).items
    (kept_more c.args.told c.args.pair.0 c.args.pair.1 c.push_run.new.rows.items c.in-Some.row
    (c.in_ok-push_run-in-Some.ensures.counterparts (h c.args.pair)) c.in-Some.ensures.is)
