use Rattle.std.proofs.Common.{◌∙◌, subst}
use Rattle.ariadne_base.specs.Listing.{listed_lines}
use Rattle.ariadne_edits.specs.SuggestionRows.{AreMarked}
use Rattle.ariadne_edits.proofs.Counterparts.{added_more}
use Rattle.ariadne_edits.proofs.KeptRows.{keeps_more}
use Rattle.ariadne_edits.proofs.RowLists.{told_added}
use Rattle.ariadne_edits.proofs.rows.push_added.Goals as goal

-- one line more is new
pub loop-j-preserved : goal.loop-j-preserved
loop-j-preserved c =
    let old = listed_lines c.args.old.now in
    let new = listed_lines c.args.new.now in
    let marked = subst (λ l. AreMarked c.in_ok-look.look.blanks l old) c.text_of.ensures c.in_ok-look.ensures.marked in
    rw (c.in_ok-push.ensures).items (
      λ h. told_added old new c.args.run.old_to c.loop-j.j c.loop-j.rows.items (c.loop-j.invariant.0 h) c.in_ok-look.look marked,
      λ k h. keeps_more c.loop-j.rows.items _ k (c.loop-j.invariant.1 k h),
      λ h. added_more (c.args.run.old_from, c.args.run.new_from) (c.args.run.old_to, c.args.run.new_to) c.loop-j.rows.items (c.loop-j.invariant.2 h) c.loop-j.j c.in_ok-look.look
          (c.in_ok-look.ensures.counterpart ∙ c.counterpart_of-counterpart.ensures.is),
    )
