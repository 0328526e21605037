use Rattle.std.proofs.Common.{◌∙◌, subst}
use Rattle.ariadne_base.specs.Listing.{listed_lines}
use Rattle.ariadne_edits.specs.SuggestionRows.{AreMarked}
use Rattle.ariadne_edits.proofs.Counterparts.{removed_more}
use Rattle.ariadne_edits.proofs.KeptRows.{keeps_more}
use Rattle.ariadne_edits.proofs.RowLists.{told_removed}
use Rattle.ariadne_edits.proofs.rows.push_removed.Goals as goal

-- one line more is removed
pub loop-i-preserved : goal.loop-i-preserved
loop-i-preserved c =
    let old = listed_lines c.args.old.now in
    let new = listed_lines c.args.new.now in
    let marked = subst (λ l. AreMarked c.in_ok-look.look.blanks l new) c.text_of.ensures c.in_ok-look.ensures.marked in
    rw (c.in_ok-push.ensures).items (
      λ h. told_removed old new c.loop-i.i c.args.run.new_from c.loop-i.rows.items (c.loop-i.invariant.0 h) c.in_ok-look.look marked,
      λ k h. keeps_more c.loop-i.rows.items _ k (c.loop-i.invariant.1 k h),
      λ h. removed_more (c.args.run.old_from, c.args.run.new_from) (c.args.run.old_to, c.args.run.new_to) c.loop-i.rows.items (c.loop-i.invariant.2 h) c.loop-i.i c.in_ok-look.look
          (c.in_ok-look.ensures.counterpart ∙ c.counterpart_of-counterpart.ensures.is),
    )
