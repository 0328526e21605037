-- A fix may add a change to those so far.
use Rattle.std.proofs.Common.{◌≡◌, ◌∙◌, ◌++◌, ap, refl, sym, append-nil}
use Rattle.std.specs.Prelude.{string_bytes}
use Rattle.std.specs.Option.{option_to_list}
use Rattle.serde_json.specs.View.{items_view, view}
use Rattle.ariadne_parse.specs.GccFixes.{change_of, changes_of}
use Rattle.ariadne_parse.proofs.Loops.{all_made, one_perhaps}
use Rattle.ariadne_parse.proofs.gcc.changes_in.Goals as goal
use Rattle.ariadne_parse.proofs.gcc.changes_in.Goals.{in-Some+in_ok-push, in_default}

pub loop-fix-preserved : goal.loop-fix-preserved
loop-fix-preserved c =
    let items = c.loop-fix.changes.items in
    let grown : c.match-branch-2.changes.items ≡ items ++ option_to_list c.in_ok-change.field-0 =
    elim c.match-branch-2.branch [
      | in-Some+in_ok-push w ↦
          ap (λ v. v.items) w.changes-is ∙ w.in_ok-push.ensures.items ∙ ap (λ o. items ++ option_to_list o) (sym w.in-Some.is)
      | in_default w ↦
          ap (λ v. v.items) w.changes-is ∙ sym (append-nil items) ∙ ap (λ o. items ++ option_to_list o) (sym w.in_default.is)
    ] in
    one_perhaps (λ l. changes_of (items_view l)) (λ l. changes_of (items_view l)) string_bytes c.args.all.now c.loop-fix.fix-index
    c.fix-item.result items c.match-branch-2.changes.items c.in_ok-change.field-0 (change_of (view c.fix-item.result)) _
    c.loop-fix-test.true c.fix-item.is refl c.in_ok-change.ensures grown c.loop-fix.invariant

pub returns : goal.returns
returns c =
    all_made (λ l. changes_of (items_view l)) c.args.all.now c.loop-fix.fix-index _ _ c.loop-fix-test.false refl
    c.loop-fix.invariant
