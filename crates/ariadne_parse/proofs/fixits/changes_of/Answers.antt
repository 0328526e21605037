-- A fix-it may add a change to those so far.
use Rattle.std.proofs.Common.{◌≡◌, ◌∙◌, ◌++◌, ap, refl, sym, append-nil}
use Rattle.std.specs.Option.{option_to_list}
use Rattle.serde_json.specs.View.{items_view, view}
use Rattle.ariadne_parse.specs.Proposed.{changes_by, filed, gcc_change}
use Rattle.ariadne_parse.proofs.Loops.{all_made, one_perhaps}
use Rattle.ariadne_parse.proofs.fixits.changes_of.Goals as goal
use Rattle.ariadne_parse.proofs.fixits.changes_of.Goals.{in-Some+in_ok-push, in_default}

pub loop-fixit-preserved : goal.loop-fixit-preserved
loop-fixit-preserved c =
    let items = c.loop-fixit.changes.items in
    let grown : c.match-change_of.changes.items ≡ items ++ option_to_list c.change_of.result =
    elim c.match-change_of.branch [
      | in-Some+in_ok-push w ↦
          ap (λ v. v.items) w.changes-is ∙ w.in_ok-push.ensures.items ∙ ap (λ o. items ++ option_to_list o) (sym w.in-Some.is)
      | in_default w ↦
          ap (λ v. v.items) w.changes-is ∙ sym (append-nil items) ∙ ap (λ o. items ++ option_to_list o) (sym w.in_default.is)
    ] in
    one_perhaps (λ l. changes_by gcc_change (items_view l)) (λ l. changes_by gcc_change (items_view l)) filed c.args.fixits.now
    c.loop-fixit.fixit-index c.fixit-item.result items c.match-change_of.changes.items c.change_of.result
    (gcc_change (view c.fixit-item.result)) _ c.loop-fixit-test.true c.fixit-item.is refl c.change_of.ensures grown
    c.loop-fixit.invariant

pub returns : goal.returns
returns c =
    all_made (λ l. changes_by gcc_change (items_view l)) c.args.fixits.now c.loop-fixit.fixit-index _ _ c.loop-fixit-test.false
    refl c.loop-fixit.invariant
