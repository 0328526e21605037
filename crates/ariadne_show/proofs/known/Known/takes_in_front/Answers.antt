use Rattle.std.proofs.Common.{◌≡◌, ◌∙◌, List, Option, None, Some, ap, refl, subst, sym}
use Rattle.std.specs.Prelude.{Bool}
use Rattle.ariadne_show.specs.WaitingLines.{added_row, IsRoleOf}
use Rattle.ariadne_show.specs.Known.{behind_others}
use Rattle.ariadne_show.specs.declared.front.Role.{Role}
use Rattle.ariadne_show.specs.declared.front.WaitingLine.{WaitingLine}
use Rattle.ariadne_show.proofs.known.Known.takes_in_front.Goals as goal

-- it waits behind the others
pub returns-in_ok-push-in-Some-2 : goal.returns-in_ok-push-in-Some-2
returns-in_ok-push-in-Some-2 c = behind_others (record {
  waiting = c.in_ok-new-in-Some-2.field-0;
  adds_none = subst (λ (front : List WaitingLine). added_row front c.args.line.text.now ≡ None) c.as_slice.ensures.value
      (sym c.in_default.ensures);
  role = subst (λ (b : Bool). IsRoleOf b c.args.line.text.now (Some c.in_ok-new-in-Some-2.field-0.role))
      c.is_waited_for.ensures
      (subst (λ (o : Option Role). IsRoleOf c.is_waited_for.result c.args.line.text.now o)
      (c.in-Some-2.is ∙ ap Some (sym c.in_ok-new-in-Some-2.ensures.role)) c.in_ok-role.ensures);
  bytes = c.in_ok-new-in-Some-2.ensures.lines;
  behind = c.in_ok-push-in-Some-2.ensures.items;
  known = refl;
})
