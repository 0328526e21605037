use Rattle.std.proofs.Common.{◌≡◌, ◌∙◌, ℕ, List, ap, subst, sym}
use Rattle.std.specs.Prelude.{string_bytes, None, Some}
use Rattle.ariadne_edits.specs.declared.edit.Edit.{Edit}
use Rattle.ariadne_show.specs.DrawnProposals.{are_shown, not_shown, not_there, refused, shown, way_text, AreRows, IsWayDrawn}
use Rattle.ariadne_show.proofs.proposed.text_of.Goals as goal

-- the file doesn't have its changes
pub returns-in_default : goal.returns-in_default
returns-in_default c = not_there (rw c.in_default.is at c.in_ok-edits.ensures)

-- their edits are refused
pub returns-in_default-2 : goal.returns-in_default-2
returns-in_default-2 c =
    refused c.in-Some.edits.items (rw c.in-Some.is at c.in_ok-edits.ensures)
    (subst (λ (l : List Edit). AreRows c.args.room c.args.source.now l None) c.as_slice.ensures.value
    (rw c.in_default-2.is at c.in_ok-rows.ensures))

-- their rows can't be shown
pub returns-then-not-branch : goal.returns-then-not-branch
returns-then-not-branch c =
    not_shown c.in-Some.edits.items (string_bytes c.in-Some-2.rows) (rw c.in-Some.is at c.in_ok-edits.ensures)
    (subst (λ (l : List Edit). AreRows c.args.room c.args.source.now l (Some (string_bytes c.in-Some-2.rows))) c.as_slice.ensures.value
    (rw c.in-Some-2.is at c.in_ok-rows.ensures))
    (ap (are_shown c.args.room.columns) (sym c.as_str.ensures.value) ∙ sym c.in_ok-are_shown.ensures ∙ c.if-not-branch.true)

-- they can
pub returns : goal.returns
returns c =
    let why = string_bytes c.args.proposal.now.why in
    let rows = string_bytes c.in-Some-2.rows in
    let text : string_bytes c.in_ok-way_text.field-0 ≡ way_text c.args.room.columns why rows =
    c.in_ok-way_text.ensures ∙ ap (λ (l : List ℕ). way_text c.args.room.columns l c.as_str-3.result.now) c.as_str-2.ensures.value
    ∙ ap (way_text c.args.room.columns why) c.as_str-3.ensures.value in
    subst (λ (l : List ℕ). IsWayDrawn c.args.room c.args.held.now c.args.source.now c.args.proposal.now c.args.changes.now (Some l))
    (sym text) (shown c.in-Some.edits.items rows (rw c.in-Some.is at c.in_ok-edits.ensures)
    (subst (λ (l : List Edit). AreRows c.args.room c.args.source.now l (Some rows)) c.as_slice.ensures.value
    (rw c.in-Some-2.is at c.in_ok-rows.ensures))
    (ap (are_shown c.args.room.columns) (sym c.as_str.ensures.value) ∙ sym c.in_ok-are_shown.ensures ∙ c.if-not-branch.false))
