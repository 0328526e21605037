use Rattle.std.proofs.Common.{◌∙◌, ap, sym, string_bytes, Some}
use Rattle.std.specs.Option.{option_and_then, option_map}
use Rattle.ariadne_matcher_tables.specs.Patterns.{lone_in}
use Rattle.ariadne_matcher_tables.proofs.MemberNames.{lone_first, lone_other}
use Rattle.ariadne_matcher_tables.proofs.patterns.lone_member.Goals as goal

-- there are others, or none
pub returns-then-len-ne1 : goal.returns-then-len-ne1
returns-then-len-ne1 c =
    lone_other c.in_ok-members.members.now.entries (λ e. c.if-len-ne1.true (c.len.ensures.len ∙ e))
    ∙ ap (option_and_then lone_in) c.in_ok-members.ensures

-- it is no text
pub returns-in_err-as_str : goal.returns-in_err-as_str
returns-in_err-as_str c =
    let name = string_bytes c.in_ok-name.name.now in
    rw c.from_residual-in_err-as_str.ensures
    (sym (ap (option_and_then lone_in) (sym c.in_ok-members.ensures)
    ∙ lone_first c.in_ok-members.members.now.entries (c.in_ok-name.name.now, c.in_ok-name.value.now) (sym c.len.ensures.len ∙ c.if-len-ne1.false)
    c.in_ok-name.ensures.first ∙ ap (option_map (λ text. (name, text))) (sym c.in_err-as_str.ensures)))

-- it is one
pub returns : goal.returns
returns c =
    let name = string_bytes c.in_ok-name.name.now in
    ap (λ n. Some (n, c.in_ok-as_str.field-0.now)) c.as_str.ensures.value
    ∙ sym (ap (option_and_then lone_in) (sym c.in_ok-members.ensures)
    ∙ lone_first c.in_ok-members.members.now.entries (c.in_ok-name.name.now, c.in_ok-name.value.now) (sym c.len.ensures.len ∙ c.if-len-ne1.false)
    c.in_ok-name.ensures.first ∙ ap (option_map (λ text. (name, text))) (sym c.in_ok-as_str.ensures))
