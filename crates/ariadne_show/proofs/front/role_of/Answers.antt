use Rattle.std.proofs.Common.{◌≡◌, ◌∙◌, Option, Some, None, refl, rules, sym}
use Rattle.std.specs.Prelude.{option_map}
use Rattle.ariadne_parse.specs.Arrows.{bare_head_in}
use Rattle.ariadne_parse.specs.ArrowsParsed.{bare_of, bare_parsed}
use Rattle.ariadne_parse.specs.FrontsParsed.{front_parsed}
use Rattle.ariadne_show.specs.WaitingLines.{has_no_role, is_bare_head, tells_span, tells_scope}
use Rattle.ariadne_show.proofs.front.role_of.Goals as goal

-- what is read of nothing is nothing
none_of : {A B : Type 0} (f : A → B) (o : Option A) → option_map f o ≡ None → o ≡ None
none_of f None e = refl
none_of f (Some x) e = cc

-- it tells a span
pub returns-in-Some : goal.returns-in-Some
returns-in-Some c = tells_span (front_parsed c.in-Some.front) c.in_ok-span.field-0 (sym c.in-Some.ensures) c.in_ok-span.ensures

-- it is a head
pub returns-in-Some-bare_head_of : goal.returns-in-Some-bare_head_of
returns-in-Some-bare_head_of c =
    is_bare_head (bare_parsed c.in-Some-bare_head_of.head) (record { parsed = c.in_ok-parsed.parsed; margin = c.saturating_sub-margin.result })
    (sym c.in_default.ensures) (sym c.in-Some-bare_head_of.ensures) c.in_ok-parsed.ensures
    (search rules)

-- it says what the tool was in
pub returns-then-tells_scope : goal.returns-then-tells_scope
returns-then-tells_scope c =
    tells_scope (sym c.in_default.ensures)
    (none_of bare_of (bare_head_in c.args.text.now) (sym c.in_default-bare_head_of.ensures))
    (sym c.tells_scope.ensures ∙ c.if-tells_scope.true)

-- it is none of these
pub returns : goal.returns
returns c =
    has_no_role (sym c.in_default.ensures)
    (none_of bare_of (bare_head_in c.args.text.now) (sym c.in_default-bare_head_of.ensures))
    (sym c.tells_scope.ensures ∙ c.if-tells_scope.false)
