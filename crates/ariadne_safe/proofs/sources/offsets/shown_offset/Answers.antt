-- A character is passed, or the offset stands before it or inside it; behind the last one it is as far past.
use Rattle.std.proofs.Common.{ap, ◌∙◌, arith, length, length-append}
use Rattle.std.specs.Str.{chars}
use Rattle.std.proofs.lemmas.Str.{length-encode}
use Rattle.ariadne.specs.Lines.{begins_with_line_feed}
use Rattle.ariadne_safe.specs.Visible.{shown_code}
use Rattle.ariadne_safe.proofs.Offsets.{found_first, found_next, found_inside, found_past}
use Rattle.ariadne_safe.proofs.sources.offsets.shown_offset.Goals as goal

-- nothing is passed yet
pub loop-c-init : goal.loop-c-init
loop-c-init c = rw c.chars-rest.ensures.rest (found_first _ _ _ c.utf8.given)

pub loop-c-preserved : goal.loop-c-preserved
loop-c-preserved c =
    found_next _ _ _ _ _ _ _ _ c.loop-c.invariant c.in-Some.ensures.steps.0 _ _ _ _ c.len_utf8-width.ensures.value c.if-left-width.false
    (c.shown_char-sign.ensures ∙ ap (λ bs. shown_code c.args.kind c.in-Some.c (begins_with_line_feed (chars bs))) c.as_str.ensures)
    c.len_utf8-sign_width.ensures.value c.saturating_add-shown.ensures

-- each turn takes the bytes of a character, at least one, from the rest
pub loop-c-smaller : goal.loop-c-smaller
loop-c-smaller c =
    omega (
      arith,
      simp length-append at (ap length c.in-Some.ensures.steps.0),
      length-encode c.in-Some.c,
      c.len_utf8-width.ensures.value,
      c.len_utf8-width.ensures.lower_bound,
    )

pub returns-then-left-width : goal.returns-then-left-width
returns-then-left-width c =
    c.saturating_add.ensures
    ∙ found_inside _ _ _ _ _ _ _ _ c.loop-c.invariant c.in-Some.ensures.steps.0 _ c.min-inside.result c.len_utf8-width.ensures.value
    c.if-left-width.true c.min-inside.ensures

pub returns : goal.returns
returns c =
    c.saturating_add-2.ensures
    ∙ found_past _ _ _ _ _ _ c.min-past.result c.loop-c.invariant c.in_default.ensures.steps.0.0 c.min-past.ensures
