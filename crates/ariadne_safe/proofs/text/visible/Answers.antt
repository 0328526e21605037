use Rattle.std.proofs.Common.{◌≡◌, ◌-◌, take, sym, ap, ◌∙◌, arith, string_bytes}
use Rattle.std.specs.Str.{chars}
use Rattle.std.specs.Str.Iter.{chars_rest}
use Rattle.std.proofs.lemmas.Str.{IsUtf8-string_bytes}
use Rattle.std.proofs.lemmas.Bool.{eqb-true}
use Rattle.ariadne_base.specs.Lines.{begins_with_line_feed}
use Rattle.ariadne_safe.specs.Visible.{shown_code}
use Rattle.ariadne_safe.proofs.Signs.{IsSigned, signed_next, signed_end, bytes_are_shown}
use Rattle.ariadne_safe.proofs.KeptTexts.{signed_kept}
use Rattle.ariadne_safe.proofs.VisibleLaws.{bytes_count}
use Rattle.ariadne_safe.proofs.text.visible.Goals as goal
use Rattle.ariadne_safe.proofs.text.visible.Goals.{in-Some+in_ok-push, in_default}

-- a run of characters that are kept, and one sign more
pub loop-rest-preserved : goal.loop-rest-preserved
loop-rest-preserved c =
    let rest = c.loop-rest.rest.now in
    let kept = c.kept_run-kept.result in
    let all : kept - 0 ≡ kept = omega arith in
    let front : c.range.result.now ≡ take kept rest = c.range.ensures.value ∙ ap (λ n. take n rest) all in
    let run : IsSigned c.args.kind c.args.text.now (chars_rest c.chars-behind.result) (string_bytes c.push_str.new.self) =
    rw (c.chars-behind.ensures.rest, c.range_from.ensures.value, c.in_ok-push_str.ensures.bytes, front)
    (signed_kept c.args.kind c.args.text.now rest (string_bytes c.loop-rest.shown) kept c.loop-rest.invariant.0 c.kept_run-kept.ensures.kept) in
    elim c.match-next.branch [
      | in-Some+in_ok-push w ↦
          let sign = w.shown_char.ensures ∙ ap (λ bs. shown_code c.args.kind w.in-Some.c (begins_with_line_feed (chars bs))) w.as_str.ensures in (
            rw (w.shown-is, c.as_str-rest.ensures) (signed_next _ _ _ _ _ _ _ _ run w.in-Some.ensures.steps.0 sign w.in_ok-push.ensures.bytes),
            c.as_str-rest.utf8,
          )
      | in_default w ↦ (rw (w.shown-is, c.as_str-rest.ensures, w.in_default.ensures.steps.0.1) run, c.as_str-rest.utf8)
    ]

-- all have been pushed
pub returns-clause-signs : goal.returns-clause-signs
returns-clause-signs c = signed_end _ _ _ _ c.loop-rest.invariant.0 (eqb-true _ 0 (sym c.is_empty.ensures ∙ c.loop-rest-test.false))

-- and hide nothing
pub returns-clause-seen : goal.returns-clause-seen
returns-clause-seen c =
    bytes_are_shown c.args.kind (chars c.args.text.now) (string_bytes c.loop-rest.shown) (IsUtf8-string_bytes c.loop-rest.shown)
    (returns-clause-signs c)

-- and are as many
pub returns-clause-count : goal.returns-clause-count
returns-clause-count c =
    bytes_count c.args.kind (chars c.args.text.now) (string_bytes c.loop-rest.shown) (IsUtf8-string_bytes c.loop-rest.shown)
    (returns-clause-signs c)
