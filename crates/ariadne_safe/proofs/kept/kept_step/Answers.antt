use Rattle.std.proofs.Common.{sym, ap, ◌∙◌, subst}
use Rattle.std.specs.Prelude.{chars}
use Rattle.ariadne_base.specs.Lines.{begins_with_line_feed}
use Rattle.ariadne_safe.specs.Visible.{shown_code}
use Rattle.ariadne_safe.specs.Kept.{IsPlainRun, last_kept}
use Rattle.ariadne_safe.proofs.KeptTexts.{kept_none, kept_plain, kept_char, other_char}
use Rattle.ariadne_safe.proofs.kept.kept_step.Goals as goal

-- plain bytes are kept
pub returns-then-plain-gt0-clause-kept : goal.returns-then-plain-gt0-clause-kept
returns-then-plain-gt0-clause-kept c =
    let n = c.plain_bytes-plain.result in
    kept_plain c.args.kind c.args.text.now n c.utf8.text
    (subst (λ first. IsPlainRun first (last_kept c.args.kind) c.args.text.now n) c.layout_of.ensures.first
    (subst (λ last. IsPlainRun c.layout_of.result.first last c.args.text.now n) c.layout_of.ensures.last
    (subst (λ bytes. IsPlainRun c.layout_of.result.first c.layout_of.result.last bytes n) c.as_bytes.ensures.value c.plain_bytes-plain.ensures)))

-- so is a character that is its own sign
pub returns-in-Some-clause-kept : goal.returns-in-Some-clause-kept
returns-in-Some-clause-kept c =
    let sign = c.shown_char.ensures ∙ ap (λ bs. shown_code c.args.kind c.in-Some.c (begins_with_line_feed (chars bs))) c.as_str.ensures in
    let cut = sym c.chars-rest.ensures.rest ∙ c.in-Some.ensures.steps.0 in
    rw c.len_utf8.ensures.value
    (kept_char c.args.kind c.args.text.now _ c.in-Some.c c.utf8.text cut (sym sign ∙ c.if-shown_char-c.true))

-- at another the run is over
pub returns-in_default-clause-kept : goal.returns-in_default-clause-kept
returns-in_default-clause-kept c = kept_none c.args.kind c.args.text.now c.utf8.text

pub returns-in_default-clause-end : goal.returns-in_default-clause-end
returns-in_default-clause-end c _ _ =
    let sign = c.shown_char.ensures ∙ ap (λ bs. shown_code c.args.kind c.in-Some.c (begins_with_line_feed (chars bs))) c.as_str.ensures in
    let cut = sym c.chars-rest.ensures.rest ∙ c.in-Some.ensures.steps.0 in
    other_char c.args.kind c.args.text.now _ c.in-Some.c c.utf8.text cut (λ own. c.if-shown_char-c.false (sign ∙ own))

-- and at the end
pub returns-in_default-2-clause-kept : goal.returns-in_default-2-clause-kept
returns-in_default-2-clause-kept c = kept_none c.args.kind c.args.text.now c.utf8.text
