use Rattle.std.proofs.Common.{◌∙◌, ◌++◌, ap, append-nil, refl, string_bytes, sym}
use Rattle.std.specs.Prelude.{encode_utf8}
use Rattle.std.specs.Str.Iter.{chars_rest}
use Rattle.ariadne_outputs.specs.Passing.{line_code}
use Rattle.ariadne_outputs.proofs.Pushed.{line_bytes, line_more, pushed_end, pushed_next, pushed_start}
use Rattle.ariadne_outputs.proofs.SeenLines.{seen_bytes}
use Rattle.ariadne_outputs.proofs.passing.push_visible.Goals as goal

-- nothing is hidden in it
pub returns-in_ok-push_str : goal.returns-in_ok-push_str
returns-in_ok-push_str c =
    c.in_ok-push_str.ensures.bytes
    ∙ ap (λ t. string_bytes c.args.shown.now ++ t)
    (sym (seen_bytes c.args.text.now c.utf8.text (sym c.is_seen.ensures ∙ c.if-is_seen.true)))

-- nothing was added yet
pub loop-c-init : goal.loop-c-init
loop-c-init c =
    rw (c.into_iter-c-iterator.ensures.into_iter_gives, c.chars-c-items.ensures.rest)
    (pushed_start line_bytes c.args.text.now (string_bytes c.args.shown.now) c.utf8.text)

-- a character more was
pub loop-c-preserved : goal.loop-c-preserved
loop-c-preserved c =
    pushed_next line_bytes line_bytes c.args.text.now (chars_rest c.loop-c.c-iterator) (chars_rest c.next.new.self)
    (string_bytes c.args.shown.now) (string_bytes c.loop-c.shown) (string_bytes c.push_char.new.shown) c.in-Some.c
    (line_more c.in-Some.c) c.loop-c.invariant c.in-Some.ensures.steps.0
    (c.in_ok-push_char.ensures
    ∙ ap (λ t. string_bytes c.loop-c.shown ++ t) (sym (append-nil (encode_utf8 (line_code c.in-Some.c)))))

-- all were
pub returns-in-None : goal.returns-in-None
returns-in-None c =
    pushed_end line_bytes c.args.text.now (chars_rest c.loop-c.c-iterator) (string_bytes c.args.shown.now)
    (string_bytes c.loop-c.shown) refl c.loop-c.invariant c.in-None.ensures.steps.0.0
