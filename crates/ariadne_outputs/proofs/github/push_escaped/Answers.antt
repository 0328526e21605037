use Rattle.std.proofs.Common.{◌∙◌, ◌++◌, ap, append-nil, refl, string_bytes, sym}
use Rattle.std.specs.Prelude.{encode_utf8_all}
use Rattle.std.specs.Str.Iter.{chars_rest}
use Rattle.ariadne_outputs.specs.Github.{escaped, escaped_code}
use Rattle.ariadne_outputs.proofs.Pushed.{command_bytes, command_more, pushed_end, pushed_next, pushed_start}
use Rattle.ariadne_outputs.proofs.github.push_escaped.Goals as goal

-- nothing was added yet
pub loop-c-init : goal.loop-c-init
loop-c-init c =
    rw (c.into_iter-c-iterator.ensures.into_iter_gives, c.chars-c-items.ensures.rest)
    (pushed_start (command_bytes c.args.role) c.args.value.now (string_bytes c.args.text.now) c.utf8.value)

-- a character more was
pub loop-c-preserved : goal.loop-c-preserved
loop-c-preserved c =
    pushed_next (command_bytes c.args.role) (command_bytes c.args.role) c.args.value.now (chars_rest c.loop-c.c-iterator)
    (chars_rest c.next.new.self) (string_bytes c.args.text.now) (string_bytes c.loop-c.text)
    (string_bytes c.push_escape.new.text) c.in-Some.c (command_more c.args.role c.in-Some.c) c.loop-c.invariant
    c.in-Some.ensures.steps.0
    (c.in_ok-push_escape.ensures
    ∙ ap (λ t. string_bytes c.loop-c.text ++ encode_utf8_all t) (sym (append-nil (escaped_code c.args.role c.in-Some.c))))

-- all were
pub returns : goal.returns
unfolding escaped
returns c =
    pushed_end (command_bytes c.args.role) c.args.value.now (chars_rest c.loop-c.c-iterator) (string_bytes c.args.text.now)
    (string_bytes c.loop-c.text) refl c.loop-c.invariant c.in-None.ensures.steps.0.0
