use Rattle.std.proofs.Common.{◌≡◌, ◌∙◌, ◌++◌, [], ◌∷◌, ap, sym, refl, rules, true, false, append-nil, string_bytes}
use Rattle.std.specs.Prelude.{encode_utf8}
use Rattle.std.specs.Char.{is_whitespace}
use Rattle.std.specs.Str.{chars}
use Rattle.std.specs.Str.Iter.{chars_rest}
use Rattle.ariadne_edits.specs.SuggestionRows.{seen_of}
use Rattle.ariadne_edits.proofs.Bodies.{seen_more, seen_less}
use Rattle.ariadne_edits.proofs.Pushing.{appended_more, appended_all}
use Rattle.ariadne_edits.proofs.line.seen_text.Goals as goal

-- a character is seen
pub loop-c-preserved-in-Continue-1 : goal.loop-c-preserved-in-Continue-1
loop-c-preserved-in-Continue-1 c =
    let white : is_whitespace c.in-Some.c ≡ false = search rules in
    appended_more seen_of seen_of _ _ _ _ _ (c.in-Some.c ∷ []) c.in-Some.c c.loop-c.invariant c.in-Some.ensures.steps.0 (seen_more c.in-Some.c (chars (chars_rest c.next.new.self)) white)
    (c.in_ok-push.ensures.bytes ∙ ap (λ x. string_bytes c.loop-c.seen ++ x) (sym (append-nil (encode_utf8 c.in-Some.c))))

-- or it is white space
pub loop-c-preserved : goal.loop-c-preserved
loop-c-preserved c =
    let white : is_whitespace c.in-Some.c ≡ true = search rules in
    appended_more seen_of seen_of _ _ _ _ _ [] c.in-Some.c c.loop-c.invariant c.in-Some.ensures.steps.0 (seen_less c.in-Some.c (chars (chars_rest c.next.new.self)) white)
    (sym (append-nil (string_bytes c.loop-c.seen)))

pub returns : goal.returns
returns c = appended_all seen_of _ _ _ c.loop-c.invariant refl c.in_default.ensures.steps.0.0
