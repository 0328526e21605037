use Rattle.std.proofs.Common.{◌∙◌, ◌++◌, ap, sym}
use Rattle.std.specs.Str.{chars}
use Rattle.std.specs.Prelude.{encode_utf8_all}
use Rattle.std.proofs.lemmas.Str.{chars_from_encodes}
use Rattle.ariadne_edits.specs.Bodies.{body}
use Rattle.ariadne_edits.proofs.cut.body_of.Goals as goal

-- the characters of what is pushed
pub returns : goal.returns
returns c =
    let text = body c.args.tab_width c.args.blanks (chars c.args.line.now) in
    let pushed = c.as_str.ensures.value ∙ c.in_ok-push_body.ensures ∙ ap (λ x. x ++ encode_utf8_all text) c.new-shown.ensures.bytes in
    rw (chars_from_encodes text c.as_str.result.now c.as_str.utf8 (sym pushed)) c.chars_of.ensures
