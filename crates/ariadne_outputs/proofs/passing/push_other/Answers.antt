use Rattle.std.proofs.Common.{string_bytes, sym}
use Rattle.ariadne_outputs.proofs.Passed.{charset_added_if, text_added_if}
use Rattle.ariadne_outputs.proofs.passing.push_other.Goals as goal

-- text behind `(B`
pub returns-in-Some : goal.returns-in-Some
returns-in-Some c =
    charset_added_if c.push_visible.result c.args.part.now c.in-Some.behind.now (string_bytes c.args.shown.now)
    (string_bytes c.push_visible.new.shown) c.utf8.part (sym c.in-Some.ensures) c.push_visible.ensures

-- text alone
pub returns-in_ok-push_char-in-None : goal.returns-in_ok-push_char-in-None
returns-in_ok-push_char-in-None c =
    text_added_if c.push_visible-in-None.result c.args.part.now (string_bytes c.args.shown.now) (string_bytes c.push_char.new.shown)
    (string_bytes c.push_visible-in-None.new.shown) c.utf8.part (sym c.in-None.ensures) c.in_ok-push_char-in-None.ensures
    c.push_visible-in-None.ensures
