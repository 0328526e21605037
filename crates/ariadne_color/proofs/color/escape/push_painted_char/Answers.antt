-- What stands before the character follows first, then the character, then what stands behind it.
use Rattle.std.proofs.Common.{◌++◌, encode_utf8, refl}
use Rattle.std.proofs.lemmas.Result.{on_err_weaker}
use Rattle.ariadne_color.specs.Escapes.{closed, opened}
use Rattle.ariadne_color.proofs.CutShort.{behind, of_front, on_err-intro, painted_parts}
use Rattle.ariadne_color.proofs.color.escape.push_painted_char.Goals as goal

pub returns-in_err-push_opening-clause-err : goal.returns-in_err-push_opening-clause-err
returns-in_err-push_opening-clause-err c =
    on_err-intro c.from_residual.result (
    of_front _ _ (encode_utf8 c.args.c ++ closed c.args.color) _ _ (painted_parts c.args.color (encode_utf8 c.args.c)) c.in_err-push_opening.ensures.err)

pub returns-clause-err : goal.returns-clause-err
returns-clause-err c =
    on_err_weaker c.push_closing.result
    (λ short.
    behind _ (opened c.args.color) (encode_utf8 c.args.c ++ closed c.args.color) _ _ _ (painted_parts c.args.color (encode_utf8 c.args.c)) c.in_ok-push_opening.ensures.ok (
    behind _ (encode_utf8 c.args.c) (closed c.args.color) _ _ _ refl c.in_ok-push.ensures.bytes short))
    c.push_closing.ensures.err
