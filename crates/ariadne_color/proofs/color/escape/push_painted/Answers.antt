-- What stands before the text follows first, then the text, then what stands behind it.
use Rattle.std.proofs.Common.{◌++◌, refl}
use Rattle.std.proofs.lemmas.Result.{on_err_weaker}
use Rattle.ariadne_color.specs.Escapes.{closed, opened}
use Rattle.ariadne_color.proofs.CutShort.{behind, of_front, on_err-intro, painted_parts}
use Rattle.ariadne_color.proofs.color.escape.push_painted.Goals as goal

pub returns-in_err-push_opening-clause-err : goal.returns-in_err-push_opening-clause-err
returns-in_err-push_opening-clause-err c =
    on_err-intro c.from_residual.result (
    of_front _ _ (c.args.text.now ++ closed c.args.color) _ _ (painted_parts c.args.color c.args.text.now) c.in_err-push_opening.ensures.err)

pub returns-clause-err : goal.returns-clause-err
returns-clause-err c =
    on_err_weaker c.push_closing.result
    (λ short.
    behind _ (opened c.args.color) (c.args.text.now ++ closed c.args.color) _ _ _ (painted_parts c.args.color c.args.text.now) c.in_ok-push_opening.ensures.ok (
    behind _ c.args.text.now (closed c.args.color) _ _ _ refl c.in_ok-push_str.ensures.bytes short))
    c.push_closing.ensures.err
