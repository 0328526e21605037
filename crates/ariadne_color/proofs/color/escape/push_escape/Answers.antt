-- A beginning of the numbers stands behind the text that is the colour's own.
use Rattle.std.proofs.Common.{◌++◌, ◌∙◌, ap, sym}
use Rattle.std.proofs.lemmas.Result.{on_err_weaker}
use Rattle.ariadne_color.specs.declared.color.Color.TheVariants.{Fixed, Rgb}
use Rattle.ariadne_color.specs.Escapes.{opening_end}
use Rattle.ariadne_color.proofs.CutShort.{behind}
use Rattle.ariadne_color.proofs.color.escape.push_escape.Goals as goal

pub returns-in-Fixed-clause-err : goal.returns-in-Fixed-clause-err
returns-in-Fixed-clause-err c =
    let head = c.opening_head.result.0.now in
    on_err_weaker c.push_number.result
    (λ short.
    behind _ head (opening_end (Fixed c.in-Fixed.number)) _ _ _ (sym c.opening_head.ensures.front ∙ ap (λ color. head ++ opening_end color) c.in-Fixed.is)
    c.in_ok-push_str.ensures.bytes short)
    c.push_number.ensures.err

pub returns-in-Rgb-clause-err : goal.returns-in-Rgb-clause-err
returns-in-Rgb-clause-err c =
    let head = c.opening_head.result.0.now in
    on_err_weaker c.push_mix.result
    (λ short.
    behind _ head (opening_end (Rgb c.in-Rgb.red c.in-Rgb.green c.in-Rgb.blue)) _ _ _ (sym c.opening_head.ensures.front ∙ ap (λ color. head ++ opening_end color) c.in-Rgb.is)
    c.in_ok-push_str.ensures.bytes short)
    c.push_mix.ensures.err
