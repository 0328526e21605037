-- Each of them adds its rule.
use Rattle.std.proofs.Common.{refl}
use Rattle.std.proofs.lemmas.Result.{IfOk-weaker}
use Rattle.ariadne_show.proofs.Commands.{with_one}
use Rattle.ariadne_show.proofs.words.with_others.Goals as goal

pub returns : goal.returns
returns c =
    let one = with_one _ _ _ _ _ c.in_ok-arg.ensures c.number.ensures refl refl in
    let two = with_one _ _ _ _ _ c.in_ok-arg-2.ensures c.number-2.ensures refl one in
    let three = with_one _ _ _ _ _ c.in_ok-arg-3.ensures c.text.ensures refl two in
    let four = with_one _ _ _ _ _ c.in_ok-arg-4.ensures c.text-2.ensures refl three in
    let five = with_one _ _ _ _ _ c.in_ok-arg-5.ensures c.text-3.ensures refl four in
    let six = with_one _ _ _ _ _ c.in_ok-arg-6.ensures c.text-4.ensures refl five in
    IfOk-weaker c.arg-7.result _ _ (λ made added. with_one _ made _ _ _ added c.inputs.ensures refl six) c.arg-7.ensures
