-- Each switch adds its rule.
use Rattle.std.proofs.Common.{refl}
use Rattle.std.proofs.lemmas.Result.{IfOk-weaker}
use Rattle.ariadne_show.proofs.Commands.{with_one}
use Rattle.ariadne_show.proofs.words.with_switches.Goals as goal

pub returns : goal.returns
returns c =
    let one = with_one _ _ _ _ _ c.in_ok-arg.ensures c.switch.ensures refl refl in
    let two = with_one _ _ _ _ _ c.in_ok-arg-2.ensures c.switch-2.ensures refl one in
    let three = with_one _ _ _ _ _ c.in_ok-arg-3.ensures c.switch-3.ensures refl two in
    IfOk-weaker c.arg-4.result _ _ (λ made added. with_one _ made _ _ _ added c.switch-4.ensures refl three) c.arg-4.ensures
