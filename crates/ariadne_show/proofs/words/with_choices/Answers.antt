use Rattle.std.proofs.Common.{rules, refl, ◌∙◌}
use Rattle.std.proofs.lemmas.Result.{IfOk-weaker}
use Rattle.ariadne_show.specs.CommandWords.{AreNames, Names}
use Rattle.ariadne_show.proofs.Commands.{with_one}
use Rattle.ariadne_show.proofs.words.with_choices.Goals as goal

pub returns : goal.returns
returns c =
    let a = c.choice.ensures in
    let b = c.choice-2.ensures in
    let d = c.choice-3.ensures in
    let e = c.choice-4.ensures in
    let f = c.choice-5.ensures in
    let g = c.choice-6.ensures in
    let h = c.choice-7.ensures in
    let names : Names = record {
      formats = a.0;
      units = b.0;
      first_columns = d.0;
      colors = e.0;
      outputs = f.0;
      severities = g.0;
      fails = h.0;
    } in
    let are : AreNames names = record {
      formats = a.1 ∙ search rules;
      units = b.1 ∙ search rules;
      first_columns = d.1 ∙ search rules;
      colors = e.1 ∙ search rules;
      outputs = f.1 ∙ search rules;
      severities = g.1 ∙ search rules;
      fails = h.1 ∙ search rules;
    } in
    let one = with_one _ _ _ _ _ c.in_ok-arg.ensures a.2 refl refl in
    let two = with_one _ _ _ _ _ c.in_ok-arg-2.ensures b.2 refl one in
    let three = with_one _ _ _ _ _ c.in_ok-arg-3.ensures d.2 refl two in
    let four = with_one _ _ _ _ _ c.in_ok-arg-4.ensures e.2 refl three in
    let five = with_one _ _ _ _ _ c.in_ok-arg-5.ensures f.2 refl four in
    let six = with_one _ _ _ _ _ c.in_ok-arg-6.ensures g.2 refl five in
    IfOk-weaker c.arg-7.result _ _ (λ made added. (names, are, with_one _ made _ _ _ added h.2 refl six)) c.arg-7.ensures
