-- The command is the bare one with each of its words.
use Rattle.std.proofs.Common.{ap, ◌∙◌}
use Rattle.std.proofs.lemmas.Result.{IfOk-weaker}
use Rattle.clap.specs.Words.{with_rule}
use Rattle.std.specs.List.{fold}
use Rattle.ariadne_show.specs.CommandWords.{choices, others, switches}
use Rattle.ariadne_show.proofs.words.command.Goals as goal

pub returns : goal.returns
returns c =
    let chosen = c.in_ok-command.ensures in
    let before = c.in_ok-command-2.ensures
    ∙ ap (λ app. fold with_rule app switches) (chosen.2 ∙ ap (λ app. fold with_rule app (choices chosen.0)) c.bare.ensures) in
    IfOk-weaker c.with_others.result _ _ (λ made added. (chosen.0, chosen.1, added ∙ ap (λ app. fold with_rule app others) before)) c.with_others.ensures
