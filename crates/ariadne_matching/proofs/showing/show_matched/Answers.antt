use Rattle.std.proofs.Common.{subst, IfOk, List, Option, ℕ}
use Rattle.std.proofs.lemmas.Result.{IfOk-weaker}
use Rattle.ariadne_show.specs.RunOutput.{IsAllShown}
use Rattle.ariadne_show.specs.declared.options.Options.{Options}
use Rattle.ariadne_matching.proofs.showing.show_matched.Goals as goal

-- what is read behind the matchers
pub returns : goal.returns
returns g c =
    subst (λ (options : Options). IfOk c.show-shown.result (λ sum. (lines : Option (List ℕ)) × IsAllShown options lines c.args.streams.now c.show-shown.new.streams sum))
    c.options_behind-options.ensures (IfOk-weaker c.show-shown.result _ _ (λ sum shown. (_, shown)) c.show-shown.ensures)
