-- Of the numbers the first ones follow whole, and of the next one a beginning.
use Rattle.std.proofs.Common.{◌++◌, ◌∙◌, ◌∷◌, [], append_assoc, decimal, rules, string_bytes}
use Rattle.std.proofs.lemmas.Result.{on_err_weaker}
use Rattle.ariadne_color.proofs.CutShort.{behind, of_front, on_err-intro}
use Rattle.ariadne_color.proofs.color.escape.push_mix.Goals as goal

pub returns-in_err-push_number-clause-err : goal.returns-in_err-push_number-clause-err
returns-in_err-push_number-clause-err c =
    on_err-intro c.from_residual.result (
    of_front _ _ (decimal c.args.green ++ 59 ∷ [] ++ decimal c.args.blue ++ 109 ∷ []) _ _ (search (rules, append_assoc)) c.in_err-push_number.ensures.err)

pub returns-in_err-push_number-2-clause-err : goal.returns-in_err-push_number-2-clause-err
returns-in_err-push_number-2-clause-err c =
    on_err-intro c.from_residual-in_err-push_number-2.result (
    behind _ (decimal c.args.red ++ 59 ∷ []) (decimal c.args.green ++ 59 ∷ [] ++ decimal c.args.blue ++ 109 ∷ []) _ _ _ (search (rules, append_assoc))
    (c.in_ok-push_number.ensures.ok ∙ append_assoc (string_bytes c.args.out.now) (decimal c.args.red) (59 ∷ [])) (
    of_front _ _ (decimal c.args.blue ++ 109 ∷ []) _ _ (search (rules, append_assoc)) c.in_err-push_number-2.ensures.err))

pub returns-clause-err : goal.returns-clause-err
returns-clause-err c =
    on_err_weaker c.push_number-3.result
    (λ short.
    behind _ (decimal c.args.red ++ 59 ∷ []) (decimal c.args.green ++ 59 ∷ [] ++ decimal c.args.blue ++ 109 ∷ []) _ _ _ (search (rules, append_assoc))
    (c.in_ok-push_number.ensures.ok ∙ append_assoc (string_bytes c.args.out.now) (decimal c.args.red) (59 ∷ [])) (
    behind _ (decimal c.args.green ++ 59 ∷ []) (decimal c.args.blue ++ 109 ∷ []) _ _ _ (search (rules, append_assoc))
    (c.in_ok-push_number-2.ensures.ok ∙ append_assoc (string_bytes c.push_number.new.out) (decimal c.args.green) (59 ∷ [])) short))
    c.push_number-3.ensures.err
