use Rattle.std.proofs.Common.{rules, ◌≡◌, ◌∙◌, ◌==◌, ◌∷◌, ◌++◌, [], append_assoc, false}
use Rattle.std.proofs.lemmas.Result.{IfOk-weaker}
use Rattle.std.specs.Prelude.{decimal}
use Rattle.ariadne_show.specs.Limits.{more_text}
use Rattle.ariadne_show.specs.declared.limits.DrawnCount.{DrawnCount}
use Rattle.ariadne_show.proofs.limits.DrawnCount.text.Goals as goal

-- some more, in words
some_more : (count : DrawnCount) → (count.more == 0) ≡ false
    → 97 ∷ 110 ∷ 100 ∷ 32 ∷ (decimal count.more ++ (32 ∷ 109 ∷ 111 ∷ 114 ∷ 101 ∷ 10 ∷ [])) ≡ more_text count
some_more count some = rw some (simp append_assoc)

pub returns-in_default : goal.returns-in_default
returns-in_default c =
    IfOk-weaker c.format.result _ _ (λ text e. e ∙ some_more c.args.self.now (search rules)) c.format.ensures.ok
