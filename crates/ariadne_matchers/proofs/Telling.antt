-- What lines tell, by the place that they name.
use Rattle.std.proofs.Common.{◌≡◌, ℕ, List, refl, subst}
use Rattle.std.specs.Prelude.{Option, Some, None}
use Rattle.ariadne_matchers.specs.Catches.{Catch, Cut}
use Rattle.ariadne_matchers.specs.MatchedDiagnostics.{named_place, IsMatchedAt, IsMatchedBy, IsMatchedOf}
use Rattle.ariadne_matchers.specs.declared.entry.Entry.{Entry}
use Rattle.ariadne_matchers.specs.declared.entry.Word.{Word}
use Rattle.ariadne_matchers.specs.declared.matched.Matched.{Matched}

module _ (entry : Entry) (words : List Word) (lines : List Catch) where
  -- they name one
  pub told_there : (file : Cut) (line : ℕ) (one : Matched) → Some (file, line) ≡ named_place lines → IsMatchedAt entry words lines file line one
      → IsMatchedOf entry words lines (Some one)
  told_there file line one is told =
      subst (λ (place : Option (Cut × ℕ)). IsMatchedBy entry words lines place (Some one)) is (one, refl, told)

  -- they name none
  pub told_nowhere : None ≡ named_place lines → IsMatchedOf entry words lines None
  told_nowhere is = subst (λ (place : Option (Cut × ℕ)). IsMatchedBy entry words lines place None) is refl
