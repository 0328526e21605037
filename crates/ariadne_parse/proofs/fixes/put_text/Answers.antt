use Rattle.std.proofs.Common.{◌≡◌, ◌∙◌, List, ℕ, ◌++◌, ap, append_assoc, inl, inr, sym}
use Rattle.std.specs.Prelude.{codes}
use Rattle.std.proofs.lemmas.Result.{IfOk-weaker}
use Rattle.ariadne_parse.specs.Fixes.{in_place_words, put_words, standing, there_words}
use Rattle.ariadne_parse.specs.declared.fixes.Covered.{Covered}
use Rattle.ariadne_parse.proofs.fixes.put_text.Goals as goal

-- a text in place of what stands there
put_parts : (text there words : List ℕ) → there ≡ words
    → codes "put `" ++ (text ++ (codes "` in place of " ++ there)) ≡ in_place_words text words
put_parts text there words e = rw e (simp append_assoc)

-- what stands there is named, by its text or its end
pub returns-in_ok-there-in-Text : goal.returns-in_ok-there-in-Text
returns-in_ok-there-in-Text c =
    let at = c.args.at in
    let put : Covered → List ℕ = λ k. put_words at (standing k) c.args.put_in.now in
    let there = c.in_ok-there-in-Text.ensures in
    IfOk-weaker c.format.result _ _
    (λ text e.
    e
    ∙ (elim c.in-Text.is [
      | inl named ↦ put_parts _ _ _ (there ∙ ap (λ k. there_words at (standing k)) named.1) ∙ ap put (sym named.1)
      | inr named ↦ put_parts _ _ _ (there ∙ ap (λ k. there_words at (standing k)) named.1) ∙ ap put (sym named.1)
    ]))
    c.format.ensures.ok
