use Rattle.std.proofs.Common.{◌≡◌, ◌∙◌, List, ℕ, ◌++◌, ap, append_assoc, sym}
use Rattle.std.specs.Prelude.{codes}
use Rattle.std.proofs.lemmas.Result.{IfOk-weaker}
use Rattle.ariadne_parse.specs.Fixes.{standing, there_words}
use Rattle.ariadne_parse.proofs.fixes.there_text.Goals as goal

-- by the span alone
pub returns-in-Unnamed : goal.returns-in-Unnamed
returns-in-Unnamed c =
    IfOk-weaker c.format.result _ _
    (λ text e.
    e
    ∙ ap (λ span. codes "what stands at " ++ span) c.in_ok-span.ensures
    ∙ ap (λ covered. there_words c.args.at (standing covered)) (sym c.in-Unnamed.is))
    c.format.ensures.ok

-- by its text
text_parts : (text span words : List ℕ) → span ≡ words
    → codes "`" ++ (text ++ (codes "` at " ++ span)) ≡ codes "`" ++ text ++ codes "` at " ++ words
text_parts text span words e = rw e (simp append_assoc)

pub returns-in-Text : goal.returns-in-Text
returns-in-Text c =
    IfOk-weaker c.format-in-Text.result _ _
    (λ text e.
    e
    ∙ text_parts _ _ _ c.in_ok-span.ensures
    ∙ ap (λ covered. there_words c.args.at (standing covered)) (sym c.in-Text.is))
    c.format-in-Text.ensures.ok

-- by where it ends
end_parts : (span end words end_words : List ℕ) → span ≡ words → end ≡ end_words
    → codes "what stands from " ++ (span ++ (codes " to " ++ end))
    ≡ codes "what stands from " ++ words ++ codes " to " ++ end_words
end_parts span end words end_words e1 e2 = rw (e1, e2) (simp append_assoc)

pub returns : goal.returns
returns c =
    IfOk-weaker c.format-in-UpTo.result _ _
    (λ text e.
    e
    ∙ end_parts _ _ _ _ c.in_ok-span.ensures c.in_ok-end-in-UpTo.ensures
    ∙ ap (λ covered. there_words c.args.at (standing covered)) (sym c.in-UpTo.is))
    c.format-in-UpTo.ensures.ok
