use Rattle.std.proofs.Common.{◌≡◌, ◌∙◌, sym, rules}
use Rattle.ariadne_edits.proofs.LineTexts.{same_text}
use Rattle.ariadne_edits.proofs.rows.kept.Goals as goal

-- lines that aren't equal aren't the same
pub returns-then-is_last_of-2-clause-same : goal.returns-then-is_last_of-2-clause-same
returns-then-is_last_of-2-clause-same c = λ s.
    let same : c.text_of.result.now ≡ c.text_of-else-len-j.result.now =
    same_text _ _ c.text_of.utf8 c.text_of-else-len-j.utf8 (c.text_of.ensures ∙ s.same ∙ sym c.text_of-else-len-j.ensures) in
    absurd (let no : ⊥ = search rules in no)

pub returns-else-is_last_of-2-clause-same : goal.returns-else-is_last_of-2-clause-same
returns-else-is_last_of-2-clause-same c = λ s.
    let same : c.text_of.result.now ≡ c.text_of-else-len-j.result.now =
    same_text _ _ c.text_of.utf8 c.text_of-else-len-j.utf8 (c.text_of.ensures ∙ s.same ∙ sym c.text_of-else-len-j.ensures) in
    absurd (let no : ⊥ = search rules in no)
