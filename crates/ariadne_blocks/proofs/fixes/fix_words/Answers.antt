use Rattle.std.proofs.Common.{◌≡◌, ◌∙◌, List, ℕ, ◌++◌, append_assoc, sym, ap}
use Rattle.std.specs.Prelude.{codes}
use Rattle.std.proofs.lemmas.Result.{IfOk-weaker}
use Rattle.ariadne_snippets.specs.declared.taken.FixKind.{FixKind}
use Rattle.ariadne_blocks.specs.HelpFixes.{fix_text}
use Rattle.ariadne_blocks.proofs.fixes.fix_words.Goals as goal

-- the parts, one behind the other
put_parts : (text line column : List ℕ)
    → codes "put `" ++ (text ++ (codes "` at " ++ (line ++ (codes ":" ++ column))))
    ≡ codes "put `" ++ text ++ codes "` at " ++ line ++ codes ":" ++ column
put_parts text line column = simp append_assoc

put_line_parts : (text line : List ℕ)
    → codes "put the line `" ++ (text ++ (codes "` in front of line " ++ line))
    ≡ codes "put the line `" ++ text ++ codes "` in front of line " ++ line
put_line_parts text line = simp append_assoc

become_parts : (text line : List ℕ)
    → codes "make line " ++ (line ++ (codes " `" ++ (text ++ codes "`")))
    ≡ codes "make line " ++ line ++ codes " `" ++ text ++ codes "`"
become_parts text line = simp append_assoc

remove_parts : (line column : List ℕ)
    → codes "remove what stands at " ++ (line ++ (codes ":" ++ column))
    ≡ codes "remove what stands at " ++ line ++ codes ":" ++ column
remove_parts line column = simp append_assoc

-- as the kind of the change says
pub returns-in-Put : goal.returns-in-Put
returns-in-Put c =
    let fix = c.args.fix.now in
    IfOk-weaker c.format.result _ _
    (λ text e.
    e ∙ put_parts _ _ _ ∙ ap (λ (k : FixKind). fix_text k fix.at.line c.args.column fix.text.now) (sym c.in-Put.is))
    c.format.ensures.ok

pub returns-in-PutLine : goal.returns-in-PutLine
returns-in-PutLine c =
    let fix = c.args.fix.now in
    IfOk-weaker c.format-in-PutLine.result _ _
    (λ text e.
    e ∙ put_line_parts _ _ ∙ ap (λ (k : FixKind). fix_text k fix.at.line c.args.column fix.text.now) (sym c.in-PutLine.is))
    c.format-in-PutLine.ensures.ok

pub returns-in-Become : goal.returns-in-Become
returns-in-Become c =
    let fix = c.args.fix.now in
    IfOk-weaker c.format-in-Become.result _ _
    (λ text e.
    e ∙ become_parts _ _ ∙ ap (λ (k : FixKind). fix_text k fix.at.line c.args.column fix.text.now) (sym c.in-Become.is))
    c.format-in-Become.ensures.ok

pub returns-in-Remove : goal.returns-in-Remove
returns-in-Remove c =
    let fix = c.args.fix.now in
    IfOk-weaker c.format-in-Remove.result _ _
    (λ text e.
    e ∙ remove_parts _ _ ∙ ap (λ (k : FixKind). fix_text k fix.at.line c.args.column fix.text.now) (sym c.in-Remove.is))
    c.format-in-Remove.ensures.ok
