use Rattle.std.proofs.Common.{◌≡◌, ◌∙◌, if◌then◌else◌, Option, ap, subst}
use Rattle.std.specs.Prelude.{Bool}
use Rattle.ariadne_parse.specs.Heads.{Head}
use Rattle.ariadne_parse.specs.declared.counting.Counting.{Counting}
use Rattle.ariadne_parse.specs.ParsedDiagnostics.{is_note, IsOfHead, IsParsedOfHead}
use Rattle.ariadne_parse.specs.ParsedLines.{head_parsed}
use Rattle.ariadne_parse.specs.declared.telling.Answer.{Answer}
use Rattle.ariadne_parse.specs.declared.telling.Answer.TheVariants.{Head as Header, Note}
use Rattle.ariadne_parse.proofs.telling.line_in.Goals as goal
use Rattle.ariadne_parse.proofs.telling.line_in.Goals.{then-is_note, else-is_note}

-- a diagnostic is told of the line's head: as a note, or by itself
pub returns : goal.returns
returns c =
    let head = head_parsed c.in-Some.it in
    let one = c.in_ok-parsed.parsed in
    let answer : Bool → Answer = λ b. if b then Note one else Header one in
    let same : c.if-is_note.result ≡ answer (is_note head) =
    elim c.if-is_note.branch [
      | then-is_note w ↦ w.result-is ∙ ap answer w.if-is_note.ensures
      | else-is_note w ↦ w.result-is ∙ ap answer w.if-is_note.ensures
    ] in
    subst (λ (h : Option Head). IsParsedOfHead c.args.counting h c.if-is_note.result) c.in-Some.ensures
    (one, same, subst (λ (n : Counting). IsOfHead n head one) c.counting_in.ensures c.in_ok-parsed.ensures)
