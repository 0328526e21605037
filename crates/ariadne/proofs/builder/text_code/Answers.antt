use Rattle.std.proofs.Common.{arith, ◌≡◌, ◌-◌, ◌++◌, length, replicate, chars, sym, ap, ◌∙◌}
use Rattle.std.proofs.lemmas.Iterator.{YieldsList-from_chars}
use Rattle.std.proofs.lemmas.Iterator.Consumers.{count_from_yields_List}
use Rattle.std.proofs.lemmas.Result.{IfOk-weaker}
use Rattle.ariadne.specs.Building.{filled_code}
use Rattle.std.proofs.Common.{string_bytes}
use Rattle.ariadne.proofs.builder.text_code.Goals as goal
use Rattle.ariadne.proofs.builder.text_code.Goals.{in-0, in-1, in_default}

-- the filler is as many blanks as the text lacks of two characters
pub returns : goal.returns
returns c =
    let text = c.args.text.now in
    let counted : c.count.result ≡ length (chars text) =
    count_from_yields_List c.chars.result c.count.result c.count.ensures.ran
    (YieldsList-from_chars {s = c.chars.result} text c.utf8.text c.chars.ensures.rest) in
    let filled : c.match-count.filler.now ≡ replicate (2 - c.count.result) 32 =
    elim c.match-count.branch [
      | in-0 w ↦ ap (λ f. f.now) w.filler-is ∙ sym (ap (λ n. replicate (2 - n) 32) w.in-0.is)
      | in-1 w ↦ ap (λ f. f.now) w.filler-is ∙ sym (ap (λ n. replicate (2 - n) 32) w.in-1.is)
      | in_default w ↦
          let short : 2 - c.count.result ≡ 0 = omega (arith, w.in_default) in
          ap (λ f. f.now) w.filler-is ∙ sym (ap (λ n. replicate n 32) short)
    ] in
    let whole : text ++ c.match-count.filler.now ≡ filled_code text =
    ap (λ fill. text ++ fill) (filled ∙ ap (λ n. replicate (2 - n) 32) counted) in
    IfOk-weaker c.format.result _ (λ code. string_bytes code ≡ filled_code text)
    (λ code p. p ∙ whole) c.format.ensures.ok
