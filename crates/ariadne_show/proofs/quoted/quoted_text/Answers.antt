use Rattle.std.proofs.Common.{◌∙◌, ◌+◌, ◌-◌, ◌++◌, ◌∷◌, [], ap, append_assoc, arith, string_bytes}
use Rattle.std.specs.Prelude.{ℕ, List}
use Rattle.ariadne_show.specs.Quoted.{quoted_line}
use Rattle.ariadne_show.proofs.Quoting.{flat_more}
use Rattle.ariadne_show.proofs.quoted.quoted_text.Goals as goal

-- one line more in each turn
pub loop-above-preserved : goal.loop-above-preserved
loop-above-preserved c =
    let a = c.args.lines.above in
    let k = c.loop-above.above in
    let old = string_bytes c.loop-above.text in
    flat_more (λ line. quoted_line c.args.path.now c.args.quoted.now (line + 1) ++ 10 ∷ []) a k (k - a) (k + 1 - a) old
    (string_bytes c.push.new.self) (omega arith) (omega arith) c.loop-above.invariant
    (c.in_ok-push.ensures.bytes ∙ ap (λ (t : List ℕ). string_bytes c.push_str.new.self ++ t) (c.in_ok-push.ensures.ascii (omega arith))
    ∙ ap (λ (t : List ℕ). t ++ 10 ∷ []) c.in_ok-push_str.ensures.bytes
    ∙ append_assoc old c.quoted_line.result.now (10 ∷ [])
    ∙ ap (λ (t : List ℕ). old ++ (t ++ 10 ∷ [])) c.quoted_line.ensures)
