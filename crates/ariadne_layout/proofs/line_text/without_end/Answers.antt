use Rattle.std.proofs.Common.{◌≡◌, ℕ, ◌-◌, ◌<◌, ◌≤◌, List, length, get_or, take, ◌∙◌, ap, subst, arith}
use Rattle.std.specs.Str.{chars, drop_trailing_whitespace}
use Rattle.ariadne_layout.proofs.Layouts.{blanks_behind, trim_same_end}
use Rattle.ariadne_layout.proofs.line_text.without_end.Goals as goal

-- what is cut before it is trimmed is white space
pub returns : goal.returns
returns c =
    let whole = c.unterminated-whole.result.now in
    let n = c.blocks_start.result in
    let bytes = c.as_bytes.ensures.value in
    let within : n ≤ length whole = subst (λ (bs : List ℕ). n ≤ length bs) bytes c.blocks_start.ensures.within in
    let blank : (k : ℕ) → n ≤ k → k < length whole → get_or whole k 0 ≡ 32 =
    subst (λ (bs : List ℕ). (k : ℕ) → n ≤ k → k < length bs → get_or bs k 0 ≡ 32) bytes c.blocks_start.ensures.blank in
    let all : n - 0 ≡ n = omega arith in
    let front : c.range-front.result.now ≡ take n whole = c.range-front.ensures.value ∙ ap (λ k. take k whole) all in
    c.trim_end.ensures.trim
    ∙ trim_same_end c.range-front.result.now c.args.line.now
    (ap (λ t. drop_trailing_whitespace (chars t)) front
    ∙ blanks_behind whole n c.unterminated-whole.utf8 within blank ∙ c.unterminated-whole.ensures)
