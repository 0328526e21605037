-- Texts that begin with blanks.
use Rattle.std.proofs.Common.{◌≡◌, arith, get_or, subst}
use borrow.Author.Tests.{eqb-true}
use Rattle.std.proofs.lemmas.List.Sums.{prefix_len-le-length, prefix_len_passes}
use Rattle.std.proofs.lemmas.Str.{IsCharBoundary-after_ascii, IsCharBoundary-start}
use Rattle.std.specs.Prelude.{ℕ, zero, suc, ◌+◌, ◌<◌, ◌≤◌, ◌==◌, true, List}
use Rattle.std.specs.List.{prefix_len}
use Rattle.std.specs.Str.{IsCharBoundary, IsUtf8}

-- a text may be cut behind each of them
pub blanks_boundary : (text : List ℕ) (margin : ℕ) → margin ≤ prefix_len (λ c. c == 32) text → IsUtf8 text
    → IsCharBoundary text margin
blanks_boundary text zero few u = IsCharBoundary-start text u
blanks_boundary text (suc m) few u =
    let more : m + 1 ≡ suc m = omega arith in
    let one : (get_or text m 0 == 32) ≡ true = prefix_len_passes (λ c. c == 32) text m 0 (omega (arith, few)) in
    let low : get_or text m 0 < 128 = omega (arith, eqb-true (get_or text m 0) 32 one) in
    subst (IsCharBoundary text) more
    (IsCharBoundary-after_ascii text m u (omega (arith, few, prefix_len-le-length (λ c. c == 32) text)) low)
