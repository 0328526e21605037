-- The braces of a message of SARIF, one behind the other.
use Rattle.std.proofs.Common.{◌≡◌, ◌∙◌, ap, append_assoc, arith, refl, sym}
use Rattle.std.specs.Prelude.{ℕ, zero, suc, ◌+◌, ◌-◌, ◌<◌, Bool, ◌++◌, List, length, Some, None}
use Rattle.serde_json.specs.Data.{Data}
use Rattle.ariadne_sarif.specs.SarifMessages.{at_brace, braced, filled, filled_by, filled_on}

-- none is looked at
filled_end : (n : ℕ) (d : Data) (text : List ℕ) → n ≡ 0 → filled_by n d text ≡ text
unfolding filled_by
filled_end n d text none = ap (λ k. filled_by k d text) none

-- none stands there
filled_last : (n : ℕ) (d : Data) (text : List ℕ) → None ≡ at_brace text → filled_by n d text ≡ text
unfolding filled_by
filled_last zero d text none = refl
filled_last (suc n) d text none = ap (filled_on (filled_by n d) d text) (sym none)

-- one does
filled_next : (n m : ℕ) (d : Data) (is_closing : Bool) (text front behind said left : List ℕ) → n ≡ suc m
    → Some (is_closing, front, behind) ≡ at_brace text → (said, left) ≡ braced d is_closing behind
    → filled_by n d text ≡ front ++ said ++ filled_by m d left
unfolding filled_by
filled_next n m d is_closing text front behind said left more is stands =
    ap (λ k. filled_by k d text) more ∙ ap (filled_on (filled_by m d) d text) (sym is)
    ∙ ap (λ (b : List ℕ × List ℕ). front ++ b.0 ++ filled_by m d b.1) (sym stands)

-- ---- what is written so far, and what is left

-- what stands behind the first part is one part
regrouped : (first front said more : List ℕ) → first ++ front ++ said ++ more ≡ first ++ (front ++ said ++ more)
regrouped first front said more = simp append_assoc

-- a brace is passed
pub brace_passed : (d : Data) (is_closing : Bool) (turn : ℕ) (text rest front behind said left first pushed all : List ℕ)
    → turn < length text → Some (is_closing, front, behind) ≡ at_brace rest → (said, left) ≡ braced d is_closing behind
    → pushed ≡ first ++ front → all ≡ pushed ++ said
    → first ++ filled_by (length text - turn) d rest ≡ filled d text
    → all ++ filled_by (length text - (turn + 1)) d left ≡ filled d text
brace_passed d is_closing turn text rest front behind said left first pushed all l is stands front_more said_more same =
    let m : ℕ = length text - (turn + 1) in
    let n : length text - turn ≡ suc m = omega arith in
    let more : List ℕ = filled_by m d left in
    ap (λ t. t ++ more) (said_more ∙ ap (λ t. t ++ said) front_more)
    ∙ regrouped first front said more
    ∙ ap (λ t. first ++ t) (sym (filled_next (length text - turn) m d is_closing rest front behind said left n is stands)) ∙ same

-- no brace stands there
pub brace_none : (d : Data) (turn : ℕ) (text rest first all : List ℕ) → None ≡ at_brace rest → all ≡ first ++ rest
    → first ++ filled_by (length text - turn) d rest ≡ filled d text → all ≡ filled d text
brace_none d turn text rest first all none more same =
    more ∙ ap (λ t. first ++ t) (sym (filled_last (length text - turn) d rest none)) ∙ same

-- no turn is left
pub brace_past : (d : Data) (turn : ℕ) (text rest first all : List ℕ) → turn ≡ length text → all ≡ first ++ rest
    → first ++ filled_by (length text - turn) d rest ≡ filled d text → all ≡ filled d text
brace_past d turn text rest first all past more same =
    let n : length text - turn ≡ 0 = omega arith in
    more ∙ ap (λ t. first ++ t) (sym (filled_end (length text - turn) d rest n)) ∙ same
