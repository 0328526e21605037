-- A text that is repeated: once more, in two parts, and cut behind some of its copies.
use Rattle.std.proofs.Common.{◌≡◌, ℕ, zero, suc, ◌+◌, ◌-◌, ◌*◌, ◌/◌, ◌<◌, ◌≤◌, List, [], ◌∷◌, ◌++◌, replicate, length, take, refl, sym, ap, subst, ◌∙◌, arith}
use Rattle.std.proofs.Common.{append_assoc, length-append}
use Rattle.std.proofs.Math.Nat.{mul-div_cancel_left}
use Rattle.std.proofs.Math.Seq.{take-append_seam}
use Rattle.std.specs.Str.{IsUtf8, IsCharBoundary}
use Rattle.std.proofs.lemmas.List.{append-nil, replicate_more}
use Rattle.std.proofs.lemmas.Str.{IsUtf8-nil, IsUtf8-append, IsCharBoundary-at_seam}
use Rattle.ariadne_picture.specs.Lists.{joined}
use Rattle.ariadne_picture.specs.Pieces.{repeated, spaces}
use Rattle.ariadne_picture.proofs.Lists.Joined.{joined-upto_more}

-- no copy is no text
pub repeated_none : (text : List ℕ) → repeated 0 text ≡ []
unfolding repeated joined
repeated_none text = refl

-- one copy more stands behind the others
pub repeated_more : (n : ℕ) (text : List ℕ) → repeated (n + 1) text ≡ repeated n text ++ text
unfolding repeated
repeated_more n text = joined-upto_more (λ k. text) n

-- a single copy
pub repeated_one : (text : List ℕ) → repeated 1 text ≡ text
repeated_one text = repeated_more 0 text ∙ ap (λ t. t ++ text) (repeated_none text)

-- copies behind copies
pub repeated-append : (m n : ℕ) (text : List ℕ) → repeated m text ++ repeated n text ≡ repeated (m + n) text
repeated-append m zero text =
    let e : m ≡ m + 0 = omega arith in
    ap (λ t. repeated m text ++ t) (repeated_none text) ∙ append-nil (repeated m text) ∙ ap (λ k. repeated k text) e
repeated-append m (suc n) text =
    let e : suc n ≡ n + 1 = omega arith in
    let d : (m + n) + 1 ≡ m + suc n = omega arith in
    ap (λ k. repeated m text ++ repeated k text) e ∙ ap (λ t. repeated m text ++ t) (repeated_more n text)
    ∙ sym (append_assoc (repeated m text) (repeated n text) text) ∙ ap (λ t. t ++ text) (repeated-append m n text)
    ∙ sym (repeated_more (m + n) text) ∙ ap (λ k. repeated k text) d

-- copies are as long as all of them
pub length-repeated : (n : ℕ) (text : List ℕ) → length (repeated n text) ≡ n * length text
length-repeated zero text = ap length (repeated_none text) ∙ omega arith
length-repeated (suc n) text =
    let e : suc n ≡ n + 1 = omega arith in
    ap (λ k. length (repeated k text)) e ∙ ap length (repeated_more n text)
    ∙ length-append (repeated n text) text ∙ ap (λ k. k + length text) (length-repeated n text) ∙ omega arith

-- one of n copies is as long as the n-th part of all
pub length-copy : (n : ℕ) (text many : List ℕ) → many ≡ repeated n text → 0 < n → length many / n ≡ length text
length-copy n text many e h = ap (λ t. length t / n) e ∙ ap (λ k. k / n) (length-repeated n text) ∙ mul-div_cancel_left (length text) h

-- the first k copies of n
pub take-repeated : (k n : ℕ) (text : List ℕ) → k ≤ n → take (k * length text) (repeated n text) ≡ repeated k text
take-repeated k n text h =
    let e : n ≡ k + (n - k) = omega arith in
    let parts : repeated n text ≡ repeated k text ++ repeated (n - k) text = ap (λ j. repeated j text) e ∙ sym (repeated-append k (n - k) text) in
    (λ i. take (sym (length-repeated k text) i) (parts i)) ∙ take-append_seam (repeated k text) (repeated (n - k) text)

-- copies of a text are a text
pub IsUtf8-repeated : (n : ℕ) (text : List ℕ) → IsUtf8 text → IsUtf8 (repeated n text)
IsUtf8-repeated zero text h = subst IsUtf8 (sym (repeated_none text)) IsUtf8-nil
IsUtf8-repeated (suc n) text h =
    let e : suc n ≡ n + 1 = omega arith in
    subst IsUtf8 (sym (ap (λ k. repeated k text) e ∙ repeated_more n text)) (IsUtf8-append (repeated n text) text (IsUtf8-repeated n text h) h)

-- a text of copies may be cut behind each of them
pub IsCharBoundary-repeated : (k n : ℕ) (text : List ℕ) → k ≤ n → IsUtf8 text → IsCharBoundary (repeated n text) (k * length text)
IsCharBoundary-repeated k n text h u =
    let e : n ≡ k + (n - k) = omega arith in
    let parts : repeated n text ≡ repeated k text ++ repeated (n - k) text = ap (λ j. repeated j text) e ∙ sym (repeated-append k (n - k) text) in
    subst (IsCharBoundary (repeated n text)) (length-repeated k text)
    (IsCharBoundary-at_seam (repeated n text) (repeated k text) (repeated (n - k) text) parts (IsUtf8-repeated (n - k) text u))

-- copies of a character of one byte
pub repeated_byte : (n b : ℕ) → repeated n (b ∷ []) ≡ replicate n b
repeated_byte zero b = repeated_none (b ∷ [])
repeated_byte (suc n) b =
    let e : suc n ≡ n + 1 = omega arith in
    ap (λ k. repeated k (b ∷ [])) e ∙ repeated_more n (b ∷ []) ∙ ap (λ t. t ++ b ∷ []) (repeated_byte n b)
    ∙ replicate_more n b ∙ ap (λ k. replicate k b) (sym e)

-- blanks are copies of a blank
pub repeated_blank : (n : ℕ) → repeated n (32 ∷ []) ≡ spaces n
unfolding spaces
repeated_blank n = repeated_byte n 32

-- ---- a loop that writes copies

-- before the first turn nothing is written
pub repeats_none : (old text : List ℕ) → old ≡ old ++ repeated 0 text
repeats_none old text = sym (ap (λ t. old ++ t) (repeated_none text) ∙ append-nil old)

-- a turn writes one copy more
pub repeats_step : (old b text : List ℕ) (n : ℕ) → b ≡ old ++ repeated n text → b ++ text ≡ old ++ repeated (n + 1) text
repeats_step old b text n e = ap (λ t. t ++ text) e ∙ append_assoc old (repeated n text) text ∙ ap (λ t. old ++ t) (sym (repeated_more n text))

-- n of those that are left are written
pub repeats_slice : (old b text : List ℕ) (count left n : ℕ) → b ++ repeated left text ≡ old ++ repeated count text → n ≤ left
    → (b ++ repeated n text) ++ repeated (left - n) text ≡ old ++ repeated count text
repeats_slice old b text count left n e h =
    let d : n + (left - n) ≡ left = omega arith in
    append_assoc b (repeated n text) (repeated (left - n) text)
    ∙ ap (λ t. b ++ t) (repeated-append n (left - n) text ∙ ap (λ k. repeated k text) d) ∙ e
