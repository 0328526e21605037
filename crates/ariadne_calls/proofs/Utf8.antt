-- When a text has a fault.
use Rattle.std.proofs.Common.{◌≡◌, refl}
use Rattle.std.specs.Prelude.{ℕ, Bool, true, false, not, List, [], ◌∷◌, length}
use Rattle.std.specs.Str.{IsUtf8, is_utf8}
use Rattle.std.proofs.lemmas.List.{nil_from_length}
use Rattle.std.proofs.lemmas.Str.{IsUtf8-nil, IsUtf8-from_is_utf8, is_utf8-from_IsUtf8}
use Rattle.ariadne_calls.specs.declared.ending.Fault.{Fault}
use Rattle.ariadne_calls.specs.Faults.{text_faults, when}

-- a test that isn't so fails
fails : (b : Bool) → (b ≡ true → ⊥) → b ≡ false
fails true h = absurd (h refl)
fails false h = refl

-- what is no UTF-8 is told so, and the empty text is UTF-8
pub no_utf8 : (bytes : List ℕ) → (IsUtf8 bytes → ⊥) → is_utf8 bytes ≡ false
no_utf8 bytes h = fails (is_utf8 bytes) (λ e. h (IsUtf8-from_is_utf8 bytes e))

pub empty_utf8 : (bytes : List ℕ) → length bytes ≡ 0 → is_utf8 bytes ≡ true
empty_utf8 bytes h = rw (nil_from_length bytes h) (is_utf8-from_IsUtf8 [] IsUtf8-nil)

-- UTF-8 has none
pub no_fault : (f : Fault) (bytes : List ℕ) → IsUtf8 bytes → text_faults f bytes ≡ []
no_fault f bytes h = rw (is_utf8-from_IsUtf8 bytes h) refl

-- nor has the empty text
pub none_in_empty : (f : Fault) (bytes : List ℕ) → length bytes ≡ 0 → text_faults f bytes ≡ []
none_in_empty f bytes h = rw (nil_from_length bytes h) (no_fault f [] IsUtf8-nil)

-- where a test fails there is one
where_not : (f : Fault) (b : Bool) → (b ≡ true → ⊥) → when (not b) f ≡ f ∷ []
where_not f true h = absurd (h refl)
where_not f false h = refl

-- so other bytes have one
pub one_fault : (f : Fault) (bytes : List ℕ) → (IsUtf8 bytes → ⊥) → text_faults f bytes ≡ f ∷ []
one_fault f bytes h = where_not f (is_utf8 bytes) (λ e. h (IsUtf8-from_is_utf8 bytes e))
