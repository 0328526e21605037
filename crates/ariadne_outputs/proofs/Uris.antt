-- What is escaped in a URI.
use Rattle.std.proofs.Common.{◌≡◌, ◌≢◌, ◌∙◌, inl, inr, ℕ, ◌<◌, Bool, true, false, not, ◌||◌, cond, eqb, List, [], ◌∷◌, ◌++◌, refl, ap, sym, arith}
use Rattle.std.specs.Char.{is_ascii, is_ascii_alphanumeric}
use Rattle.std.specs.List.{flat_map}
use Rattle.std.proofs.lemmas.Bool.{agree_below_at, cases_eq, cases_lt, eq-eqb, ne_eqb, not_from_true, or_right}
use Rattle.std.proofs.lemmas.Bool.Decides.{nat_tests}
use Rattle.percent_encoding.specs.AsciiSet.{contains, should_percent_encode}
use Rattle.percent_encoding.specs.Percent.{encode_byte, percent_encode, percent_encode_byte}
use Rattle.percent_encoding.specs.declared.ascii_set.AsciiSet.{AsciiSet}
use Rattle.percent_encoding.specs.declared.ascii_set.TheConstants.{NON_ALPHANUMERIC}
use Rattle.percent_encoding.proofs.StandardFacts.{non_alphanumeric}
use Rattle.ariadne_outputs.specs.Sarif.{is_in_uri, uri_byte}

-- a set has the bytes of ASCII that aren't kept
abbrev pub HasAllBut : (ℕ → Bool) → AsciiSet → Type 0
HasAllBut keeps set = (b : ℕ) → b < 128 → contains set b ≡ not (keeps b)

-- letters and digits at first
pub first_set : HasAllBut is_ascii_alphanumeric NON_ALPHANUMERIC
first_set b low =
    agree_below_at (contains NON_ALPHANUMERIC) (λ c. not (is_ascii_alphanumeric c)) 128 b non_alphanumeric low

or_neither : (a b : Bool) → b ≡ false → a ≡ (a || b)
or_neither true b e = refl
or_neither false b e = sym e

-- and one more
pub one_removed : (keeps : ℕ → Bool) (set less : AsciiSet) (x : ℕ) → HasAllBut keeps set → contains less x ≡ false
    → ((b : ℕ) → b < 128 → b ≢ x → contains less b ≡ contains set b) → HasAllBut (λ b. keeps b || eqb b x) less
one_removed keeps set less x has gone others b low =
    elim (cases_eq b x) [
      | inl e ↦ ap (contains less) e ∙ gone ∙ sym (not_from_true _ (or_right (keeps b) (eqb b x) (eq-eqb b x e)))
      | inr other ↦
          others b low other ∙ has b low ∙ ap not (or_neither (keeps b) (eqb b x) (ne_eqb b x other))
    ]

-- ---- a path

turned : (b : Bool) (x y : List ℕ) → cond (not b) x y ≡ cond b y x
turned true x y = refl
turned false x y = refl

-- a byte is escaped where it isn't kept
byte_is : (set : AsciiSet) → HasAllBut is_in_uri set → (b : ℕ) → encode_byte set b ≡ uri_byte b
unfolding should_percent_encode
byte_is set has b =
    elim (cases_lt b 128) [
      | inl low ↦
          let ascii : is_ascii b ≡ true = grind (arith, nat_tests) in
          rw (ascii, has b low) (turned (is_in_uri b) (percent_encode_byte b) (b ∷ []))
      | inr high ↦
          let ascii : is_ascii b ≡ false = grind (arith, nat_tests) in
          let kept : is_in_uri b ≡ false = grind (arith, nat_tests) in
          rw (ascii, kept) refl
    ]

bytes_are : (set : AsciiSet) → HasAllBut is_in_uri set → (path : List ℕ)
    → flat_map (encode_byte set) path ≡ flat_map uri_byte path
bytes_are set has [] = refl
bytes_are set has (b ∷ path) =
    ap (λ t. t ++ flat_map (encode_byte set) path) (byte_is set has b)
    ∙ ap (λ t. uri_byte b ++ t) (bytes_are set has path)

pub path_is : (set : AsciiSet) → HasAllBut is_in_uri set → (path : List ℕ)
    → percent_encode set path ≡ flat_map uri_byte path
unfolding percent_encode
path_is set has path = bytes_are set has path
