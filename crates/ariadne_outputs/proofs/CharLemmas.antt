-- Texts that are cut at escape characters, and sequences in them, by characters and by bytes.
use Rattle.std.proofs.Common.{◌≡◌, ◌≢◌, ◌∙◌, ℕ, zero, suc, ◌+◌, ◌<◌, Bool, true, not, eqb, List, [], ◌∷◌, ◌++◌, refl, ap, sym, subst, take, drop, length, get_or, arith, lit<, rules}
use Rattle.std.specs.Prelude.{chars, encode_utf8, encode_utf8_all}
use Rattle.std.specs.List.{list_all, prefix_len, slice_range, slice_split}
use Rattle.std.proofs.Math.Nat.{sub-zero}
use Rattle.std.proofs.Math.Seq.{drop-append-add, get_or-append_seam, take-append_seam, take-length}
use Rattle.std.specs.Str.{IsCharBoundary, IsUtf8}
use Rattle.std.proofs.lemmas.Bool.{and_from, and_parts, ne_eqb, not_from_false, not-true}
use Rattle.std.proofs.lemmas.List.{get_or-append-add, length-append, length-drop}
use Rattle.std.proofs.lemmas.List.Sums.{prefix_len-le-length, prefix_len_passes}
use Rattle.std.proofs.lemmas.Str.{IsCharBoundary-after_ascii, IsCharBoundary-before_ascii, IsCharBoundary-start, IsUtf8-append, IsUtf8-drop, IsUtf8-encode, IsUtf8-take, chars-append, chars_past_char, encode_ascii, encodes-chars}

-- ---- cuts

-- a text without escape characters
abbrev pub has_no_escape : List ℕ → Bool
has_no_escape text = list_all (λ c. not (eqb c 27)) text

-- it is one part
pub one_part : (text : List ℕ) → has_no_escape text ≡ true → slice_split (λ c. eqb c 27) text ≡ text ∷ []
one_part [] none = refl
one_part (c ∷ text) none =
    let both = and_parts (not (eqb c 27)) (has_no_escape text) none in
    rw (not-true (eqb c 27) both.0, one_part text both.1) refl

-- what stands behind the first is cut further
pub more_parts : (front behind : List ℕ) → has_no_escape front ≡ true
    → slice_split (λ c. eqb c 27) (front ++ 27 ∷ behind) ≡ front ∷ slice_split (λ c. eqb c 27) behind
more_parts [] behind none = refl
more_parts (c ∷ front) behind none =
    let both = and_parts (not (eqb c 27)) (has_no_escape front) none in
    rw (not-true (eqb c 27) both.0, more_parts front behind both.1) refl

-- ---- by characters

-- no byte of a text is an escape character
abbrev pub HasNoEscapeByte : List ℕ → Type 0
HasNoEscapeByte bytes = (i : ℕ) → i < length bytes → get_or bytes i 0 ≢ 27

-- then no character is
no_escape_in : (cs : List ℕ) → HasNoEscapeByte (encode_utf8_all cs) → has_no_escape cs ≡ true
no_escape_in [] none = refl
no_escape_in (c ∷ cs) none =
    and_from (not (eqb c 27)) (has_no_escape cs)
    (not_from_false (eqb c 27) (ne_eqb c 27
    (λ is.
    let first : encode_utf8 c ++ encode_utf8_all cs ≡ 27 ∷ encode_utf8_all cs =
    ap (λ d. encode_utf8 d ++ encode_utf8_all cs) is ∙ ap (λ t. t ++ encode_utf8_all cs) (encode_ascii 27 (lit< tt)) in
    subst HasNoEscapeByte first none 0 (omega arith) refl)))
    (no_escape_in cs
    (λ i within. subst (λ b. b ≢ 27) (get_or-append-add (encode_utf8 c) (encode_utf8_all cs) i 0)
    (none (length (encode_utf8 c) + i) (omega (arith, length-append (encode_utf8 c) (encode_utf8_all cs))))))

pub no_escape_chars : (bytes : List ℕ) → IsUtf8 bytes → HasNoEscapeByte bytes → has_no_escape (chars bytes) ≡ true
no_escape_chars bytes u none = no_escape_in (chars bytes) (subst HasNoEscapeByte (sym (encodes-chars bytes u)) none)

-- a text that is cut at an escape character
pub cut_chars : (bytes front behind : List ℕ) → IsUtf8 front → IsUtf8 behind → bytes ≡ front ++ 27 ∷ behind
    → chars bytes ≡ chars front ++ 27 ∷ chars behind
cut_chars bytes front behind u v e =
    let escape : 27 ∷ behind ≡ encode_utf8 27 ++ behind = ap (λ t. t ++ behind) (sym (encode_ascii 27 (lit< tt))) in
    let w : IsUtf8 (27 ∷ behind) =
    subst IsUtf8 (sym escape) (IsUtf8-append (encode_utf8 27) behind (IsUtf8-encode 27 (search rules)) v) in
    ap chars e ∙ chars-append front (27 ∷ behind) u
    ∙ ap (λ t. chars front ++ t) (chars_past_char (27 ∷ behind) behind 27 w escape)

-- what a text is cut into there is text
pub record AreTexts (front behind : List ℕ) : Type 0 where
  pub front_text : IsUtf8 front
  pub behind_text : IsUtf8 behind

pub cut_texts : (bytes front behind : List ℕ) → IsUtf8 bytes → bytes ≡ front ++ 27 ∷ behind → AreTexts front behind
cut_texts bytes front behind u e =
    let n = length front in
    let within : n < length bytes = omega (arith, ap length e, length-append front (27 ∷ behind)) in
    let there : get_or bytes n 0 ≡ 27 = ap (λ t. get_or t n 0) e ∙ get_or-append_seam front 27 behind 0 in
    let first : take n bytes ≡ front = ap (take n) e ∙ take-append_seam front (27 ∷ behind) in
    let last : drop (n + 1) bytes ≡ behind = ap (drop (n + 1)) e ∙ drop-append-add front (27 ∷ behind) 1 in
    record {
      front_text = subst IsUtf8 first (IsUtf8-take bytes n u (IsCharBoundary-before_ascii bytes n within (omega (arith, there))));
      behind_text = subst IsUtf8 last (IsUtf8-drop bytes (n + 1) u (IsCharBoundary-after_ascii bytes n u within (omega (arith, there))));
    }

-- ---- slices

-- those from the start
pub front_is : (text : List ℕ) (n : ℕ) → slice_range text 0 n ≡ take n text
front_is text n = ap (λ k. take k text) (sub-zero n)

-- those to the end
pub back_is : (text : List ℕ) (n : ℕ) → slice_range text n (length text) ≡ drop n text
back_is text n = ap (λ k. take k (drop n text)) (sym (length-drop n text)) ∙ take-length (drop n text)

-- ---- runs of characters of ASCII

-- a text may be cut behind characters that are ASCII
pub run_boundary : (test : ℕ → Bool) → ((c : ℕ) → test c ≡ true → c < 128) → (text : List ℕ) (end : ℕ)
    → end ≡ prefix_len test text → IsUtf8 text → IsCharBoundary text end
run_boundary test low text zero e u = IsCharBoundary-start text u
run_boundary test low text (suc m) e u =
    let more : m + 1 ≡ suc m = omega arith in
    let one : test (get_or text m 0) ≡ true = prefix_len_passes test text m 0 (omega (arith, e)) in
    subst (IsCharBoundary text) more
    (IsCharBoundary-after_ascii text m u (omega (arith, e, prefix_len-le-length test text)) (low _ one))
