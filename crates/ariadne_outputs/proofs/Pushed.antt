-- What is added to a text, character by character.
use Rattle.std.proofs.Common.{◌≡◌, ◌∙◌, ℕ, List, [], ◌∷◌, ◌++◌, length, map, refl, ap, sym, append_assoc, append-nil}
use Rattle.std.specs.Prelude.{chars, encode_utf8, encode_utf8_all}
use Rattle.std.specs.List.{flat_map}
use Rattle.std.specs.Str.{IsUtf8}
use Rattle.std.proofs.lemmas.Str.{IsUtf8-past_char, chars-nil, chars_past_char, encodes-append}
use Rattle.std.proofs.lemmas.List.{nil_from_length}
use Rattle.ariadne_outputs.specs.Github.{escaped_code}
use Rattle.ariadne_outputs.specs.Passing.{line_code}
use Rattle.ariadne_outputs.specs.declared.github.Role.{Role}

-- what was added, and what stands for the rest of a text, is what stands for the text
pub record IsPushed (all : List ℕ → List ℕ) (text rest before shown : List ℕ) : Type 0 where
  pub whole : shown ++ all (chars rest) ≡ before ++ all (chars text)
  pub utf8 : IsUtf8 rest

-- at first nothing was
pub pushed_start : (all : List ℕ → List ℕ) (text shown : List ℕ) → IsUtf8 text → IsPushed all text text shown shown
pushed_start all text shown u = record { whole = refl; utf8 = u }

-- a character more, for which this stands
pub pushed_next : (all one : List ℕ → List ℕ) (text rest left before shown pushed : List ℕ) (c : ℕ)
    → ((cs : List ℕ) → all (c ∷ cs) ≡ one (c ∷ []) ++ all cs) → IsPushed all text rest before shown
    → rest ≡ encode_utf8 c ++ left → pushed ≡ shown ++ one (c ∷ []) → IsPushed all text left before pushed
pushed_next all one text rest left before shown pushed c more so_far cut push =
    let first : all (chars rest) ≡ one (c ∷ []) ++ all (chars left) =
    ap all (chars_past_char rest left c so_far.utf8 cut) ∙ more (chars left) in
    record {
      whole = ap (λ t. t ++ all (chars left)) push ∙ append_assoc shown (one (c ∷ [])) (all (chars left))
          ∙ ap (λ t. shown ++ t) (sym first) ∙ so_far.whole;
      utf8 = IsUtf8-past_char rest left c so_far.utf8 cut;
    }

-- all were, at the end
pub pushed_end : (all : List ℕ → List ℕ) (text rest before shown : List ℕ) → all [] ≡ []
    → IsPushed all text rest before shown → length rest ≡ 0 → shown ≡ before ++ all (chars text)
pushed_end all text rest before shown empty so_far over =
    let none : all (chars rest) ≡ [] =
    ap (λ t. all (chars t)) (nil_from_length rest over) ∙ ap all chars-nil ∙ empty in
    sym (append-nil shown) ∙ ap (λ t. shown ++ t) (sym none) ∙ so_far.whole

-- ---- of lines

-- what stands for characters of text
abbrev pub line_bytes : List ℕ → List ℕ
line_bytes cs = encode_utf8_all (map line_code cs)

abbrev pub shown_bytes : List ℕ → List ℕ
shown_bytes text = line_bytes (chars text)

pub line_more : (c : ℕ) (cs : List ℕ) → line_bytes (c ∷ cs) ≡ line_bytes (c ∷ []) ++ line_bytes cs
line_more c cs = ap (λ t. t ++ line_bytes cs) (sym (append-nil (encode_utf8 (line_code c))))

-- ---- of commands

-- what stands for characters of a command
abbrev pub command_bytes : Role → List ℕ → List ℕ
command_bytes role cs = encode_utf8_all (flat_map (escaped_code role) cs)

pub command_more : (role : Role) (c : ℕ) (cs : List ℕ)
    → command_bytes role (c ∷ cs) ≡ command_bytes role (c ∷ []) ++ command_bytes role cs
command_more role c cs =
    encodes-append (escaped_code role c) (flat_map (escaped_code role) cs)
    ∙ ap (λ t. encode_utf8_all t ++ command_bytes role cs) (sym (append-nil (escaped_code role c)))
