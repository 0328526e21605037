-- Text that is no command of GitHub's, character by character.
use Rattle.std.proofs.Common.{◌≡◌, ◌∙◌, ℕ, List, ◌++◌, length, refl, ap, sym}
use Rattle.std.specs.Prelude.{chars, encode_utf8}
use Rattle.std.specs.List.{fold}
use Rattle.std.specs.Str.{IsUtf8}
use Rattle.std.proofs.lemmas.Str.{IsUtf8-past_char, chars-nil, chars_past_char}
use Rattle.std.proofs.lemmas.List.{nil_from_length}
use Rattle.ariadne_outputs.specs.Github.{parted_by}

-- what was added, with the rest of a text behind it, is what stands for the text
pub record IsParted (text rest before safe : List ℕ) : Type 0 where
  pub whole : fold parted_by safe (chars rest) ≡ fold parted_by before (chars text)
  pub utf8 : IsUtf8 rest

-- at first nothing was
pub parted_start : (text safe : List ℕ) → IsUtf8 text → IsParted text text safe safe
parted_start text safe u = record { whole = refl; utf8 = u }

-- a character more
pub parted_next : (text rest left before safe pushed : List ℕ) (c : ℕ) → IsParted text rest before safe
    → rest ≡ encode_utf8 c ++ left → pushed ≡ parted_by safe c → IsParted text left before pushed
parted_next text rest left before safe pushed c so_far cut push = record {
  whole = ap (λ t. fold parted_by t (chars left)) push
      ∙ ap (fold parted_by safe) (sym (chars_past_char rest left c so_far.utf8 cut)) ∙ so_far.whole;
  utf8 = IsUtf8-past_char rest left c so_far.utf8 cut;
}

-- all were, at the end
pub parted_end : (text rest before safe : List ℕ) → IsParted text rest before safe → length rest ≡ 0
    → safe ≡ fold parted_by before (chars text)
parted_end text rest before safe so_far over =
    sym (ap (λ t. fold parted_by safe (chars t)) (nil_from_length rest over) ∙ ap (fold parted_by safe) chars-nil)
    ∙ so_far.whole
