-- The pieces of a line between its escapes.
use Rattle.std.proofs.Common.{◌≡◌, ◌∙◌, sym, ap, refl, arith}
use Rattle.std.proofs.Math.Dec.{eqb}
use Rattle.std.proofs.lemmas.Bool.{cases_Bool}
use Rattle.std.proofs.Common.{inl, inr}
use Rattle.std.proofs.lemmas.List.{append-nil, append_assoc, length-drop}
use Rattle.std.proofs.lemmas.List.Splits.{slice_split_first}
use Rattle.std.specs.Prelude.{ℕ, ◌+◌, ◌<◌, Bool, false, List, [], ◌∷◌, ◌++◌, length, Some, None}
use Rattle.std.specs.List.{flat_map, list_any, onto_first, position_or_len, slice_split}
use Rattle.ariadne_parse.specs.TextPieces.{split_once}
use Rattle.ariadne_parse.specs.Sgr.{bare_line, joined, without_sequence}
use Rattle.ariadne_parse.proofs.Texts.{split_none, split_parts_are}

-- a character is the escape
abbrev pub is_escape : ℕ → Bool
is_escape c = eqb c 27

-- what stands behind a mark is shorter
pub split_shorter : (mark : ℕ) (text front rest : List ℕ) → Some (front, rest) ≡ split_once mark text
    → length rest < length text
split_shorter mark text front rest e =
    let parts = split_parts_are mark text front rest e in
    omega (arith, parts.0, ap length parts.2, length-drop (position_or_len (λ b. eqb b mark) text + 1) text)

-- the first piece, and the others
pub split_first : (text front rest : List ℕ) → Some (front, rest) ≡ split_once 27 text
    → slice_split is_escape text ≡ front ∷ slice_split is_escape rest
split_first text front rest e =
    let parts = split_parts_are 27 text front rest e in
    slice_split_first is_escape text 0 parts.0
    ∙ (λ i. sym parts.1 i ∷ slice_split is_escape (sym parts.2 i))

-- the only piece
alone : (text : List ℕ) → position_or_len is_escape text ≡ length text → slice_split is_escape text ≡ text ∷ []
alone [] e = refl
alone (c ∷ text) e = elim (cases_Bool (is_escape c)) [
  | inl is ↦ let here = rw is at e in absurd (omega (arith, here))
  | inr other ↦
      let more = rw other at e in
      rw other (ap (onto_first c) (alone text (omega (arith, more))))
]

pub split_alone : (text : List ℕ) → None ≡ split_once 27 text → slice_split is_escape text ≡ text ∷ []
split_alone text e = alone text (split_none 27 text e)

plain : (text : List ℕ) → list_any is_escape text ≡ false → slice_split is_escape text ≡ text ∷ []
plain [] e = refl
plain (c ∷ text) e = elim (cases_Bool (is_escape c)) [
  | inl is ↦ let here = rw is at e in absurd (cc here)
  | inr other ↦ let more = rw other at e in rw other (ap (onto_first c) (plain text more))
]

-- a line without an escape is the same
pub bare_plain : (line : List ℕ) → list_any is_escape line ≡ false → bare_line line ≡ line
unfolding bare_line
bare_plain line e = ap joined (plain line e) ∙ append-nil line

-- a line of one piece
pub bare_alone : (line : List ℕ) → None ≡ split_once 27 line → line ≡ bare_line line
unfolding bare_line
bare_alone line e = sym (ap joined (split_alone line e) ∙ append-nil line)

-- a line of more
pub bare_more : (line front rest bare : List ℕ) → Some (front, rest) ≡ split_once 27 line
    → bare ≡ front ++ flat_map without_sequence (slice_split is_escape rest) → bare ≡ bare_line line
unfolding bare_line
bare_more line front rest bare e same = same ∙ sym (ap joined (split_first line front rest e))

-- one piece more
pub one_piece : (old new rest piece behind all : List ℕ) → Some (piece, behind) ≡ split_once 27 rest
    → new ≡ old ++ without_sequence piece
    → old ++ flat_map without_sequence (slice_split is_escape rest) ≡ all
    → new ++ flat_map without_sequence (slice_split is_escape behind) ≡ all
one_piece old new rest piece behind all e pushed same =
    ap (λ (xs : List ℕ). xs ++ flat_map without_sequence (slice_split is_escape behind)) pushed
    ∙ append_assoc old (without_sequence piece) (flat_map without_sequence (slice_split is_escape behind))
    ∙ ap (λ (ps : List (List ℕ)). old ++ flat_map without_sequence ps) (sym (split_first rest piece behind e))
    ∙ same

-- the last piece
pub last_piece : (old new rest all : List ℕ) → None ≡ split_once 27 rest
    → new ≡ old ++ without_sequence rest
    → old ++ flat_map without_sequence (slice_split is_escape rest) ≡ all → new ≡ all
last_piece old new rest all e pushed same =
    pushed ∙ ap (λ (xs : List ℕ). old ++ xs) (sym (append-nil (without_sequence rest)))
    ∙ ap (λ (ps : List (List ℕ)). old ++ flat_map without_sequence ps) (sym (split_alone rest e))
    ∙ same
