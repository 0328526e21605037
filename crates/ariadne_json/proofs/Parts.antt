-- Parts of texts, and pieces: each has a byte at least.
use Rattle.std.proofs.Common.{◌≡◌, ◌∙◌, ap, append_assoc, append-nil, refl, sym, arith, ℕ, ◌+◌, ◌<◌, ◌≤◌, ◌-◌, Bool, true, false, not, cond, eqb, List, [], ◌∷◌, ◌++◌, drop, length, min, take}
use Rattle.std.specs.List.{flat_map, prefix_len}
use Rattle.std.specs.Prelude.{nat_le, slice_index}
use Rattle.std.proofs.lemmas.Bool.Decides.{nat_tests}
use Rattle.std.proofs.lemmas.List.{drop_all, get_or-take, take_min}
use Rattle.ariadne_json.specs.Cuts.{pieces}
use Rattle.ariadne_json.specs.Escapes.{mended_part, mended_text, part_len}
use Rattle.ariadne_json.specs.Mended.{all_written, closes, depth_behind, opens, written}
use Rattle.ariadne_json.specs.Pieces.{is_of_number, piece_len, text_len}
use Rattle.ariadne_json.proofs.Cutting.{first_piece, no_piece}

some_of : (b : Bool) (n m : ℕ) → 0 < n → 0 < m → 0 < cond b n m
some_of true n m p q = p
some_of false n m p q = q

-- ---- parts

plain_some : (b : Bool) (n : ℕ) → 0 < cond b 2 (cond (not b) (1 + n) 0)
plain_some true n = omega arith
plain_some false n = omega arith

part_some : (t : List ℕ) → 0 < length t → 0 < part_len t
unfolding part_len
part_some [] some = absurd (omega arith)
part_some (x ∷ t) some =
    some_of _ 12 _ (omega arith) (some_of _ 6 _ (omega arith) (plain_some (eqb x 92) (prefix_len (λ b. not (eqb b 92)) t)))

drop_by : (n : ℕ) (t : List ℕ) (b : Bool) → nat_le n (length t) ≡ b → drop (min n (length t)) t ≡ drop n t
drop_by n t true is =
    let le : n ≤ length t = grind (arith, nat_tests) in
    ap (λ k. drop k t) (omega arith)
drop_by n t false is =
    let le : length t ≤ n = grind (arith, nat_tests) in
    let all : min n (length t) ≡ length t = omega arith in
    ap (λ k. drop k t) all ∙ drop_all (length t) t (omega arith) ∙ sym (drop_all n t le)

drop_min : (n : ℕ) (t : List ℕ) → drop (min n (length t)) t ≡ drop n t
drop_min n t = drop_by n t (nat_le n (length t)) refl

-- one part more
text_more : (t : List ℕ) (k : ℕ) → 0 < length t → k ≡ min (part_len t) (length t)
    → mended_text t ≡ mended_part (take k t) ++ mended_text (drop k t)
text_more t k some is =
    ap (flat_map mended_part) (first_piece part_len t part_some some)
    ∙ ap (λ p. mended_part p ++ mended_text (drop (part_len t) t)) (sym (ap (λ n. take n t) is ∙ take_min (part_len t) t))
    ∙ ap (λ r. mended_part (take k t) ++ mended_text r) (sym (ap (λ n. drop n t) is ∙ drop_min (part_len t) t))

module _ (out : List ℕ) (t whole : List ℕ) (before : out ++ mended_text t ≡ whole) where
  pub part_on : (more part behind : List ℕ) (k : ℕ) → more ≡ out ++ mended_part part → part ≡ take k t → behind ≡ drop k t
      → k ≡ min (part_len t) (length t) → 0 < length t → more ++ mended_text behind ≡ whole
  part_on more part behind k added front back is some =
      ap (λ o. o ++ mended_text behind) added ∙ append_assoc out (mended_part part) (mended_text behind)
      ∙ ap (λ x. out ++ x)
      (ap (λ p. mended_part p ++ mended_text behind) front ∙ ap (λ b. mended_part (take k t) ++ mended_text b) back
      ∙ sym (text_more t k some is))
      ∙ before

  -- and none
  pub part_end : length t ≡ 0 → out ≡ whole
  part_end none =
      sym (append-nil out) ∙ ap (λ x. out ++ x) (sym (ap (flat_map mended_part) (no_piece part_len t none))) ∙ before

-- ---- pieces

piece_some : (t : List ℕ) → 0 < length t → 0 < piece_len t
unfolding piece_len
piece_some [] some = absurd (omega arith)
piece_some (x ∷ t) some =
    some_of (eqb x 34) (1 + text_len false t) (cond (is_of_number x) (1 + prefix_len is_of_number t) 1) (omega arith)
    (some_of (is_of_number x) (1 + prefix_len is_of_number t) 1 (omega arith) (omega arith))

-- the byte that a piece begins with
first_of : (t others : List ℕ) (first k : ℕ) → t ≡ first ∷ others → 0 < k → slice_index (take k t) 0 ≡ first
first_of t others first k is some = get_or-take k t 0 0 some ∙ ap (λ s. slice_index s 0) is

low_behind : (b c : Bool) (depth : ℕ) → cond b (depth + 1) (cond c (depth - 1) depth) ≤ depth + 1
low_behind true c depth = omega arith
low_behind false true depth = omega arith
low_behind false false depth = omega arith

pub depth_low : (depth first : ℕ) → depth_behind depth first ≤ depth + 1
depth_low depth first = low_behind (opens first) (closes first) depth

module _ (out : List ℕ) (t whole : List ℕ) (depth : ℕ) (before : out ++ all_written depth (pieces piece_len t) ≡ whole) where
  pub piece_on : (more piece behind others : List ℕ) (first deeper k : ℕ) → more ≡ out ++ written depth piece → piece ≡ take k t
      → behind ≡ drop k t → k ≡ piece_len t → t ≡ first ∷ others → deeper ≡ depth_behind depth first
      → more ++ all_written deeper (pieces piece_len behind) ≡ whole
  piece_on more piece behind others first deeper k added front back is begun deep =
      let some : 0 < length t = omega (arith, ap length begun) in
      let long : 0 < k = omega (arith, is, piece_some t some) in
      let rest : List ℕ = all_written deeper (pieces piece_len behind) in
      let cut : pieces piece_len t ≡ take k t ∷ pieces piece_len (drop k t) =
      first_piece piece_len t piece_some some ∙ ap (λ n. take n t ∷ pieces piece_len (drop n t)) (sym is) in
      let same : written depth piece ++ rest ≡ all_written depth (take k t ∷ pieces piece_len (drop k t)) =
      ap (λ p. written depth p ++ rest) front
      ∙ ap (λ b. written depth (take k t) ++ all_written deeper (pieces piece_len b)) back
      ∙ ap (λ d. written depth (take k t) ++ all_written d (pieces piece_len (drop k t)))
      (deep ∙ ap (depth_behind depth) (sym (first_of t others first k begun long))) in
      ap (λ o. o ++ rest) added ∙ append_assoc out (written depth piece) rest
      ∙ ap (λ x. out ++ x) (same ∙ sym (ap (all_written depth) cut)) ∙ before

  pub piece_end : length t ≡ 0 → out ≡ whole
  piece_end none =
      sym (append-nil out) ∙ ap (λ x. out ++ x) (sym (ap (all_written depth) (no_piece piece_len t none))) ∙ before
