-- A line in units, character by character.
use Rattle.std.proofs.Common.{◌≡◌, ◌∙◌, ap, sym, ℕ, ◌+◌, ◌<◌, ◌≤◌, List, [], ◌∷◌, ◌++◌, drop, length, get_or, append_assoc, length-append}
use Rattle.std.proofs.lemmas.List.{append-nil, at_drop_more, at_drop_all, length-replicate}
use Rattle.ariadne_snippets.specs.Units.{count_of, in_units, sign_of, unit_begins, units_of}
use Rattle.ariadne_snippets.specs.declared.units.Units.{Units}

module _ (units : Units) (line : List ℕ) (i c : ℕ) (lt : i < length line) (is : c ≡ get_or line i c) where
  -- its units stand in front of those of the rest
  next_units : in_units units (drop i line) ≡ units_of units c ++ in_units units (drop (i + 1) line)
  unfolding in_units
  next_units =
      at_drop_more (λ xs. in_units units xs) line i c lt
      ∙ ap (λ x. in_units units (x ∷ drop (i + 1) line)) (sym is)

  pub units_past : (chars pushed all : List ℕ) → pushed ≡ chars ++ units_of units c
      → chars ++ in_units units (drop i line) ≡ all → pushed ++ in_units units (drop (i + 1) line) ≡ all
  units_past chars pushed all push so_far =
      ap (λ xs. xs ++ in_units units (drop (i + 1) line)) push
      ∙ append_assoc chars (units_of units c) (in_units units (drop (i + 1) line))
      ∙ ap (λ xs. chars ++ xs) (sym next_units)
      ∙ so_far

  -- it begins where they do, and the rest behind them
  next_begins : (at : ℕ)
      → unit_begins units at (drop i line) ≡ at ∷ unit_begins units (at + count_of units c) (drop (i + 1) line)
  unfolding unit_begins
  next_begins at =
      at_drop_more (λ xs. unit_begins units at xs) line i c lt
      ∙ ap (λ x. unit_begins units at (x ∷ drop (i + 1) line)) (sym is)

  pub begins_past : (chars pushed begins begun all : List ℕ) → pushed ≡ chars ++ units_of units c
      → begun ≡ begins ++ length chars ∷ [] → begins ++ unit_begins units (length chars) (drop i line) ≡ all
      → begun ++ unit_begins units (length pushed) (drop (i + 1) line) ≡ all
  begins_past chars pushed begins begun all push begin so_far =
      let count : length pushed ≡ length chars + count_of units c =
      ap length push ∙ length-append chars (units_of units c)
      ∙ ap (λ n. length chars + n) (length-replicate (count_of units c) (sign_of units c)) in
      ap (λ xs. xs ++ unit_begins units (length pushed) (drop (i + 1) line)) begin
      ∙ append_assoc begins (length chars ∷ []) (unit_begins units (length pushed) (drop (i + 1) line))
      ∙ ap (λ n. begins ++ (length chars ∷ unit_begins units n (drop (i + 1) line))) count
      ∙ ap (λ xs. begins ++ xs) (sym (next_begins (length chars)))
      ∙ so_far

-- behind the last there are no more
pub units_end : (units : Units) (line : List ℕ) (i : ℕ) (chars all : List ℕ) → length line ≤ i
    → chars ++ in_units units (drop i line) ≡ all → chars ≡ all
unfolding in_units
units_end units line i chars all end so_far =
    sym (append-nil chars)
    ∙ ap (λ xs. chars ++ xs) (sym (at_drop_all (λ xs. in_units units xs) line i end))
    ∙ so_far

-- and the end begins there
pub begins_end : (units : Units) (line : List ℕ) (i at : ℕ) (begins begun all : List ℕ) → length line ≤ i
    → begun ≡ begins ++ at ∷ [] → begins ++ unit_begins units at (drop i line) ≡ all → begun ≡ all
unfolding unit_begins
begins_end units line i at begins begun all end begin so_far =
    begin ∙ ap (λ xs. begins ++ xs) (sym (at_drop_all (λ xs. unit_begins units at xs) line i end)) ∙ so_far
