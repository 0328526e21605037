-- Letters in a line: at a place, or further on.
use Rattle.std.proofs.Common.{◌≡◌, ◌∙◌, ℕ, ◌+◌, ◌<◌, ◌≤◌, ◌==◌, Bool, true, false, cond, ◌&&◌, List, ◌∷◌, drop, get_or, length, sym, ap}
use Rattle.std.proofs.lemmas.List.{at_drop_more, at_drop_all}
use Rattle.std.specs.Prelude.{Some, None}
use Rattle.ariadne_matchers.specs.QuotedMarks.{begin_line, found_in, same_letters}

-- ---- at the start of a line

module _ (letters line : List ℕ) (place d e : ℕ) (within : place < length letters) where
  -- one more letter is the same
  pub same_more : place < length line
      → begin_line (drop place letters) (drop place line)
      ≡ (same_letters (get_or line place e) (get_or letters place d) && begin_line (drop (place + 1) letters) (drop (place + 1) line))
  same_more there =
      at_drop_more (λ rest. begin_line rest (drop place line)) letters place d within
      ∙ at_drop_more (λ rest. begin_line (get_or letters place d ∷ drop (place + 1) letters) rest) line place e there

  -- the line has none there
  pub same_short : length line ≤ place → begin_line (drop place letters) (drop place line) ≡ false
  same_short end =
      at_drop_more (λ rest. begin_line rest (drop place line)) letters place d within
      ∙ at_drop_all (λ rest. begin_line (get_or letters place d ∷ drop (place + 1) letters) rest) line place end

-- no letter is left
pub same_all : (letters line : List ℕ) (place : ℕ) → length letters ≤ place → begin_line (drop place letters) (drop place line) ≡ true
same_all letters line place end = at_drop_all (λ rest. begin_line rest (drop place line)) letters place end

-- ---- anywhere in it

module _ (letters line : List ℕ) (place d : ℕ) (within : place < length line) where
  found_at : found_in letters place (drop place line)
      ≡ cond (begin_line letters (drop place line)) (Some place) (found_in letters (place + 1) (drop (place + 1) line))
  unfolding found_in
  found_at =
      at_drop_more (found_in letters place) line place d within
      ∙ ap (λ (b : Bool). cond b (Some place) (found_in letters (place + 1) (drop (place + 1) line)))
      (sym (at_drop_more (begin_line letters) line place d within))

  -- they stand there
  pub found_here : begin_line letters (drop place line) ≡ true → found_in letters place (drop place line) ≡ Some place
  found_here here = found_at ∙ ap (λ (b : Bool). cond b (Some place) (found_in letters (place + 1) (drop (place + 1) line))) here

  -- or further on
  pub found_later : begin_line letters (drop place line) ≡ false
      → found_in letters place (drop place line) ≡ found_in letters (place + 1) (drop (place + 1) line)
  found_later other = found_at ∙ ap (λ (b : Bool). cond b (Some place) (found_in letters (place + 1) (drop (place + 1) line))) other

-- at the end only none stand
pub found_end : (letters line : List ℕ) (place : ℕ) → length line ≤ place
    → found_in letters place (drop place line) ≡ cond (length letters == 0) (Some place) None
unfolding found_in
found_end letters line place end = at_drop_all (found_in letters place) line place end
