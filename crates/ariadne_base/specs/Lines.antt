-- The lines of a text. Seven characters end a line, and a CR with the LF behind it ends it
-- together. A line keeps its terminator. A text that ends in one has no further line, and the empty
-- text has one empty line. Texts and lines are lists of characters here.
use Rattle.std.specs.Prelude.{ℕ, ◌≡◌, Bool, true, false, not, ◌&&◌, ◌||◌, ◌==◌, cond, nat_le, List}
use Rattle.std.specs.Prelude.{[], ◌∷◌, flat_map}

-- CR, LF, U+000B, U+000C, U+0085, U+2028 and U+2029
unfoldable pub is_separator : ℕ → Bool
is_separator c = (nat_le 10 c && nat_le c 13) || (c == 0x85) || (c == 0x2028) || (c == 0x2029)

-- ---- which lists are the lines of a text: a condition on the whole list

-- a text begins with a character that this holds of
abbrev pub BeginsIn : (ℕ → Type 0) → List ℕ → Type 0
BeginsIn P [] = ⊥
BeginsIn P (c ∷ t) = P c

-- a text ends in a character that this holds of
abbrev pub EndsIn : (ℕ → Type 0) → List ℕ → Type 0
EndsIn P [] = ⊥
EndsIn P (c ∷ []) = P c
EndsIn P (c ∷ d ∷ t) = EndsIn P (d ∷ t)

-- a separator before another character of its line is the CR of a last CR LF
abbrev pub HasNoSeparatorInside : List ℕ → Type 0
HasNoSeparatorInside [] = Unit {0}
HasNoSeparatorInside (c ∷ []) = Unit {0}
HasNoSeparatorInside (c ∷ d ∷ t) =
    (is_separator c ≡ true → (c ≡ 13) × (d ≡ 10) × (t ≡ [])) × HasNoSeparatorInside (d ∷ t)

-- the second text begins with the LF of a CR LF whose CR ends the first
abbrev pub CutsCrLf : List ℕ → List ℕ → Type 0
CutsCrLf l m = EndsIn (λ c. c ≡ 13) l × BeginsIn (λ c. c ≡ 10) m

-- no line is empty, each but the last ends in a separator, and no CR LF is cut
abbrev pub AreFullLines : List (List ℕ) → Type 0
AreFullLines [] = ⊥
AreFullLines (l ∷ []) = HasNoSeparatorInside l × BeginsIn (λ c. Unit {0}) l
AreFullLines (l ∷ m ∷ ls) =
    HasNoSeparatorInside l × EndsIn (λ c. is_separator c ≡ true) l × ¬ (CutsCrLf l m)
    × AreFullLines (m ∷ ls)

-- the lines of a text join to it; only the empty text has an empty line
pub data AreLinesOf : List ℕ → List (List ℕ) → Type 0 where
  empty_line : AreLinesOf [] ([] ∷ [])
  full_lines : {t : List ℕ} {ls : List (List ℕ)} → AreFullLines ls → flat_map (λ l. l) ls ≡ t
      → AreLinesOf t ls

-- ---- the only such list

-- the first character is a line feed
unfoldable pub begins_with_line_feed : List ℕ → Bool
begins_with_line_feed [] = false
begins_with_line_feed (c ∷ t) = c == 10

-- whether c, before t, is the last character of its line
unfoldable pub ends_line : ℕ → List ℕ → Bool
ends_line c t = is_separator c && not ((c == 13) && begins_with_line_feed t)

-- lines whose first has one character more in front
unfoldable pub in_front : ℕ → List (List ℕ) → List (List ℕ)
in_front c [] = (c ∷ []) ∷ []
in_front c (l ∷ ls) = (c ∷ l) ∷ ls

-- the lines of a text that isn't empty
unfoldable pub full_lines_of : List ℕ → List (List ℕ)
full_lines_of [] = []
full_lines_of (c ∷ t) =
    cond (ends_line c t) ((c ∷ []) ∷ full_lines_of t) (in_front c (full_lines_of t))

-- the lines of a text
unfoldable pub lines_of : List ℕ → List (List ℕ)
lines_of [] = [] ∷ []
lines_of (c ∷ t) = full_lines_of (c ∷ t)
