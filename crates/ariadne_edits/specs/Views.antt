-- What a row shows of a line, where lines may take a width at most. If a line or its counterpart takes more
-- columns, both are cut around their first difference: what they have in common in front of it takes half
-- of the width at most, and what differs the rest. So the difference is shown, and in front of it both are
-- cut alike. Texts are lists of characters, as they are printed.
use Rattle.std.specs.Prelude.{ℕ, ◌+◌, ◌-◌, ◌*◌, ◌/◌, max, ◌≡◌, ◌⊎◌, ◌==◌, ◌&&◌, nat_le, nat_lt, if◌then◌else◌}
use Rattle.std.specs.Prelude.{List, [], ◌∷◌, ◌++◌, drop, take, codes, Option, Some, None}
use Rattle.ariadne_base.specs.Locations.{line_text}
use Rattle.ariadne_picture.specs.Columns.{char_columns}
use Rattle.ariadne_picture.specs.declared.switches.CharSet.{CharSet}
use Rattle.ariadne_picture.specs.declared.switches.CharSet.TheVariants.{Unicode, Ascii}
use Rattle.ariadne_edits.specs.declared.cut.View.{View}
use Rattle.ariadne_edits.specs.declared.rows.Blanks.{Blanks}
use Rattle.ariadne_edits.specs.Bodies.{body}

-- ---- parts of a text

-- the columns of a text
abbrev pub columns_in : List ℕ → ℕ
columns_in [] = 0
columns_in (c ∷ text) = char_columns c + columns_in text

-- how many characters two texts have in common in front
abbrev pub common_len : List ℕ → List ℕ → ℕ
common_len [] other = 0
common_len (c ∷ text) [] = 0
common_len (c ∷ text) (d ∷ other) = if c == d then 1 + common_len text other else 0

-- the most of the first characters that fit into n columns
abbrev pub first_fitting : ℕ → List ℕ → List ℕ
first_fitting n [] = []
first_fitting n (c ∷ text) =
    if nat_le (char_columns c) n then c ∷ first_fitting (n - char_columns c) text else []

-- the most of the last characters that fit into n columns. The first of them takes columns: one that takes
-- none, as an accent, goes on with the character in front of it
abbrev pub last_fitting : ℕ → List ℕ → List ℕ
last_fitting n [] = []
last_fitting n (c ∷ text) =
    if nat_le (columns_in (c ∷ text)) n && nat_lt 0 (char_columns c) then c ∷ text
    else last_fitting n text

-- ---- a text that is cut

-- the mark in place of what is left out
abbrev pub cut_mark : CharSet → List ℕ
cut_mark Unicode = 0x2026 ∷ []
cut_mark Ascii = codes "..."

abbrev pub mark_width : CharSet → ℕ
mark_width set = columns_in (cut_mark set)

-- a text in n columns: if it takes more, the mark and its last characters
unfoldable pub cut_in_front : CharSet → ℕ → List ℕ → List ℕ
cut_in_front set n text =
    if nat_le (columns_in text) n then text
    else cut_mark set ++ last_fitting (n - mark_width set) text

-- the same, but its first characters and the mark
unfoldable pub cut_behind : CharSet → ℕ → List ℕ → List ℕ
cut_behind set n text =
    if nat_le (columns_in text) n then text
    else first_fitting (n - mark_width set) text ++ cut_mark set

-- what two texts have in common in front, in half of n columns
abbrev pub front_shown : CharSet → ℕ → List ℕ → List ℕ → List ℕ
front_shown set n text other = cut_in_front set (n / 2) (take (common_len text other) text)

-- a text in n columns, of a pair: if one takes more, what they have in common, and what differs in the rest
unfoldable pub fitted : CharSet → ℕ → List ℕ → List ℕ → List ℕ
fitted set n text other =
    if nat_le (max (columns_in text) (columns_in other)) n then text
    else (let front = front_shown set n text other in
    front ++ cut_behind set (n - columns_in front) (drop (common_len text other) text))

-- ---- a line

-- the columns that a line may take: at least those of two marks
abbrev pub usable_width : View → ℕ
usable_width view = max view.width (2 * mark_width view.char_set)

-- what is shown of a line that has this counterpart. Without a width it is shown whole
unfoldable pub shown_line : View → Blanks → List ℕ → List ℕ → List ℕ
shown_line view blanks line other =
    if view.width == 0 then body view.tab_width blanks line
    else fitted view.char_set (usable_width view)
    (body view.tab_width blanks line) (body view.tab_width blanks other)

-- the text of a counterpart, or nothing where there is none
abbrev pub text_of_counterpart : List (List ℕ) → Option ℕ → List ℕ
text_of_counterpart lines None = []
text_of_counterpart lines (Some j) = line_text lines j

-- ---- what follows

-- of a text in n columns the first character that differs from another is shown: right behind what the
-- texts have in common, or behind what is shown of that
pub record ShowsDifference (set : CharSet) (n : ℕ) (text other : List ℕ) (c : ℕ) : Type 0 where
  pub front : List ℕ
  pub more : List ℕ
  pub shown : fitted set n text other ≡ front ++ c ∷ more
  pub common : (front ≡ take (common_len text other) text) ⊎ (front ≡ front_shown set n text other)
