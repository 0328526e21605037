-- The rows of a group, each by a name, from top to bottom. A line with labels has a source row and,
-- for each line label with a message, an alternate row (underlines and verticals) and an arrow row
-- (the arrow to the message). A line whose labels have no message may have an alternate row behind
-- all ranks, with their underlines alone. A run of lines without labels has one row in its place, or
-- none.
use Rattle.std.specs.Prelude.{ℕ, ◌+◌, ◌-◌, ◌*◌, Bool, not, ◌&&◌, nat_le, nat_lt}
use Rattle.std.specs.Prelude.{if◌then◌else◌, List, [], ◌∷◌, ◌++◌, map, length}
use Rattle.std.specs.List.{list_any, enumerate_from}
use Rattle.std.specs.Ordering.{is_lt, nat_cmp}
use Rattle.std.specs.Cmp.Lexicographic.{slice_cmp}
use Rattle.std.specs.Str.Lines.{lines}
use Rattle.ariadne_base.specs.Locations.{line_offset, upto}
use Rattle.ariadne_picture.specs.declared.label_info.LineLabel.{LineLabel}
use Rattle.ariadne_picture.specs.declared.switches.Switches.{Switches}
use Rattle.ariadne_picture.specs.Lists.{joined}
use Rattle.ariadne_picture.specs.Ranks.{Sheet, is_hidden_line, line_labels, is_on_one_line, first_line, group_lines}

-- what stands below the lines of the last group
pub data Aside : Type 0 where
  help : Aside
  note : Aside

-- the name of a row
pub data Row : Type 0 where
  -- the group header, and the row below it
  group_header : Row
  spacer : Row
  -- line l; the two rows of its line label of rank r; the two rows in place of hidden lines from l
  -- on
  source : ℕ → Row
  alternate : ℕ → ℕ → Row
  arrow : ℕ → ℕ → Row
  gap : ℕ → Row
  bare : ℕ → Row
  -- the row above help or note number k, and piece n of it
  blank : Aside → ℕ → Row
  piece : Aside → ℕ → ℕ → Row
  tail : Row

-- ---- which row stands before which: by part of the group, then by line or number, then by step

-- helps stand before notes
unfoldable pub aside_part : Aside → ℕ
aside_part help = 3
aside_part note = 4

-- the part of its group that a row belongs to; its line, or the number of its help or note; which row
-- of these it is
unfoldable pub row_key : Row → List ℕ
row_key group_header = 0 ∷ 0 ∷ 0 ∷ []
row_key spacer = 1 ∷ 0 ∷ 0 ∷ []
row_key (source l) = 2 ∷ l ∷ 0 ∷ []
row_key (alternate l r) = 2 ∷ l ∷ (2 * r + 1) ∷ []
row_key (arrow l r) = 2 ∷ l ∷ (2 * r + 2) ∷ []
row_key (gap l) = 2 ∷ l ∷ 0 ∷ []
row_key (bare l) = 2 ∷ l ∷ 0 ∷ []
row_key (blank a k) = aside_part a ∷ k ∷ 0 ∷ []
row_key (piece a k n) = aside_part a ∷ k ∷ (n + 1) ∷ []
row_key tail = 5 ∷ 0 ∷ 0 ∷ []

-- row a stands before row b
unfoldable pub before : Row → Row → Bool
before a b = is_lt (slice_cmp nat_cmp (row_key a) (row_key b))

-- ---- which rows there are

-- the rows of the line label of rank r
unfoldable pub label_rows : Bool → ℕ → ℕ × LineLabel → List Row
label_rows compact l e =
    if e.1.info.has_message then (if compact then [] else alternate l e.0 ∷ []) ++ arrow l e.0 ∷ []
    else []

-- these labels of a line have a row of underlines alone: one holds a character, and none has a message
abbrev pub are_lone : Switches → List LineLabel → Bool
are_lone switches labels =
    switches.lone_underlines && switches.underlines && not switches.compact
    && list_any (λ x. nat_lt x.info.start x.info.end) labels
    && not (list_any (λ x. x.info.has_message) labels)

-- so do those of line l
unfoldable pub is_lone : Sheet → ℕ → Bool
is_lone h l = are_lone h.switches (line_labels h.labels l)

-- that row, behind those of all ranks
unfoldable pub lone_rows : Sheet → ℕ → List Row
lone_rows h l = if is_lone h l then alternate l (length (line_labels h.labels l)) ∷ [] else []

-- whether the first character of line l lies inside a multi-line label
unfoldable pub is_inside : Sheet → ℕ → Bool
is_inside h l =
    let o = line_offset length h.lines l in
    list_any (λ a. not (is_on_one_line a) && nat_le a.start o && nat_lt o a.end) h.labels

-- the rows of line l; of a run of hidden lines only the first has one
unfoldable pub line_rows : Sheet → ℕ → List Row
line_rows h l =
    if is_hidden_line h l then
    (if nat_lt (first_line h) l && is_hidden_line h (l - 1) then []
    else if is_inside h l then gap l ∷ []
    else if h.switches.compact then [] else bare l ∷ [])
    else source l
    ∷ joined (label_rows h.switches.compact l) (enumerate_from 0 (line_labels h.labels l)) ++ lone_rows h l

-- the rows of a help or a note
unfoldable pub aside_rows : Bool → Aside → ℕ × List ℕ → List Row
aside_rows compact a e =
    (if compact then [] else blank a e.0 ∷ []) ++ map (piece a e.0) (upto (length (lines e.1)))

-- the rows of all helps, or of all notes
unfoldable pub asides : Bool → Aside → List (List ℕ) → List Row
asides compact a texts = joined (aside_rows compact a) (enumerate_from 0 texts)

-- the rows of a group; helps and notes stand in the last one
unfoldable pub rows : Sheet → Bool → List (List ℕ) → List (List ℕ) → List Row
rows h is_last helps notes =
    let compact = h.switches.compact in
    group_header ∷ (if compact then [] else spacer ∷ []) ++ joined (line_rows h) (group_lines h)
    ++ (if is_last then asides compact help helps ++ asides compact note notes else [])
    ++ (if compact then [] else tail ∷ [])
