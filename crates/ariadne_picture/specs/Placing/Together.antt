-- The rows belong together as the placing says.
use Rattle.std.specs.Prelude.{ℕ, ◌+◌, Bool, true, not, ◌&&◌, ◌||◌, ◌==◌, nat_le, nat_lt, if◌then◌else◌}
use Rattle.std.specs.Prelude.{List, [], ◌∷◌, ◌++◌, length, map, drop, codes, decimal}
use Rattle.std.specs.List.{list_all, prefix_len}
use Rattle.std.specs.Cmp.Lexicographic.{pointwise}
use Rattle.ariadne_picture.specs.declared.label_info.LabelInfo.{LabelInfo}
use Rattle.ariadne_picture.specs.declared.cell.Glyph.TheVariants.{Vbar}
use Rattle.ariadne_picture.specs.Lists.{joined, all_numbered}
use Rattle.ariadne_picture.specs.Groups.{printed_number}
use Rattle.ariadne_picture.specs.Ranks.{gutter_labels}
use Rattle.ariadne_picture.specs.Strokes.{is_at_margin}
use Rattle.ariadne_picture.specs.Pieces.{Section, glyph_text}
use Rattle.ariadne_picture.specs.Canvas.{Cell}
use Rattle.ariadne_picture.specs.Placing.Cells.{is_text, is_blank}
use Rattle.ariadne_picture.specs.Placing.Group.{set_of, shown_lines, messages_of, shown_cells}
use Rattle.ariadne_picture.specs.Placing.Rows.{Placing, cell_at, text_cells, block_rows}

-- a text without the blanks in front
unfoldable pub unindented : List ℕ → List ℕ
unindented text = drop (prefix_len (λ c. c == 32) text) text

-- a test holds of each number with all that follow it
unfoldable pub all_pairs : (ℕ → ℕ → Bool) → List ℕ → Bool
all_pairs test [] = true
all_pairs test (n ∷ ns) = list_all (test n) ns && all_pairs test ns

module _ (canvas : List (List Cell)) (sections : List Section) (p : Placing) where
  -- row n begins with one blank, then its margin, blanks and this text, and, if not compact, one
  -- blank
  unfoldable pub has_margin : Section → List ℕ → ℕ → Bool
  has_margin s text n =
      is_blank (cell_at canvas n 0) && is_text (unindented (cell_at canvas n 1).text) text
      && (s.sheet.switches.compact || is_blank (cell_at canvas n 2))

  -- row n shows line l: its number in the margin, and its characters
  unfoldable pub is_source_row : Section → ℕ → ℕ → Bool
  is_source_row s l n =
      let number = decimal (printed_number s.display_offset l) in
      has_margin s (number ++ codes " " ++ glyph_text (set_of s) Vbar) n
      && pointwise is_text (map (λ c. c.text) (text_cells canvas s n))
      (map (λ c. c.text) (shown_cells s.sheet l))

  -- row n is one of group g
  unfoldable pub is_in_group : ℕ → ℕ → Bool
  is_in_group g n = nat_le (p.start g) n && nat_lt n (p.start (g + 1))

  -- row n is one of the block of line l
  unfoldable pub is_in_block : ℕ → ℕ → ℕ → Bool
  is_in_block g l n = nat_lt (p.source_row g l) n && nat_le n (p.source_row g l + p.block_len g l)

  module _ (g : ℕ) (s : Section) where
    -- line l and its block stand within their group, and the margins of its block have no number
    unfoldable pub is_line_placed : ℕ → Bool
    is_line_placed l =
        is_in_group g (p.source_row g l) && is_source_row s l (p.source_row g l)
        && list_all (λ n. is_in_group g n && has_margin s (glyph_text (set_of s) Vbar) n)
        (block_rows p g l)

    -- gutter label i, which is a, has its head beside its start line or below it
    unfoldable pub is_gutter_label_placed : ℕ → LabelInfo → Bool
    is_gutter_label_placed i a =
        if is_at_margin s.sheet a.start_line i then p.head_row g i == p.source_row g a.start_line
        else is_in_block g a.start_line (p.head_row g i)

    -- the lines stand in their order, and each message below the line where its label ends
    unfoldable pub is_group_placed : Bool
    is_group_placed =
        nat_le (p.start g) (p.start (g + 1)) && all_pairs nat_lt (map (p.source_row g) (shown_lines s))
        && list_all is_line_placed (shown_lines s)
        && list_all (λ a. is_in_block g a.end_line (p.message_row a.position)) (messages_of s)
        && all_numbered is_gutter_label_placed (gutter_labels s.sheet.labels)

  -- the groups follow one another and are all rows but the header, and two messages have two rows
  unfoldable pub is_placing : Bool
  is_placing =
      (p.start 0 == 1) && (p.start (length sections) == length canvas)
      && all_numbered is_group_placed sections && all_pairs (λ n m. not (n == m))
      (joined (λ s. map (λ a. p.message_row a.position) (messages_of s)) sections)
