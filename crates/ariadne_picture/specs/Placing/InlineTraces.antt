-- The clause on inline traces: from its message each label within one line is led to its attach
-- character, and its span is underlined.
use Rattle.std.specs.Prelude.{ℕ, ◌+◌, ◌-◌, Bool, not, ◌&&◌, ◌||◌, List}
use Rattle.std.specs.List.{list_all}
use Rattle.ariadne_picture.specs.declared.label_info.LabelInfo.{LabelInfo}
use Rattle.ariadne_picture.specs.declared.cell.Glyph.TheVariants.{Lbot}
use Rattle.ariadne_picture.specs.Lists.{all_numbered}
use Rattle.ariadne_picture.specs.Ranks.{is_on_one_line, is_inline}
use Rattle.ariadne_picture.specs.Columns.{layout_of}
use Rattle.ariadne_picture.specs.Pieces.{Section}
use Rattle.ariadne_picture.specs.Canvas.{Cell}
use Rattle.ariadne_picture.specs.Placing.Cells.{is_blank, is_glyph, is_level}
use Rattle.ariadne_picture.specs.Placing.Group.{set_of, shown_lines, messages_of, has_underlines}
use Rattle.ariadne_picture.specs.Placing.Rows.{Placing, holds_at_places, is_traced_at}

module _ (canvas : List (List Cell)) (sections : List Section) (p : Placing) where
  module _ (g : ℕ) (s : Section) where
    -- its corner stands at its attach place, a horizontal from there to its message, a vertical above
    unfoldable pub is_inline_traced : LabelInfo → Bool
    is_inline_traced a =
        let l = a.start_line in
        let n = p.message_row a.position in
        let holds = holds_at_places canvas p g s l n in
        holds a.attach (a.attach + 1) (is_glyph (set_of s) Lbot)
        && holds (a.attach + 1) (p.places g l) (is_level (set_of s))
        && is_traced_at canvas p g s l a.attach n

    -- right below line l each place in the span of a label within it is not blank, where underlines
    -- are drawn
    unfoldable pub is_underlined : ℕ → Bool
    is_underlined l =
        let y = layout_of s.sheet l in
        let holds = holds_at_places canvas p g s l (p.source_row g l + 1) in
        not (has_underlines s l)
        || list_all (λ x. not (is_inline x.side)
        || holds (x.info.start - y.offset) (x.info.end - y.offset) (λ c. not (is_blank c))) y.labels

  -- the clause
  unfoldable pub has_inline_traces : Bool
  has_inline_traces =
      all_numbered (λ g s.
      list_all (λ a. not (is_on_one_line a) || is_inline_traced g s a) (messages_of s)
      && list_all (is_underlined g s) (shown_lines s)) sections
