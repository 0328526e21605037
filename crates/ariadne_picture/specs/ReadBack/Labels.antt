-- What the labels of a picture are, in the words of what its rows tell: of each label that has a message
-- its group, where it is attached or starts and ends, and that message.
use Rattle.std.specs.Prelude.{ℕ, not, ◌||◌, if◌then◌else◌, List, [], ◌∷◌, ◌++◌, map, filter, Some, None, codes, unwrap_or}
use Rattle.ariadne_picture.specs.declared.label_info.LabelInfo.{LabelInfo}
use Rattle.ariadne_picture.specs.Lists.{joined_numbered, mapped_numbered}
use Rattle.ariadne_picture.specs.Ranks.{gutter_labels, is_on_one_line}
use Rattle.ariadne_picture.specs.Columns.{layout_of, column_of}
use Rattle.ariadne_picture.specs.Strokes.{is_at_margin}
use Rattle.ariadne_picture.specs.Pieces.{Section, Texts, place_text}
use Rattle.ariadne_picture.specs.Placing.Group.{messages_of, has_cell}
use Rattle.ariadne_picture.specs.Readings.{attach_column}
use Rattle.ariadne_picture.specs.ReadBack.Answer.{End, Told}

module _ (message_of : ℕ → List ℕ) (g : ℕ) (s : Section) where
  -- a label within one line
  unfoldable pub told_within : LabelInfo → Told
  told_within a = record {
    group = g;
    start = None;
    end = record { line = a.start_line; column = Some (attach_column s a) };
    message = message_of a.position;
  }

  -- an end of gutter label i, at a place of line l: the margin label turns nowhere below the line, and no
  -- label where its place has no cell
  unfoldable pub gutter_end : ℕ → ℕ → ℕ → End
  gutter_end i l place = record {
    line = l;
    column = if is_at_margin s.sheet l i || not (has_cell s l place) then None
        else Some (column_of s.sheet.switches (layout_of s.sheet l) place);
  }

  -- gutter label i, which is a
  unfoldable pub told_over : ℕ → LabelInfo → Told
  told_over i a = record {
    group = g;
    start = Some (gutter_end i a.start_line a.start_place);
    end = gutter_end i a.end_line a.end_place;
    message = message_of a.position;
  }

  -- all labels of the group
  unfoldable pub group_told : List Told
  group_told =
      map told_within (filter is_on_one_line (messages_of s)) ++ mapped_numbered told_over (gutter_labels s.sheet.labels)

-- what the headers are to say
unfoldable pub headers_told : Texts → List Section → List (List ℕ)
headers_told t groups = t.kind_text ∷ (codes " " ++ unwrap_or t.message []) ∷ map place_text groups

-- the labels of all groups
unfoldable pub labels_told : (ℕ → List ℕ) → List Section → List Told
labels_told message_of groups = joined_numbered (group_told message_of) groups
