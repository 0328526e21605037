-- One reading: what row numbers that a picture is read by agree on. They agree on all of it, but that
-- the messages of twins may change places.
use Rattle.std.specs.Prelude.{ℕ, ◌≡◌, ◌⊎◌, true, List, Some, slice_get, Contains}
use Rattle.ariadne_picture.specs.declared.label_info.LabelInfo.{LabelInfo}
use Rattle.ariadne_picture.specs.Ranks.{gutter_labels, is_on_one_line}
use Rattle.ariadne_picture.specs.Columns.{layout_of, column_of}
use Rattle.ariadne_picture.specs.Pieces.{Section}
use Rattle.ariadne_picture.specs.Placing.Group.{shown_lines, messages_of}
use Rattle.ariadne_picture.specs.Placing.Rows.{Placing}

-- two placings have the same row for each line
abbrev pub AgreeOnLines : List Section → Placing → Placing → Type 0
AgreeOnLines groups p q =
    (g : ℕ) (s : Section) (l : ℕ) → slice_get groups g ≡ Some s → Contains (shown_lines s) l
    → p.source_row g l ≡ q.source_row g l

-- and for the head of each gutter label
abbrev pub AgreeOnHeads : List Section → Placing → Placing → Type 0
AgreeOnHeads groups p q =
    (g : ℕ) (s : Section) (i : ℕ) (a : LabelInfo) → slice_get groups g ≡ Some s
    → slice_get (gutter_labels s.sheet.labels) i ≡ Some a → p.head_row g i ≡ q.head_row g i

-- and for the message of each
abbrev pub AgreeOnEnds : List Section → Placing → Placing → Type 0
AgreeOnEnds groups p q =
    (g : ℕ) (s : Section) (i : ℕ) (a : LabelInfo) → slice_get groups g ≡ Some s
    → slice_get (gutter_labels s.sheet.labels) i ≡ Some a
    → p.message_row a.position ≡ q.message_row a.position

-- the column where a label within one line is attached
abbrev pub attach_column : Section → LabelInfo → ℕ
attach_column s a = column_of s.sheet.switches (layout_of s.sheet a.start_line) a.attach

-- twins: two labels within one line, with one message, attached at one column
pub record AreTwins (message_of : ℕ → List ℕ) (s : Section) (a b : LabelInfo) : Type 0 where
  pub first_within_a_line : is_on_one_line a ≡ true
  pub second_within_a_line : is_on_one_line b ≡ true
  pub same_line : a.start_line ≡ b.start_line
  pub same_message : message_of a.position ≡ message_of b.position
  pub same_column : attach_column s a ≡ attach_column s b

-- where one placing has the message of label a, the other has it, or that of a twin
pub record HasSameRow (message_of : ℕ → List ℕ) (s : Section) (p q : Placing)
    (a : LabelInfo) : Type 0 where
  pub label : LabelInfo
  pub there : Contains (messages_of s) label
  pub same_row : p.message_row a.position ≡ q.message_row label.position
  pub same_label : (a ≡ label) ⊎ AreTwins message_of s a label

-- so it is with each message
abbrev pub AgreeOnMessages : (ℕ → List ℕ) → List Section → Placing → Placing → Type 0
AgreeOnMessages message_of groups p q =
    (g : ℕ) (s : Section) (a : LabelInfo) → slice_get groups g ≡ Some s
    → Contains (messages_of s) a → HasSameRow message_of s p q a

-- on all of this: a label over several lines has no twin
pub record AgreeOnStrokes (message_of : ℕ → List ℕ) (groups : List Section)
    (p q : Placing) : Type 0 where
  pub lines : AgreeOnLines groups p q
  pub heads : AgreeOnHeads groups p q
  pub messages : AgreeOnMessages message_of groups p q
