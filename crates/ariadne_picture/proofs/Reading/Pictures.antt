-- A picture before it is read: its rows, the placing that their names give, and the numbers of its groups' rows.
use Rattle.std.proofs.Common.{◌≡◌, ◌≢◌, ℕ, suc, ◌+◌, ◌<◌, ◌≤◌, Bool, true, List, ◌∷◌, Some, refl, sym, ◌∙◌}
use Rattle.std.specs.Prelude.{slice_get}
use Rattle.std.specs.List.{AllByRecursion}
use Rattle.ariadne_picture.specs.declared.label_info.LabelInfo.{LabelInfo}
use Rattle.ariadne_picture.specs.Lists.{joined}
use Rattle.ariadne_picture.specs.Bars.{EndsNoEarlier}
use Rattle.ariadne_picture.specs.Rows.{Row}
use Rattle.ariadne_picture.specs.Pieces.{Texts, Section}
use Rattle.ariadne_picture.specs.Canvas.{Cell, Palette}
use Rattle.ariadne_picture.specs.Placing.Rows.{Placing}
use Rattle.ariadne_picture.specs.Lists.{all_numbered}
use Rattle.ariadne_picture.proofs.Lists.ListFacts.{Increasing}
use Rattle.ariadne_picture.proofs.Cells.CanvasRows.{row_cells}
use Rattle.ariadne_picture.proofs.Lists.Elements.{all-numbered, list_all-true}
use Rattle.ariadne_picture.proofs.Rows.RowNumbers.{IsRow, row-within, picture_rows, number-of-row}
use Rattle.ariadne_picture.proofs.Rows.RowPlacing.{start_row, row_number, of_section, row_placing}

-- what is asked of its groups: the switches of the report, labels that end no earlier than they start, and
-- a position for each label
pub record AreDrawn (t : Texts) (ss : List Section) : Type 0 where
  pub same_switches : (g : ℕ) (s : Section) → slice_get ss g ≡ Some s → s.sheet.switches ≡ t.switches
  pub rises : (g : ℕ) (s : Section) → slice_get ss g ≡ Some s → AllByRecursion EndsNoEarlier s.sheet.labels
  pub numbers : Increasing (λ (a b : LabelInfo). a.position ≢ b.position) (joined (λ s. s.sheet.labels) ss)

-- what the rows are made of
pub record Picture : Type 0 where
  pub palette : Palette
  pub texts : Texts
  -- how many columns the line numbers take
  pub width : ℕ
  pub header : List Cell
  pub sections : List Section
  pub drawn : AreDrawn texts sections

-- its rows
abbrev pub rows_of : Picture → List (List Cell)
rows_of v = v.header ∷ picture_rows v.texts v.sections (row_cells v.palette v.texts v.width)

-- the placing that their names give
abbrev pub placing_of : Picture → Placing
placing_of v = row_placing v.texts v.sections

-- it says which row shows line l of group g, which the message of label k, and which the head of gutter label i
abbrev pub source_row : Picture → ℕ → ℕ → ℕ
source_row v g l = (placing_of v).source_row g l

abbrev pub message_row : Picture → ℕ → ℕ
message_row v k = (placing_of v).message_row k

abbrev pub head_row : Picture → ℕ → ℕ → ℕ
head_row v g i = (placing_of v).head_row g i

-- what is read of the rows with this placing
abbrev pub read : {A : Type 0} → Picture → (List (List Cell) → List Section → Placing → A) → A
read v f = f (rows_of v) v.sections (placing_of v)

-- the first row of group g
abbrev pub start_of : Picture → ℕ → ℕ
start_of v = start_row v.texts v.sections

-- the number of row x of group g, which is s
abbrev pub number : Picture → ℕ → Section → Row → ℕ
number v = row_number v.texts v.sections

-- x is row k of group g, which is s
abbrev pub RowAt : Picture → ℕ → Section → ℕ → Row → Type 0
RowAt v = IsRow v.texts v.sections

-- a group is found by its number
pub section-is : (t : Texts) (ss : List Section) (g : ℕ) (s : Section) (f : Section → ℕ)
    → slice_get ss g ≡ Some s → of_section t ss g f ≡ f s
unfolding of_section
section-is t ss g s f e = rw (e, of_section) refl

module _ (v : Picture) where
  -- a test that each group passes, found by its number
  pub every-group : (f : ℕ → Section → Bool) → ((g : ℕ) (s : Section) → slice_get v.sections g ≡ Some s → f g s ≡ true)
      → all_numbered f v.sections ≡ true
  every-group f h = list_all-true _ _ (all-numbered _ v.sections h)

  -- row k of a group stands k rows below the first one
  pub number-at : {g : ℕ} {s : Section} {k : ℕ} {x : Row} → RowAt v g s k x → number v g s x ≡ start_of v g + k
  number-at {g} {s} {k} {x} = number-of-row v.texts v.sections g s k x

  -- each number from a group's first row on, before the next group, is that of one of its rows
  pub row-there : (g n : ℕ) (s : Section) → slice_get v.sections g ≡ Some s → start_of v g ≤ n → n < start_of v (suc g)
      → (k : ℕ) × (x : Row) × RowAt v g s k x × (number v g s x ≡ n)
  row-there g n s e low high =
      let x = row-within v.texts v.sections g n s e low high in (x.0, x.1, x.2, number-at x.2 ∙ sym x.3)
