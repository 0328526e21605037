-- The picture of a report: its groups have the report's switches, labels that end no earlier than they start, and a
-- position for each label. So clauses that hold of every picture hold of the canvas.
use Rattle.std.proofs.Common.{◌≡◌, ◌≢◌, ℕ, zero, suc, ◌+◌, Bool, true, List, [], ◌∷◌, ◌++◌, map, length, Some, refl, sym, ap, ◌∙◌, subst}
use Rattle.std.specs.Prelude.{slice_get, int_lt}
use Rattle.std.specs.List.{AllByRecursion, enumerate_from}
use Rattle.ariadne_picture.specs.Report.{ReportFields, World}
use Rattle.ariadne_picture.specs.declared.label_info.LabelInfo.{LabelInfo}
use Rattle.ariadne_picture.specs.Lists.{joined}
use Rattle.ariadne_picture.specs.Bars.{EndsNoEarlier}
use Rattle.ariadne_picture.specs.Groups.{ordered}
use Rattle.ariadne_picture.specs.Pieces.{Section, message_at}
use Rattle.ariadne_picture.specs.Canvas.{Cell, cell_of, palette_of, header_pieces, texts_of, section_of, same_source, groups, sections}
use Rattle.ariadne_picture.specs.Canvas.{canvas}
use Rattle.ariadne_picture.specs.Placing.Rows.{Placing}
use Rattle.ariadne_picture.specs.Placing.Together.{is_placing}
use Rattle.ariadne_picture.specs.Placing.MessageRows.{has_message_rows}
use Rattle.ariadne_picture.specs.Placing.Alignment.{is_aligned}
use Rattle.ariadne_picture.proofs.Reading.Aligned.{rows-aligned}
use Rattle.ariadne_picture.proofs.Cells.CanvasRows.{canvas-rows, section-switches, width_of}
use Rattle.ariadne_picture.proofs.Labels.Cutting.{groups-exist}
use Rattle.ariadne_picture.proofs.Lists.Joined.{joined-map}
use Rattle.ariadne_picture.proofs.Labels.LabelsAtLine.{all-front}
use Rattle.ariadne_picture.proofs.Lists.ListFacts.{none≢some, all-in_order, Increasing}
use Rattle.ariadne_picture.proofs.Reading.InOrder.{increasing-in_order}
use Rattle.ariadne_picture.proofs.Reading.MessageRows.{message-rows}
use Rattle.ariadne_picture.proofs.Reading.Placed.{rows-placed}
use Rattle.ariadne_picture.proofs.Rows.RowPlacing.{row_placing}
use Rattle.ariadne_picture.proofs.Reading.Pictures.{AreDrawn, Picture, read}

-- what holds of two lists joined holds of the second
all-behind : {X : Type 0} (P : X → Type 0) (xs ys : List X) → AllByRecursion P (xs ++ ys) → AllByRecursion P ys
all-behind P [] ys a = a
all-behind P (x ∷ xs) ys a = all-behind P xs ys a.1

-- and what holds of parts joined holds of each part
all-part : {X Y : Type 0} (P : Y → Type 0) (f : X → List Y) (xs : List X) (g : ℕ) (x : X) → AllByRecursion P (joined f xs)
    → slice_get xs g ≡ Some x → AllByRecursion P (f x)
unfolding joined
all-part P f [] g x a e = absurd (none≢some x e)
all-part P f (y ∷ xs) zero x a e = let same : y ≡ x = cc in subst (λ z. AllByRecursion P (f z)) same (all-front P (f y) (joined f xs) a)
all-part P f (y ∷ xs) (suc g) x a e = all-part P f xs g x (all-behind P (f y) (joined f xs) a) e

-- parts that elements give are the same of numbered elements
joined-numbers : {X Y : Type 0} (f : X → List Y) (a : ℕ) (xs : List X) → joined (λ (e : ℕ × X). f e.1) (enumerate_from a xs) ≡ joined f xs
unfolding joined
joined-numbers f a [] = refl
joined-numbers f a (x ∷ xs) = ap (λ t. f x ++ t) (joined-numbers f (a + 1) xs)

-- labels that end no earlier than they start, and a position for each
pub record AreNumbered (infos : List LabelInfo) : Type 0 where
  pub rises : AllByRecursion EndsNoEarlier infos
  pub numbers : Increasing (λ (a b : LabelInfo). a.position ≢ b.position) infos

module _ {S Id : Type 0} (w : World S Id) (r : ReportFields S) (infos : List LabelInfo) where
  -- the groups have the labels in order
  pub labels-joined : joined (λ (s : Section). s.sheet.labels) (sections w r infos) ≡ ordered infos
  unfolding sections section_of groups
  labels-joined =
      let gs = groups w r infos in
      joined-map (λ (s : Section). s.sheet.labels) (section_of w r (length gs)) (enumerate_from 0 gs)
      ∙ joined-numbers (λ (group : List LabelInfo). group) 0 gs
      ∙ (groups-exist (same_source w r) (ordered infos)).joins

  -- so the groups are as is asked of a picture, as a sort keeps what holds of each two labels
  pub sections-drawn : AreNumbered infos → AreDrawn (texts_of r) (sections w r infos)
  unfolding ordered
  sections-drawn h =
      let less : LabelInfo → LabelInfo → Bool = λ a b. int_lt a.order b.order in
      let R : LabelInfo → LabelInfo → Type 0 = λ a b. a.position ≢ b.position in
      record {
        same_switches = section-switches w r infos;
        rises =
            let all = subst (AllByRecursion EndsNoEarlier) (sym labels-joined) (all-in_order EndsNoEarlier less infos h.rises) in
            λ g s. all-part EndsNoEarlier (λ (s : Section). s.sheet.labels) (sections w r infos) g s all;
        numbers = subst (Increasing R) (sym labels-joined) (increasing-in_order R less infos (λ a b ne e. ne (sym e)) h.numbers);
      }

  -- a report's picture
  abbrev pub picture_of : AreNumbered infos → Picture
  picture_of h = record {
    palette = palette_of r;
    texts = texts_of r;
    width = width_of w r infos;
    header = map (cell_of (palette_of r)) (header_pieces (texts_of r));
    sections = sections w r infos;
    drawn = sections-drawn h;
  }

  module _ (h : AreNumbered infos) where
    -- a test of the rows of this picture is one of the canvas
    pub of-canvas : (test : List (List Cell) → List Section → Placing → Bool) → read (picture_of h) test ≡ true
        → test (canvas w r infos) (sections w r infos) (row_placing (texts_of r) (sections w r infos)) ≡ true
    of-canvas test passes = ap (λ c. test c (sections w r infos) (row_placing (texts_of r) (sections w r infos))) (canvas-rows w r infos) ∙ passes

    -- ---- clauses of the tracing promise, on the canvas of every report

    -- its groups, lines, messages and heads are where the placing says
    pub canvas-placed : is_placing (canvas w r infos) (sections w r infos) (row_placing (texts_of r) (sections w r infos)) ≡ true
    canvas-placed = of-canvas is_placing (rows-placed (picture_of h))

    -- its messages stand at the ends of their rows
    pub canvas-messages : has_message_rows (canvas w r infos) (sections w r infos) (row_placing (texts_of r) (sections w r infos))
        (message_at (texts_of r)) ≡ true
    canvas-messages = of-canvas (λ rows ss p. has_message_rows rows ss p (message_at (texts_of r))) (message-rows (picture_of h))

    -- and the rows below a line stand below its characters
    pub canvas-aligned : is_aligned (canvas w r infos) (sections w r infos) (row_placing (texts_of r) (sections w r infos)) ≡ true
    canvas-aligned = of-canvas is_aligned (rows-aligned (picture_of h))
