-- The rows of a finished picture are the header and the rows of its groups, each by its name.
use Rattle.std.proofs.Common.{◌≡◌, ℕ, List, [], ◌∷◌, map, length, Some, refl, ap, ◌∙◌}
use Rattle.std.specs.Prelude.{slice_get}
use Rattle.std.specs.List.{enumerate_from}
use Rattle.ariadne_picture.specs.Report.{ReportFields, World, switches_of}
use Rattle.ariadne_picture.specs.declared.label_info.LabelInfo.{LabelInfo}
use Rattle.ariadne_picture.specs.Rows.{Row}
use Rattle.ariadne_picture.specs.Pieces.{Texts, Section, row_pieces, section_rows}
use Rattle.ariadne_picture.specs.Canvas.{Cell, Palette, palette_of, cell_of, header_pieces, texts_of, section_of, groups, number_width}
use Rattle.ariadne_picture.specs.Canvas.{outline, sections, canvas}
use Rattle.ariadne_picture.proofs.Lists.ListFacts.{all-map, all-every, all-at}
use Rattle.ariadne_picture.proofs.Lists.Joined.{map-joined, joined-same}
use Rattle.ariadne_picture.proofs.Rows.RowPlacing.{row_list}
use Rattle.ariadne_picture.proofs.Rows.RowNumbers.{picture_rows}

-- a map of a map
pub map-map : {X Y Z : Type 0} (f : Y → Z) (g : X → Y) (xs : List X) → map f (map g xs) ≡ map (λ x. f (g x)) xs
map-map f g [] = refl
map-map f g (x ∷ xs) = ap (λ t. f (g x) ∷ t) (map-map f g xs)

-- the cells of a row
abbrev pub row_cells : Palette → Texts → ℕ → Section → Row → List Cell
row_cells p t w s x = map (cell_of p) (row_pieces t w s x)

module _ {S Id : Type 0} (w : World S Id) (r : ReportFields S) (infos : List LabelInfo) where
  -- how wide the numbers of the picture are
  abbrev pub width_of : ℕ
  width_of = number_width w r (groups w r infos)

  -- the canvas is the header and the rows by their names
  pub canvas-rows : canvas w r infos ≡ map (cell_of (palette_of r)) (header_pieces (texts_of r))
      ∷ picture_rows (texts_of r) (sections w r infos) (row_cells (palette_of r) (texts_of r) width_of)
  unfolding canvas outline picture_rows section_rows row_list
  canvas-rows =
      let t = texts_of r in
      let groups = sections w r infos in
      let f : Section → Row → List Cell = row_cells (palette_of r) t width_of in
      ap (λ rows. map (cell_of (palette_of r)) (header_pieces t) ∷ rows)
      (map-joined (map (cell_of (palette_of r))) (section_rows t width_of) groups
      ∙ joined-same (λ s. map (map (cell_of (palette_of r))) (section_rows t width_of s)) (λ s. map (f s) (row_list t groups s))
      (λ s. map-map (map (cell_of (palette_of r))) (row_pieces t width_of s) (row_list t groups s)) groups)

  -- each group is drawn in the switches of the report
  pub section-switches : (g : ℕ) (s : Section) → slice_get (sections w r infos) g ≡ Some s → s.sheet.switches ≡ (texts_of r).switches
  unfolding sections section_of texts_of
  section-switches g s e =
      all-at (λ s. s.sheet.switches ≡ switches_of r.config) (sections w r infos) g s e
      (all-map (λ s. s.sheet.switches ≡ switches_of r.config) (section_of w r (length (groups w r infos))) (enumerate_from 0 (groups w r infos))
      (all-every _ (λ e. refl) (enumerate_from 0 (groups w r infos))))
