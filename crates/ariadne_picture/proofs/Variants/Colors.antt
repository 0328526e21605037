-- A report without colours has the outline of the report with them, and gives no piece a colour: so its
-- canvas is what is left of the other one where the colours are taken away.
use Rattle.std.proofs.Common.{◌≡◌, List, [], Some, None, map, refl, sym, ap, ◌∙◌, slice_get, option_map, unwrap_or, chars}
use Rattle.ariadne_picture.specs.declared.label_info.LabelInfo.{LabelInfo}
use Rattle.ariadne_picture.specs.Report.{Kind, error, warning, advice, custom, LabelFields, ReportFields, World}
use Rattle.ariadne_picture.specs.Pieces.{Piece}
use Rattle.ariadne_picture.specs.Canvas.{Cell, Palette, palette_of, color_of, cell_of, canvas, outline, texts_of, header_offset}
use Rattle.ariadne_picture.specs.Print.{erased}
use Rattle.ariadne_picture.specs.Variants.{plain_kind, colorless}
use Rattle.ariadne_picture.proofs.Lists.ListFacts.{all-every}
use Rattle.ariadne_picture.proofs.Cells.CanvasRows.{map-map}
use Rattle.ariadne_picture.proofs.Variants.Outlines.{header_start, ReadTheSame, same-own, same-group_source, same-outline}

-- texts don't tell the colour of a kind
kind-alike : {S : Type 0} (r : ReportFields S) (kind : Kind) → texts_of (record r { kind = kind }) ≡ texts_of (record r { kind = plain_kind kind })
unfolding texts_of
kind-alike r error = refl
kind-alike r warning = refl
kind-alike r advice = refl
kind-alike r (custom name color) = refl

-- cells whose colour is taken away are those of a palette that gives none
erased-cells : (p q : Palette) → ((piece : Piece) → record (cell_of p piece) { color = None } ≡ cell_of q piece) → (rows : List (List Piece))
    → erased (map (map (cell_of p)) rows) ≡ map (map (cell_of q)) rows
erased-cells p q e rows =
    let erase : Cell → Cell = λ c. record c { color = None } in
    map-map (map erase) (map (cell_of p)) rows ∙ (λ i. map (λ row. (map-map erase (cell_of p) row ∙ (λ j. map (λ piece. e piece j) row)) i) rows)

module _ {S Id : Type 0} (w : World S Id) (r : ReportFields S) where
  -- nor those of labels, nor the colour switch
  texts-alike : texts_of r ≡ texts_of (colorless r)
  unfolding texts_of
  texts-alike =
      let said = λ (label : LabelFields S). unwrap_or label.message [] in
      kind-alike r r.kind
      ∙ (λ i. record (texts_of (record r { kind = plain_kind r.kind })) { messages = sym (map-map said (λ label. record label { color = None }) r.labels) i })

  -- colours and the colour switch are no part of what an outline reads
  read-alike : ReadTheSame w w r (colorless r)
  read-alike = record {
    texts = texts-alike;
    label_ids = sym (map-map (λ (label : LabelFields S). w.id_of label.span) (λ label. record label { color = None }) r.labels);
    ids = refl;
    names = refl;
    sources = refl;
  }

  -- a header reads the source of its group and the report's own span
  same-header : (group : List LabelInfo) → header_offset w r group ≡ header_offset w (colorless r) group
  unfolding header_offset
  same-header group =
      let own = same-own w w r (colorless r) read-alike group (Some (w.id_of r.span)) in
      let source = same-group_source w w r (colorless r) read-alike group in
      λ i. header_start (own i) r.config.index_type (chars (source i).text) (w.start_of r.span) (option_map (λ a. a.start) (slice_get group 0))

  -- a canvas without its colours is that of the report without colours
  pub erased-canvas : (infos : List LabelInfo) → erased (canvas w r infos) ≡ canvas w (colorless r) infos
  unfolding canvas color_of
  erased-canvas infos =
      erased-cells (palette_of r) (palette_of (colorless r)) (λ piece. refl) (outline w r infos)
      ∙ ap (map (map (cell_of (palette_of (colorless r))))) (same-outline w w r (colorless r) read-alike infos (all-every _ same-header _))
