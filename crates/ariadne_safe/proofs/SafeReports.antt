-- A report whose texts hide nothing is drawn safely: besides what its pictures hide, its texts have no escape, and none that a
-- row shows whole has a line feed. So pictures without colours have no escape at all.
use Rattle.std.proofs.Common.{◌≡◌, ℕ, true, false, List, [], ◌∷◌, map, Option, Some, None, sym, ap, ◌∙◌, subst, arith, refl}
use Rattle.std.specs.Prelude.{encode_utf8, encode_utf8_all, IfSome}
use Rattle.std.specs.List.{AllByRecursion, list_all}
use Rattle.std.specs.Str.{chars, is_utf8}
use Rattle.std.proofs.lemmas.Bool.{and_parts, cond-false, true≢false}
use Rattle.std.proofs.lemmas.Str.{encodes-chars, IsUtf8-from_is_utf8}
use Rattle.ariadne_base.specs.Listing.{Listing}
use Rattle.ariadne_picture.specs.declared.label_info.LabelInfo.{LabelInfo}
use Rattle.ariadne_picture.specs.Report.{LabelFields, ReportFields, World}
use Rattle.ariadne_picture.specs.Lists.{joined}
use Rattle.ariadne_picture.specs.Pieces.{Piece}
use Rattle.ariadne_picture.specs.Canvas.{Cell, canvas, outline, cell_of, color_of, paint_color, palette_of, kind_name}
use Rattle.ariadne_picture.specs.Print.{cell_bytes, line_bytes, printed}
use Rattle.ariadne_picture.specs.Sent.{HaveNoLineFeeds}
use Rattle.ariadne_picture.specs.Variants.{HasNoEscape, HaveNoEscapes}
use Rattle.ariadne_picture.proofs.Lists.ListFacts.{all-every, all-map}
use Rattle.ariadne_picture.proofs.Variants.CleanTexts.{IsClean, HasNo, IsControl, clean-append, clean-encode, clean-from, clean-test}
use Rattle.ariadne_safe.specs.declared.text.TextKind.{TextKind}
use Rattle.ariadne_safe.specs.declared.text.TextKind.TheVariants.{OneRow, Aside, Lines}
use Rattle.ariadne_safe.specs.Visible.{is_hidden, is_seen_in, is_shown}
use Rattle.ariadne_safe.specs.Pictures.{is_shown_if_any, HideNothing, IsDrawnSafely}
use Rattle.ariadne_safe.proofs.SafePictures.{AreSeen, unescaped_text, parts_shown, cells_hide_nothing, pictures_hide_nothing}

-- ---- texts without a byte

-- a byte of control that no text of this kind shows
record IsNever (kind : TextKind) (b : ℕ) : Type 0 where
  pub control : IsControl b
  pub unseen : is_seen_in kind b ≡ false

module _ (kind : TextKind) (b : ℕ) (never : IsNever kind b) where
  -- is none of the characters of such a text
  chars_without : (cs : List ℕ) → list_all (is_seen_in kind) cs ≡ true → IsClean b cs
  chars_without [] h = tt
  chars_without (c ∷ cs) h =
      let p = and_parts (is_seen_in kind c) (list_all (is_seen_in kind) cs) h in
      (λ e. true≢false (sym p.0 ∙ ap (is_seen_in kind) e ∙ never.unseen), chars_without cs p.1)

  encodes_without : (cs : List ℕ) → IsClean b cs → IsClean b (encode_utf8_all cs)
  encodes_without [] a = tt
  encodes_without (c ∷ cs) a =
      clean-append b (encode_utf8 c) (encode_utf8_all cs) (clean-encode b never.control c a.0) (encodes_without cs a.1)

  shown_without : (t : List ℕ) → is_shown kind t ≡ true → HasNo b (chars t)
  shown_without t h =
      clean-test b (chars t) (chars_without (chars t) ((and_parts (is_utf8 t) (list_all (is_seen_in kind) (chars t)) h).1))

  -- nor of its bytes
  text_without : (t : List ℕ) → is_shown kind t ≡ true → HasNo b t
  text_without t h =
      let p = and_parts (is_utf8 t) (list_all (is_seen_in kind) (chars t)) h in
      clean-test b t (subst (IsClean b) (encodes-chars t (IsUtf8-from_is_utf8 t p.0)) (encodes_without (chars t) (chars_without (chars t) p.1)))

  texts_without : (ts : List (List ℕ)) → list_all (is_shown kind) ts ≡ true → AllByRecursion (HasNo b) ts
  texts_without [] h = tt
  texts_without (t ∷ ts) h =
      let p = and_parts (is_shown kind t) (list_all (is_shown kind) ts) h in (text_without t p.0, texts_without ts p.1)

-- escapes are in no text, line feeds in none that a row shows whole
no_escape_in_rows : IsNever OneRow 27
unfolding is_hidden
no_escape_in_rows = record { control = record { some = omega arith; low = omega arith }; unseen = refl }

no_escape_in_asides : IsNever Aside 27
unfolding is_hidden
no_escape_in_asides = record { control = record { some = omega arith; low = omega arith }; unseen = refl }

no_escape_in_lines : IsNever Lines 27
unfolding is_hidden
no_escape_in_lines = record { control = record { some = omega arith; low = omega arith }; unseen = refl }

no_feed_in_rows : IsNever OneRow 10
unfolding is_hidden
no_feed_in_rows = record { control = record { some = omega arith; low = omega arith }; unseen = refl }

-- ---- the texts of a report

module _ (b : ℕ) (never : IsNever OneRow b) where
  some_without : (o : Option (List ℕ)) → is_shown_if_any o ≡ true → IfSome o (HasNo b)
  some_without None h = tt
  some_without (Some t) h = text_without OneRow b never t h

  labels_without : {S : Type 0} (labels : List (LabelFields S))
      → list_all (λ (label : LabelFields S). is_shown_if_any label.message) labels ≡ true
      → AllByRecursion (λ (label : LabelFields S). IfSome label.message (HasNo b)) labels
  labels_without [] h = tt
  labels_without {S} (label ∷ labels) h =
      let p = and_parts (is_shown_if_any label.message) (list_all (λ (label : LabelFields S). is_shown_if_any label.message) labels) h in
      (some_without label.message p.0, labels_without labels p.1)

source_without : (o : Option Listing) → IfSome o (λ source. is_shown Lines source.text ≡ true)
    → IfSome o (λ source. HasNoEscape (chars source.text))
source_without None h = tt
source_without (Some source) h = shown_without Lines 27 no_escape_in_lines source.text h

no_escapes : {S Id : Type 0} (w : World S Id) (r : ReportFields S) → HideNothing w r → HaveNoEscapes w r
no_escapes w r h =
    let p = parts_shown r h.texts in
    let never = no_escape_in_rows in
    record {
      kind = text_without OneRow 27 never (kind_name r.kind) p.kind;
      code = some_without 27 never r.code p.code;
      message = some_without 27 never r.message p.message;
      labels = labels_without 27 never r.labels p.labels;
      notes = texts_without Aside 27 no_escape_in_asides r.notes p.notes;
      helps = texts_without Aside 27 no_escape_in_asides r.helps p.helps;
      names = all-every _ (λ label. some_without 27 never (w.name_of (w.id_of label.span)) (h.names (w.id_of label.span))) r.labels;
      sources = all-every _ (λ label. source_without (w.source_of (w.id_of label.span)) (h.sources (w.id_of label.span))) r.labels;
    }

no_line_feeds : {S Id : Type 0} (w : World S Id) (r : ReportFields S) → HideNothing w r → HaveNoLineFeeds w r
no_line_feeds w r h =
    let p = parts_shown r h.texts in
    let never = no_feed_in_rows in
    record {
      kind = text_without OneRow 10 never (kind_name r.kind) p.kind;
      code = some_without 10 never r.code p.code;
      message = some_without 10 never r.message p.message;
      labels = labels_without 10 never r.labels p.labels;
      names = all-every _ (λ label. some_without 10 never (w.name_of (w.id_of label.span)) (h.names (w.id_of label.span))) r.labels;
    }

-- ---- pictures without colours

-- a cell without one
abbrev IsPlain : Cell → Type 0
IsPlain c = c.color ≡ None

-- such are all cells, where colours are off
none_colored : {S Id : Type 0} (w : World S Id) (r : ReportFields S) (infos : List LabelInfo) → r.config.color ≡ false
    → AllByRecursion (AllByRecursion IsPlain) (canvas w r infos)
unfolding canvas color_of
none_colored w r infos off =
    let palette = palette_of r in
    let cell = cell_of palette in
    let plain : (piece : Piece) → IsPlain (cell piece) = λ piece. cond-false r.config.color (paint_color palette piece.paint) None off in
    all-map (AllByRecursion IsPlain) (map cell) (outline w r infos)
    (all-every (λ row. AllByRecursion IsPlain (map cell row)) (λ row. all-map IsPlain cell row (all-every (λ piece. IsPlain (cell piece)) plain row))
    (outline w r infos))

-- and each is printed as its text
cells_unescaped : (row : List Cell) → AreSeen row → AllByRecursion IsPlain row → IsClean 27 (joined cell_bytes row)
unfolding joined cell_bytes
cells_unescaped [] h plain = tt
cells_unescaped (c ∷ row) h plain =
    clean-append 27 (cell_bytes c) (joined cell_bytes row)
    (subst (λ color. IsClean 27 (cell_bytes (record c { color = color }))) (sym plain.0) (clean-from 27 c.text (unescaped_text c.text h.0)))
    (cells_unescaped row h.1 plain.1)

rows_unescaped : (rows : List (List Cell)) → AllByRecursion AreSeen rows → AllByRecursion (AllByRecursion IsPlain) rows
    → IsClean 27 (printed rows)
unfolding joined printed line_bytes
rows_unescaped [] h plain = tt
rows_unescaped (row ∷ rows) h plain =
    let feed : IsClean 27 (10 ∷ []) = (λ e. omega (arith, e), tt) in
    clean-append 27 (line_bytes row) (joined line_bytes rows)
    (clean-append 27 (joined cell_bytes row) (10 ∷ []) (cells_unescaped row h.0 plain.0) feed) (rows_unescaped rows h.1 plain.1)

pub drawn_safely : {S Id : Type 0} (w : World S Id) (r : ReportFields S) → HideNothing w r → IsDrawnSafely w r
drawn_safely w r h = record {
  cells_hide_nothing = λ infos. cells_hide_nothing w r infos h;
  pictures_hide_nothing = λ infos. pictures_hide_nothing w r infos h;
  without_colors_no_escape = λ off infos. clean-test 27 (printed (canvas w r infos))
      (rows_unescaped (canvas w r infos) (cells_hide_nothing w r infos h) (none_colored w r infos off));
  texts_have_no_escapes = no_escapes w r h;
  nor_line_feeds = no_line_feeds w r h;
}
