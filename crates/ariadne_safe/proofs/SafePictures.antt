-- A picture hides nothing, where the texts that it is drawn of hide nothing.
use Rattle.std.proofs.Common.{◌≡◌, ℕ, Bool, true, false, not, ◌&&◌, List, [], ◌∷◌, ◌++◌, map, Option, Some, None}
use Rattle.std.proofs.Common.{refl, sym, ap, ◌∙◌, subst, arith, ◌==◌}
use Rattle.std.specs.Prelude.{encode_utf8, encode_utf8_all, IfSome}
use Rattle.std.specs.List.{AllByRecursion, list_all}
use Rattle.std.specs.Str.{NonePass, NoCharPasses}
use Rattle.std.proofs.lemmas.Bool.{and_from, and_parts, true≢false}
use Rattle.std.proofs.lemmas.List.{append-nil}
use Rattle.std.proofs.lemmas.Str.{encode_ascii, NoCharPasses-nil, NoCharPasses-append}
use Rattle.ariadne_base.specs.Listing.{Listing, listed_lines}
use Rattle.ariadne_picture.specs.declared.label_info.LabelInfo.{LabelInfo}
use Rattle.ariadne_picture.specs.Report.{LabelFields, ReportFields, World}
use Rattle.ariadne_picture.specs.Lists.{joined}
use Rattle.ariadne_picture.specs.Canvas.{Cell, canvas, kind_name}
use Rattle.ariadne_picture.specs.Print.{cell_bytes, line_bytes, printed, erased}
use Rattle.ariadne_picture.specs.Variants.{HasNoEscape}
use Rattle.ariadne_picture.proofs.Lists.ListFacts.{all-weaker, all-every}
use Rattle.ariadne_picture.proofs.Variants.CleanTexts.{IsClean, IsControl, clean-encode, clean-append, clean-test}
use Rattle.ariadne_picture.proofs.Variants.CleanPieces.{HaveCleanLines, AreShownClean}
use Rattle.ariadne_picture.proofs.Variants.PlainTexts.{every-cell}
use Rattle.ariadne_picture.proofs.Variants.Escapes.{unescaped-printed}
use Rattle.ariadne_safe.specs.declared.text.TextKind.TheVariants.{OneRow, Aside, Lines}
use Rattle.ariadne_safe.specs.Visible.{is_hidden, is_shown}
use Rattle.ariadne_safe.specs.Pictures.{is_hidden_in_row, HidesNothing, AreCellsShown, is_shown_if_any, is_shown_report, HideNothing}
use Rattle.ariadne_safe.proofs.SeenTexts.{IsSeen, kept_seen, row_seen, aside_seen, source_seen}

-- ---- no escape

-- the byte that begins an escape sequence is hidden
escape_is_hidden : is_hidden 27 ≡ true
unfolding is_hidden
escape_is_hidden = refl

-- so no character that is seen has it
seen_clean : (cs : List ℕ) → NonePass is_hidden cs → IsClean 27 (encode_utf8_all cs)
seen_clean [] n = tt
seen_clean (c ∷ cs) n =
    let control : IsControl 27 = record { some = omega arith; low = omega arith } in
    clean-append 27 (encode_utf8 c) (encode_utf8_all cs)
    (clean-encode 27 control c (λ e. true≢false (sym escape_is_hidden ∙ ap is_hidden (sym e) ∙ n.0))) (seen_clean cs n.1)

pub unescaped_text : (t : List ℕ) → IsSeen t → HasNoEscape t
unescaped_text t h = clean-test 27 t (subst (IsClean 27) h.1 (seen_clean h.0 h.2))

-- ---- rows

-- a text that ends no row
abbrev IsInRow : List ℕ → Type 0
IsInRow bytes = NoCharPasses is_hidden_in_row bytes

in_row_pass : (cs : List ℕ) → NonePass is_hidden cs → NonePass is_hidden_in_row cs
in_row_pass [] n = tt
in_row_pass (c ∷ cs) n = (ap (λ h. h && not (c == 10)) n.0, in_row_pass cs n.1)

in_row : (t : List ℕ) → IsSeen t → IsInRow t
in_row t h = (h.0, h.1, in_row_pass h.0 h.2)

-- the line feed at its end
feed_passes : is_hidden_in_row 10 ≡ false
unfolding is_hidden
feed_passes = refl

feed_in_row : IsInRow (10 ∷ [])
feed_in_row = (10 ∷ [], append-nil (encode_utf8 10) ∙ encode_ascii 10 (omega arith), (feed_passes, tt))

-- cells that are seen, without colours
abbrev pub AreSeen : List Cell → Type 0
AreSeen row = AllByRecursion (λ (c : Cell). IsSeen c.text) row

cells_in_row : (row : List Cell) → AreSeen row → IsInRow (joined cell_bytes (map (λ (c : Cell). record c { color = None }) row))
unfolding joined cell_bytes
cells_in_row [] h = NoCharPasses-nil is_hidden_in_row
cells_in_row (c ∷ row) h =
    NoCharPasses-append is_hidden_in_row c.text (joined cell_bytes (map (λ (c : Cell). record c { color = None }) row)) (in_row c.text h.0) (cells_in_row row h.1)

rows_in_row : (rows : List (List Cell)) → AllByRecursion AreSeen rows → IsInRow (printed (erased rows))
unfolding joined printed line_bytes
rows_in_row [] h = NoCharPasses-nil is_hidden_in_row
rows_in_row (row ∷ rows) h =
    let cells = joined cell_bytes (map (λ (c : Cell). record c { color = None }) row) in
    NoCharPasses-append is_hidden_in_row (cells ++ 10 ∷ []) (joined line_bytes (erased rows))
    (NoCharPasses-append is_hidden_in_row cells (10 ∷ []) (cells_in_row row h.0) feed_in_row) (rows_in_row rows h.1)

-- what is printed of cells that are seen
rows_hide_nothing : (rows : List (List Cell)) → AllByRecursion AreSeen rows → HidesNothing (printed rows)
rows_hide_nothing rows h =
    let plain = all-weaker AreSeen (λ row. AllByRecursion (λ (c : Cell). HasNoEscape c.text) row) rows
    (λ row a. all-weaker (λ (c : Cell). IsSeen c.text) (λ (c : Cell). HasNoEscape c.text) row (λ c t. unescaped_text c.text t) a) h in
    subst IsInRow (sym (unescaped-printed rows plain)) (rows_in_row rows h)

-- ---- the texts of a report

some_seen : (o : Option (List ℕ)) → is_shown_if_any o ≡ true → IfSome o IsSeen
some_seen None h = tt
some_seen (Some text) h = row_seen text h

labels_seen : {S : Type 0} (labels : List (LabelFields S)) → list_all (λ (label : LabelFields S). is_shown_if_any label.message) labels ≡ true
    → AllByRecursion (λ (label : LabelFields S). IfSome label.message IsSeen) labels
labels_seen [] h = tt
labels_seen {S} (label ∷ labels) h =
    let p = and_parts (is_shown_if_any label.message) (list_all (λ (label : LabelFields S). is_shown_if_any label.message) labels) h in
    (some_seen label.message p.0, labels_seen labels p.1)

asides_seen : (texts : List (List ℕ)) → list_all (is_shown Aside) texts ≡ true → HaveCleanLines IsSeen texts
asides_seen [] h = tt
asides_seen (text ∷ texts) h =
    let p = and_parts (is_shown Aside text) (list_all (is_shown Aside) texts) h in (aside_seen text p.0, asides_seen texts p.1)

held_seen : (o : Option Listing) → IfSome o (λ source. is_shown Lines source.text ≡ true) → IfSome o (λ source. AreShownClean IsSeen (listed_lines source))
held_seen None h = tt
held_seen (Some source) h = source_seen source h

-- each part of a report that hides nothing
pub record ArePartsShown {S : Type 0} (r : ReportFields S) : Type 0 where
  pub kind : is_shown OneRow (kind_name r.kind) ≡ true
  pub code : is_shown_if_any r.code ≡ true
  pub message : is_shown_if_any r.message ≡ true
  pub labels : list_all (λ (label : LabelFields S). is_shown_if_any label.message) r.labels ≡ true
  pub notes : list_all (is_shown Aside) r.notes ≡ true
  pub helps : list_all (is_shown Aside) r.helps ≡ true

-- six tests at once
all_six : (a b c d e f : Bool) → (a && b && c && d && e && f) ≡ true
    → (a ≡ true) × (b ≡ true) × (c ≡ true) × (d ≡ true) × (e ≡ true) × (f ≡ true)
all_six a b c d e f h =
    let p = and_parts (a && b && c && d && e) f h in
    let q = and_parts (a && b && c && d) e p.0 in
    let s = and_parts (a && b && c) d q.0 in
    let t = and_parts (a && b) c s.0 in
    let u = and_parts a b t.0 in
    (u.0, u.1, t.1, s.1, q.1, p.1)

pub parts_shown : {S : Type 0} (r : ReportFields S) → is_shown_report r ≡ true → ArePartsShown r
parts_shown {S} r h =
    let p = all_six (is_shown OneRow (kind_name r.kind)) (is_shown_if_any r.code) (is_shown_if_any r.message)
    (list_all (λ (label : LabelFields S). is_shown_if_any label.message) r.labels) (list_all (is_shown Aside) r.notes)
    (list_all (is_shown Aside) r.helps) h in
    record { kind = p.0; code = p.1; message = p.2; labels = p.3; notes = p.4; helps = p.5 }

pub report_shown : {S : Type 0} (r : ReportFields S) → ArePartsShown r → is_shown_report r ≡ true
report_shown {S} r p =
    let kind = is_shown OneRow (kind_name r.kind) in
    let code = is_shown_if_any r.code in
    let message = is_shown_if_any r.message in
    let labels = list_all (λ (label : LabelFields S). is_shown_if_any label.message) r.labels in
    let notes = list_all (is_shown Aside) r.notes in
    let helps = list_all (is_shown Aside) r.helps in
    and_from (kind && code && message && labels && notes) helps
    (and_from (kind && code && message && labels) notes
    (and_from (kind && code && message) labels
    (and_from (kind && code) message (and_from kind code p.kind p.code) p.message) p.labels) p.notes) p.helps

-- so no text of a cell hides anything
pub cells_hide_nothing : {S Id : Type 0} (w : World S Id) (r : ReportFields S) (infos : List LabelInfo) → HideNothing w r
    → AreCellsShown (canvas w r infos)
cells_hide_nothing w r infos h =
    let p = parts_shown r h.texts in
    every-cell w r IsSeen kept_seen (record {
      kind = row_seen (kind_name r.kind) p.kind;
      code = some_seen r.code p.code;
      message = some_seen r.message p.message;
      labels = labels_seen r.labels p.labels;
      notes = asides_seen r.notes p.notes;
      helps = asides_seen r.helps p.helps;
      names = all-every _ (λ label. some_seen (w.name_of (w.id_of label.span)) (h.names (w.id_of label.span))) r.labels;
      sources = all-every _ (λ label. held_seen (w.source_of (w.id_of label.span)) (h.sources (w.id_of label.span))) r.labels;
    }) infos

-- nor does the picture
pub pictures_hide_nothing : {S Id : Type 0} (w : World S Id) (r : ReportFields S) (infos : List LabelInfo) → HideNothing w r
    → HidesNothing (printed (canvas w r infos))
pictures_hide_nothing w r infos h = rows_hide_nothing (canvas w r infos) (cells_hide_nothing w r infos h)
