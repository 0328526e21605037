-- What holds of every text of a picture holds of the pieces of every row, where it does of the texts that the row shows.
use Rattle.std.proofs.Common.{◌≡◌, ℕ, zero, suc, ◌+◌, Bool, true, false, List, [], ◌∷◌, ◌++◌, length, replicate, Option, Some, None, refl, arith}
use Rattle.std.proofs.Common.{◌==◌, if◌then◌else◌}
use Rattle.std.specs.Prelude.{slice_index, slice_index_or, decimal, codes, unwrap_or}
use Rattle.std.specs.List.{AllByRecursion, list_all}
use Rattle.std.specs.Str.Lines.{lines}
use Rattle.std.proofs.lemmas.Bool.{cond_both}
use Rattle.ariadne_base.specs.Locations.{upto}
use Rattle.ariadne_picture.specs.declared.switches.CharSet.{CharSet}
use Rattle.ariadne_picture.specs.declared.switches.Switches.{Switches}
use Rattle.ariadne_picture.specs.declared.label_info.LabelInfo.{LabelInfo}
use Rattle.ariadne_picture.specs.declared.label_info.LineLabel.{LineLabel}
use Rattle.ariadne_picture.specs.declared.cell.Glyph.{Glyph}
use Rattle.ariadne_picture.specs.declared.cell.Glyph.TheVariants.{Hbar}
use Rattle.ariadne_picture.specs.declared.cell.Paint.{Paint}
use Rattle.ariadne_picture.specs.declared.cell.Ink.{Ink}
use Rattle.ariadne_picture.specs.Lists.{joined}
use Rattle.ariadne_picture.specs.Ranks.{Sheet, is_start, multi_line_labels}
use Rattle.ariadne_picture.specs.Rows.{Aside, help, note, Row, group_header, spacer, source, alternate, arrow, bare, piece, tail}
use Rattle.ariadne_picture.specs.declared.sight.Sight.{Sight}
use Rattle.ariadne_picture.specs.declared.sight.Sight.TheVariants.{Seen, Marked, Unseen}
use Rattle.ariadne_picture.specs.Columns.{Layout, layout_of, shown, shown_columns, width, arrow_len, whole_column, sight_of}
use Rattle.ariadne_picture.specs.Cells.{column_ink}
use Rattle.ariadne_picture.specs.Pieces.{Piece, blank_piece, plain_text, spaces, stroke, glyph_text, ink_pieces, shown_text, char_pieces, char_paint}
use Rattle.ariadne_picture.specs.Pieces.{seen_pieces, source_pieces, shown_pieces, area_pieces, margin_text, margin_pieces, column_size, gutter_len, gutter_pieces}
use Rattle.ariadne_picture.specs.Pieces.{Texts, Section, location_text, group_header_pieces, spacer_pieces, repeated, tail_pieces, message_pieces}
use Rattle.ariadne_picture.specs.Pieces.{aside_texts, aside_name, aside_prefix, aside_line, aside_pieces, rest_pieces, row_pieces, text_pieces, message_at}
use Rattle.ariadne_picture.proofs.Lists.ListFacts.{all-append}
use Rattle.ariadne_picture.proofs.Cells.RowCells.{all-replicate}
use Rattle.ariadne_picture.proofs.Variants.CleanTexts.{IsKept, is_plain, kept-nil, kept-spaces, kept-decimal, kept-joined}
use Rattle.ariadne_picture.proofs.Variants.CleanTexts.{all-below, all-in, all-or, all-parts, all-trimmed}
use Rattle.ariadne_picture.proofs.Parts.{place_pieces}

-- of the text of a piece
abbrev pub IsCleanPiece : (List ℕ → Type 0) → Piece → Type 0
IsCleanPiece P p = P p.text

-- of those of all pieces
abbrev pub AreClean : (List ℕ → Type 0) → List Piece → Type 0
AreClean P pieces = AllByRecursion (IsCleanPiece P) pieces

-- of the lines that texts are cut into
abbrev pub HaveCleanLines : (List ℕ → Type 0) → List (List ℕ) → Type 0
HaveCleanLines P texts = AllByRecursion (λ t. AllByRecursion P (lines t)) texts

-- of the characters of lines, as they are shown
abbrev pub AreShownClean : (List ℕ → Type 0) → List (List ℕ) → Type 0
AreShownClean P ls = AllByRecursion (AllByRecursion (λ c. P (shown_text c))) ls

-- of the texts of a report
pub record AreCleanTexts (P : List ℕ → Type 0) (t : Texts) : Type 0 where
  pub kind_text : P t.kind_text
  pub message : P (unwrap_or t.message [])
  pub helps : HaveCleanLines P t.helps
  pub notes : HaveCleanLines P t.notes
  pub messages : AllByRecursion P t.messages

-- of the name of a group's source, and of its lines as they are shown
pub record IsCleanSection (P : List ℕ → Type 0) (g : Section) : Type 0 where
  pub name : P g.name
  pub lines : AreShownClean P g.sheet.lines

module _ (P : List ℕ → Type 0) (kept : IsKept P) where
  clean-append : (s t : List ℕ) → P s → P t → P (s ++ t)
  clean-append = kept.append

  clean-printable : (t : List ℕ) → list_all is_plain t ≡ true → P t
  clean-printable = kept.plain

  clean-spaces : (n : ℕ) → P (spaces n)
  clean-spaces = kept-spaces P kept

  clean-decimal : (n : ℕ) → P (decimal n)
  clean-decimal = kept-decimal P kept

  clean-glyph : (set : CharSet) (glyph : Glyph) → P (glyph_text set glyph)
  clean-glyph = kept.glyph

  -- ---- the cells of inks

  -- one ink: strokes and blanks
  clean-ink : (set : CharSet) (ink : Ink) (n : ℕ) → AreClean P (ink_pieces set ink n)
  unfolding ink_pieces
  clean-ink set ink zero = tt
  clean-ink set ink (suc n) =
      (clean-glyph set ink.first, all-replicate (IsCleanPiece P) n (stroke set ink.rest ink.rest_paint) (clean-glyph set ink.rest))

  -- those of many places
  clean-inks : (set : CharSet) (ink_at : ℕ → Ink) (size : ℕ → ℕ) (n : ℕ)
      → AreClean P (joined (λ k. ink_pieces set (ink_at k) (size k)) (upto n))
  clean-inks set ink_at size n =
      all-parts (IsCleanPiece P) (λ k. ink_pieces set (ink_at k) (size k)) (λ k. clean-ink set (ink_at k) (size k)) (upto n)

  -- a text area
  clean-area : (switches : Switches) (y : Layout) (ink_at : ℕ → Ink) → AreClean P (area_pieces switches y ink_at)
  unfolding area_pieces
  clean-area switches y ink_at = clean-inks switches.char_set ink_at (width switches y) (arrow_len switches y)

  -- a gutter
  clean-gutter : (s : Sheet) (x : Row) → AreClean P (gutter_pieces s x)
  unfolding gutter_pieces
  clean-gutter s x = clean-inks s.switches.char_set (column_ink s x) (λ i. column_size s.switches) (gutter_len s)

  -- ---- source rows

  -- a character that is shown
  clean-char : (switches : Switches) (paint : Paint) (x c : ℕ) → P (shown_text c) → AreClean P (char_pieces switches paint x c)
  unfolding char_pieces
  clean-char switches paint x c h =
      let n = shown_columns switches.tab_width x c in
      let blank : Piece = record { text = 32 ∷ []; paint = paint; columns = 1 } in
      cond_both (c == 9) (replicate n blank) (record { text = shown_text c; paint = paint; columns = n } ∷ []) (AreClean P)
      (λ _. all-replicate (IsCleanPiece P) n blank (clean-printable (32 ∷ []) refl)) (λ _. (h, tt))

  -- what is seen of a place
  clean-seen : (switches : Switches) (paint : Paint) (y : Layout) (k c : ℕ) → P (shown_text c) → (sight : Sight)
      → AreClean P (seen_pieces switches paint y k c sight)
  unfolding seen_pieces
  clean-seen switches paint y k c h Seen = clean-char switches paint (whole_column switches.tab_width (shown y) k) c h
  clean-seen switches paint y k c h Marked = (kept.mark switches.char_set, tt)
  clean-seen switches paint y k c h Unseen = tt

  -- the characters of a line
  clean-line : (switches : Switches) (labels : List LabelInfo) (y : Layout) → AllByRecursion (λ c. P (shown_text c)) y.text → AreClean P (shown_pieces switches labels y)
  unfolding shown_pieces source_pieces shown
  clean-line switches labels y a =
      let IsShown : ℕ → Type 0 = λ c. P (shown_text c) in
      all-below (IsCleanPiece P) (place_pieces switches labels y) 0 (length (shown y))
      (λ k less. clean-seen switches (char_paint labels y k) y k (slice_index (shown y) k)
      (all-in IsShown (shown y) k 0 (omega (arith, less)) (all-trimmed IsShown y.text a)) (sight_of y k))

  -- line number l of a sheet
  clean-source : (switches : Switches) (s : Sheet) (l : ℕ) → AreShownClean P s.lines
      → AreClean P (shown_pieces switches (multi_line_labels s.labels) (layout_of s l))
  unfolding layout_of
  clean-source switches s l a = clean-line switches (multi_line_labels s.labels) (layout_of s l) (all-or (AllByRecursion (λ c. P (shown_text c))) s.lines l [] tt a)

  -- ---- margins, headers and tails

  -- a line number, or blanks, and a vertical
  clean-margin_text : (set : CharSet) (w display_offset : ℕ) (x : Row) → P (margin_text set w display_offset x)
  unfolding margin_text
  clean-margin_text set w display_offset (source l) = search (clean-append, clean-spaces, clean-decimal, clean-glyph, clean-printable)
  clean-margin_text set w display_offset x = search (clean-append, clean-spaces, clean-glyph)

  -- the margin of a row
  clean-margin : (switches : Switches) (w display_offset : ℕ) (x : Row) → AreClean P (margin_pieces switches w display_offset x)
  unfolding margin_pieces
  clean-margin switches w display_offset x =
      let blank = clean-printable (32 ∷ []) refl in
      let gap = cond_both switches.compact [] (blank_piece ∷ []) (AreClean P) (λ _. tt) (λ _. (blank, tt)) in
      (blank, (clean-margin_text switches.char_set w display_offset x, gap))

  -- the line and the column that a group header names
  clean-location : (ls : List (List ℕ)) (display_offset : ℕ) (place : Option ℕ) → P (location_text ls display_offset place)
  unfolding location_text
  clean-location ls display_offset None = clean-printable (codes "?:?") refl
  clean-location ls display_offset (Some o) = search (clean-append, clean-decimal, clean-printable)

  -- a group header
  clean-header : (g : Section) (w : ℕ) → IsCleanSection P g → AreClean P (group_header_pieces g w)
  unfolding group_header_pieces
  clean-header g w h =
      let name = h.name in let place = clean-location g.sheet.lines g.display_offset g.header_offset in
      search (clean-append, clean-spaces, clean-glyph, clean-printable)

  -- the row below it
  clean-spacer : (set : CharSet) (w : ℕ) → AreClean P (spacer_pieces set w)
  unfolding spacer_pieces
  clean-spacer set w = search (clean-spaces, clean-glyph)

  -- the row at the group's end
  clean-tail : (set : CharSet) (w : ℕ) (is_last : Bool) → AreClean P (tail_pieces set w is_last)
  unfolding tail_pieces repeated
  clean-tail set w false = clean-spacer set w
  clean-tail set w true =
      let bar = kept-joined P kept (λ (k : ℕ). glyph_text set Hbar) (λ k. clean-glyph set Hbar) (upto (w + 2)) in
      search (clean-append, clean-glyph)

  -- ---- messages, helps and notes

  module _ (t : Texts) (clean : AreCleanTexts P t) where
    -- the message of a label
    clean-message : (x : Option LineLabel) → AreClean P (message_pieces t x)
    unfolding message_pieces message_at
    clean-message None = tt
    clean-message (Some x) =
        let message = message_at t x.info.position in
        let says = all-or P t.messages x.info.position [] (kept-nil P kept) clean.messages in
        cond_both (is_start x.side) [] (blank_piece ∷ plain_text message ∷ []) (AreClean P)
        (λ _. tt) (λ _. (clean-printable (32 ∷ []) refl, (says, tt)))

    -- the word in front of a help or a note
    clean-name : (a : Aside) → P (aside_name a)
    unfolding aside_name
    clean-name help = clean-printable (codes "Help") refl
    clean-name note = clean-printable (codes "Note") refl

    -- that word with its number, where it has one
    clean-prefix : (a : Aside) (k : ℕ) → P (aside_prefix t a k)
    unfolding aside_prefix
    clean-prefix a k =
        let is_one = length (aside_texts t a) == 1 in let number = codes " " ++ decimal (k + 1) in
        let clean : P number = search (clean-append, clean-decimal, clean-printable) in
        clean-append (aside_name a) (if is_one then [] else number) (clean-name a)
        (cond_both is_one [] number P (λ _. kept-nil P kept) (λ _. clean))

    -- the helps, or the notes
    clean-texts : (a : Aside) → HaveCleanLines P (aside_texts t a)
    unfolding aside_texts
    clean-texts help = clean.helps
    clean-texts note = clean.notes

    -- a line of one
    clean-aside_line : (a : Aside) (k p : ℕ) → P (aside_line t a k p)
    unfolding aside_line
    clean-aside_line a k p =
        let text = slice_index_or (aside_texts t a) k [] in
        all-or P (lines text) p [] (kept-nil P kept) (all-or (λ t. AllByRecursion P (lines t)) (aside_texts t a) k [] tt (clean-texts a))

    -- a row of one
    clean-aside : (a : Aside) (k p : ℕ) → AreClean P (aside_pieces t a k p)
    unfolding aside_pieces
    clean-aside a k zero = let line = clean-aside_line a k 0 in search (clean-append, clean-prefix, clean-printable)
    clean-aside a k (suc p) = search (clean-append, clean-spaces, clean-aside_line)

    -- ---- rows

    module _ (w : ℕ) (g : Section) (named : IsCleanSection P g) where
      -- what follows the gutter
      clean-text : (x : Row) → AreClean P (text_pieces t g x)
      unfolding text_pieces
      clean-text (source l) = search (clean-source)
      clean-text (alternate l r) = search (clean-area)
      clean-text (arrow l r) = search (all-append, clean-area, clean-message)
      clean-text (piece a k p) = search (clean-aside)
      clean-text x = tt

      -- what follows the margin
      clean-rest : (x : Row) → AreClean P (rest_pieces t g x)
      unfolding rest_pieces
      clean-rest (bare l) = tt
      clean-rest x = all-append (IsCleanPiece P) _ _ (clean-gutter g.sheet x) (clean-text x)

      -- a row
      pub clean-row : (x : Row) → AreClean P (row_pieces t w g x)
      unfolding row_pieces
      clean-row group_header = clean-header g w named
      clean-row spacer = clean-spacer g.sheet.switches.char_set w
      clean-row tail = clean-tail g.sheet.switches.char_set w g.is_last
      clean-row x = search (all-append, clean-margin, clean-rest)
