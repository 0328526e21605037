-- What holds of every text of a picture holds of each cell, where it does of the texts that were handed in as they are shown. So
-- no cell has a control byte where none of these texts shows it: neither the byte that begins an escape sequence nor, where
-- rows show texts whole, a line feed.
use Rattle.std.proofs.Common.{◌≡◌, ◌≢◌, ℕ, zero, suc, true, List, [], ◌∷◌, ◌++◌, length, map, Option, Some, None, refl, sym, ap, ◌∙◌, subst, arith}
use Rattle.std.specs.Prelude.{IfSome, slice_get, codes, unwrap_or, option_map, option_and_then}
use Rattle.std.specs.List.{AllByRecursion, list_all, enumerate_from}
use Rattle.std.specs.Char.{is_whitespace}
use Rattle.std.specs.Str.Lines.{lines}
use Rattle.std.proofs.lemmas.Bool.{true≢false}
use Rattle.ariadne_base.specs.Lines.{lines_of, full_lines_of}
use Rattle.std.specs.Str.{chars}
use Rattle.ariadne_base.specs.Listing.{Listing, listed_lines}
use Rattle.ariadne_picture.specs.declared.label_info.LabelInfo.{LabelInfo}
use Rattle.ariadne_picture.specs.Report.{LabelFields, ReportFields, World}
use Rattle.ariadne_picture.specs.Rows.{rows}
use Rattle.ariadne_picture.specs.Pieces.{shown_text, row_pieces, section_rows}
use Rattle.ariadne_picture.specs.Canvas.{Cell, cell_of, palette_of, kind_name, code_text, header_pieces, texts_of, label_id, group_id, group_source}
use Rattle.ariadne_picture.specs.Canvas.{section_of, groups, number_width, outline, canvas}
use Rattle.ariadne_picture.specs.Sent.{HaveNoLineFeeds}
use Rattle.ariadne_picture.specs.Variants.{HasNoEscape, HaveNoEscapes}
use Rattle.ariadne_picture.proofs.Lists.ListFacts.{all-weaker, all-map, all-every}
use Rattle.ariadne_picture.proofs.Variants.CleanTexts.{IsKept, is_plain, kept-nil, IsClean, HasNo, IsControl, clean-from, clean-test, clean-kept, clean-shown}
use Rattle.ariadne_picture.proofs.Variants.CleanTexts.{all-parts, all-lines_of, clean-lines, fed-lines}
use Rattle.ariadne_picture.proofs.Variants.CleanPieces.{AreClean, HaveCleanLines, AreShownClean, AreCleanTexts, IsCleanSection, clean-row}
use Rattle.ariadne_picture.proofs.Parts.{group_name, outline-is}

-- ---- what is looked up

-- what there is, or what stands for nothing
some-or : {X : Type 0} (P : X → Type 0) (o : Option X) (d : X) → IfSome o P → P d → P (unwrap_or o d)
some-or P None d h e = e
some-or P (Some x) d h e = h

-- what the element at a place gives
all-given : {X Y : Type 0} (P : Y → Type 0) (f : X → Option Y) (xs : List X) (k : ℕ) (d : Y) → P d
    → AllByRecursion (λ x. IfSome (f x) P) xs → P (unwrap_or (option_and_then f (slice_get xs k)) d)
all-given P f [] k d h a = h
all-given P f (x ∷ xs) zero d h a = some-or P (f x) d a.0 h
all-given P f (x ∷ xs) (suc k) d h a = all-given P f xs k d h a.1

-- of what there may be each is so
some-every : {X : Type 0} (P : X → Type 0) → ((x : X) → P x) → (o : Option X) → IfSome o P
some-every P f None = tt
some-every P f (Some x) = f x

some-weaker : {X : Type 0} (P Q : X → Type 0) → ((x : X) → P x → Q x) → (o : Option X) → IfSome o P → IfSome o Q
some-weaker P Q f None h = tt
some-weaker P Q f (Some x) h = f x h

-- it holds of each text of a report, and of those that it is drawn with, as they are shown
pub record Shows {S Id : Type 0} (P : List ℕ → Type 0) (w : World S Id) (r : ReportFields S) : Type 0 where
  pub kind : P (kind_name r.kind)
  pub code : IfSome r.code P
  pub message : IfSome r.message P
  pub labels : AllByRecursion (λ label. IfSome label.message P) r.labels
  pub notes : HaveCleanLines P r.notes
  pub helps : HaveCleanLines P r.helps
  pub names : AllByRecursion (λ label. IfSome (w.name_of (w.id_of label.span)) P) r.labels
  pub sources : AllByRecursion (λ label. IfSome (w.source_of (w.id_of label.span)) (λ source. AreShownClean P (listed_lines source))) r.labels

module _ {S Id : Type 0} (w : World S Id) (r : ReportFields S) where
  -- what is held under the id of a group's first label
  all-held : {Y : Type 0} (P : Y → Type 0) (f : Id → Option Y) (d : Y) (group : List LabelInfo) → P d
      → AllByRecursion (λ label. IfSome (f (w.id_of label.span)) P) r.labels
      → P (unwrap_or (option_and_then f (group_id w r group)) d)
  unfolding group_id label_id
  all-held P f d [] h a = h
  all-held P f d (x ∷ group) h a =
      subst (λ o. P (unwrap_or o d)) (given f (λ (label : LabelFields S). w.id_of label.span) (slice_get r.labels x.position))
      (all-given P (λ label. f (w.id_of label.span)) r.labels x.position d h a)
    where
      given : {X Y Z : Type 0} (f : Y → Option Z) (g : X → Y) (o : Option X)
          → option_and_then (λ x. f (g x)) o ≡ option_and_then f (option_map g o)
      given f g None = refl
      given f g (Some x) = refl

  module _ (P : List ℕ → Type 0) (kept : IsKept P) (h : Shows P w r) where
    append : (s t : List ℕ) → P s → P t → P (s ++ t)
    append = kept.append

    printable : (t : List ℕ) → list_all is_plain t ≡ true → P t
    printable = kept.plain

    nil : P []
    nil = kept-nil P kept

    -- ---- what a report shows

    -- its code in brackets
    clean-code : (code : Option (List ℕ)) → IfSome code P → P (code_text code)
    clean-code None h = nil
    clean-code (Some code) h = let name : P code = h in search (append, printable)

    -- its texts
    clean-texts_of : AreCleanTexts P (texts_of r)
    unfolding texts_of
    clean-texts_of = record {
      kind_text =
          let code = clean-code r.code h.code in let kind = h.kind in
          search (append, printable);
      message = some-or P r.message [] h.message nil;
      helps = h.helps;
      notes = h.notes;
      messages =
          let says = λ (label : LabelFields S). some-or P label.message [] in
          all-map P (λ label. unwrap_or label.message []) r.labels
          (all-weaker (λ label. IfSome label.message P) (λ label. P (unwrap_or label.message [])) r.labels (λ label given. says label given nil) h.labels);
    }

    -- the name of a group's source
    clean-group_name : (group : List LabelInfo) → P (group_name w r group)
    clean-group_name group =
        all-held P w.name_of (codes "<unknown>") group (printable (codes "<unknown>") refl) h.names

    -- the lines of that source
    clean-group_lines : (group : List LabelInfo) → AreShownClean P (listed_lines (group_source w r group))
    unfolding group_source chars lines_of full_lines_of
    clean-group_lines group =
        let none : Listing = record { text = []; display_offset = 0 } in
        all-held (λ source. AreShownClean P (listed_lines source)) w.source_of none group (tt, tt) h.sources

    -- a group within the picture
    clean-section : (n : ℕ) (e : ℕ × List LabelInfo) → IsCleanSection P (section_of w r n e)
    unfolding section_of
    clean-section n e = record { name = clean-group_name e.1; lines = clean-group_lines e.1 }

    -- ---- the picture

    -- its rows
    clean-rows : (m n : ℕ) (e : ℕ × List LabelInfo) → AllByRecursion (AreClean P) (section_rows (texts_of r) m (section_of w r n e))
    unfolding section_rows
    clean-rows m n e =
        let t = texts_of r in let g = section_of w r n e in let row = row_pieces t m g in
        let names = rows g.sheet g.is_last t.helps t.notes in
        all-map (AreClean P) row names (all-every (λ x. AreClean P (row x)) (clean-row P kept t clean-texts_of m g (clean-section n e)) names)

    -- the header, and the rows of all groups
    clean-outline : (infos : List LabelInfo) → AllByRecursion (AreClean P) (outline w r infos)
    unfolding header_pieces
    clean-outline infos =
        let gs = groups w r infos in
        let t = texts_of r in let m = number_width w r gs in let n = length gs in
        let message = append (codes " ") (unwrap_or t.message []) (printable (codes " ") refl) clean-texts_of.message in
        let parts = all-parts (AreClean P) (λ e. section_rows t m (section_of w r n e)) (clean-rows m n) (enumerate_from 0 gs) in
        subst (AllByRecursion (AreClean P)) (sym (outline-is w r infos)) ((clean-texts_of.kind_text, (message, tt)), parts)

    -- so of each cell, whose text is that of a piece
    pub every-cell : (infos : List LabelInfo) → AllByRecursion (AllByRecursion (λ (c : Cell). P c.text)) (canvas w r infos)
    unfolding canvas
    every-cell infos =
        let cell = cell_of (palette_of r) in
        let IsPlain : Cell → Type 0 = λ c. P c.text in
        all-map (AllByRecursion IsPlain) (map cell) (outline w r infos)
        (all-weaker (AreClean P) (λ ps. AllByRecursion IsPlain (map cell ps)) (outline w r infos) (λ ps a. all-map IsPlain cell ps a) (clean-outline infos))

-- ---- the byte that begins an escape sequence

-- texts without it have lines without it
escape-lines : (ts : List (List ℕ)) → AllByRecursion HasNoEscape ts → HaveCleanLines (IsClean 27) ts
escape-lines ts a = all-weaker HasNoEscape (λ t. AllByRecursion (IsClean 27) (lines t)) ts (λ t h. clean-lines 27 t (clean-from 27 t h)) a

-- what there is of them
escape-some : (o : Option (List ℕ)) → IfSome o HasNoEscape → IfSome o (IsClean 27)
escape-some o h = some-weaker HasNoEscape (IsClean 27) (clean-from 27) o h

-- so no cell has it
pub no-cell-escapes : {S Id : Type 0} (w : World S Id) (r : ReportFields S) (infos : List LabelInfo) → HaveNoEscapes w r
    → AllByRecursion (AllByRecursion (λ (c : Cell). HasNoEscape c.text)) (canvas w r infos)
no-cell-escapes w r infos h =
    let control : IsControl 27 = record { some = omega arith; low = omega arith } in
    let shown : (source : Listing) → HasNoEscape (chars source.text) → AreShownClean (IsClean 27) (listed_lines source) =
    λ source none. all-weaker (IsClean 27) (AllByRecursion (λ c. IsClean 27 (shown_text c))) (listed_lines source)
    (λ l a. all-weaker (λ c. c ≢ 27) (λ c. IsClean 27 (shown_text c)) l (λ c ne. clean-shown 27 control c (λ _. ne)) a)
    (all-lines_of (λ c. c ≢ 27) (chars source.text) (clean-from 27 (chars source.text) none)) in
    let IsPlain : Cell → Type 0 = λ c. HasNoEscape c.text in
    let IsCleanCell : Cell → Type 0 = λ c. IsClean 27 c.text in
    all-weaker (AllByRecursion IsCleanCell) (AllByRecursion IsPlain) (canvas w r infos)
    (λ row a. all-weaker IsCleanCell IsPlain row (λ c. clean-test 27 c.text) a)
    (every-cell w r (IsClean 27) (clean-kept 27 control) (record {
      kind = clean-from 27 (kind_name r.kind) h.kind;
      code = escape-some r.code h.code;
      message = escape-some r.message h.message;
      labels = all-weaker _ _ r.labels (λ label o. escape-some label.message o) h.labels;
      notes = escape-lines r.notes h.notes;
      helps = escape-lines r.helps h.helps;
      names = all-weaker _ _ r.labels (λ label o. escape-some (w.name_of (w.id_of label.span)) o) h.names;
      sources = all-weaker _ _ r.labels (λ label o. some-weaker (λ (source : Listing). HasNoEscape (chars source.text))
          (λ source. AreShownClean (IsClean 27) (listed_lines source)) shown (w.source_of (w.id_of label.span)) o) h.sources;
    }) infos)

-- ---- line feeds

-- a character that is no blank is none
fed-shown : (ls : List (List ℕ)) → AreShownClean (IsClean 10) ls
fed-shown ls =
    let control : IsControl 10 = record { some = omega arith; low = omega arith } in
    all-every _ (λ l. all-every (λ c. IsClean 10 (shown_text c)) (λ c. clean-shown 10 control c (λ black e.
    true≢false (sym (ap is_whitespace e) ∙ black))) l) ls

-- what there is of texts without one
fed-some : (o : Option (List ℕ)) → IfSome o (HasNo 10) → IfSome o (IsClean 10)
fed-some o h = some-weaker (HasNo 10) (IsClean 10) (clean-from 10) o h

-- so no cell has one, whatever sources, helps and notes have
pub no-cell-feeds : {S Id : Type 0} (w : World S Id) (r : ReportFields S) (infos : List LabelInfo) → HaveNoLineFeeds w r
    → AllByRecursion (AllByRecursion (λ (c : Cell). IsClean 10 c.text)) (canvas w r infos)
no-cell-feeds w r infos h =
    let control : IsControl 10 = record { some = omega arith; low = omega arith } in
    every-cell w r (IsClean 10) (clean-kept 10 control) (record {
      kind = clean-from 10 (kind_name r.kind) h.kind;
      code = fed-some r.code h.code;
      message = fed-some r.message h.message;
      labels = all-weaker _ _ r.labels (λ label o. fed-some label.message o) h.labels;
      notes = all-every (λ t. AllByRecursion (IsClean 10) (lines t)) fed-lines r.notes;
      helps = all-every (λ t. AllByRecursion (IsClean 10) (lines t)) fed-lines r.helps;
      names = all-weaker _ _ r.labels (λ label o. fed-some (w.name_of (w.id_of label.span)) o) h.names;
      sources = all-every _ (λ label. some-every _ (λ (source : Listing). fed-shown (listed_lines source)) (w.source_of (w.id_of label.span))) r.labels;
    }) infos
