-- The texts of a source row and of the margins of the rows below it.
use Rattle.std.proofs.Common.{◌≡◌, ◌≢◌, ℕ, zero, suc, ◌+◌, ◌-◌, ◌/◌, ◌%◌, ◌<◌, Bool, false, List, [], ◌∷◌, ◌++◌, map}
use Rattle.std.proofs.Common.{drop, length, replicate, Some, refl, sym, ap, ◌∙◌, subst, arith, ◌==◌, inl, inr, append_assoc}
use Rattle.std.proofs.Common.{one-add}
use Rattle.std.specs.Prelude.{slice_get, slice_index, decimal, codes}
use Rattle.std.specs.Fmt.{digits, digits_onto, digit_glyph}
use Rattle.std.specs.List.{enumerate_from, prefix_len}
use Rattle.std.proofs.lemmas.Bool.{cond_both, cond-true, cond-false, ne_eqb, cases_Bool}
use Rattle.ariadne_base.specs.Locations.{upto}
use Rattle.ariadne_picture.specs.declared.switches.CharSet.{CharSet}
use Rattle.ariadne_picture.specs.declared.switches.CharSet.TheVariants.{Unicode, Ascii}
use Rattle.ariadne_picture.specs.declared.switches.Switches.{Switches}
use Rattle.ariadne_picture.specs.declared.cell.Glyph.TheVariants.{Vbar}
use Rattle.ariadne_picture.specs.declared.cell.Paint.{Paint}
use Rattle.ariadne_picture.specs.declared.cell.Paint.TheVariants.{Plain}
use Rattle.ariadne_picture.specs.declared.label_info.LabelInfo.{LabelInfo}
use Rattle.ariadne_picture.specs.Lists.{joined_numbered}
use Rattle.ariadne_picture.specs.Groups.{printed_number}
use Rattle.ariadne_picture.specs.Rows.{Row, source, alternate, arrow}
use Rattle.ariadne_picture.specs.declared.sight.Sight.{Sight}
use Rattle.ariadne_picture.specs.declared.sight.Sight.TheVariants.{Seen, Marked, Unseen}
use Rattle.ariadne_picture.specs.Columns.{Layout, shown, shown_columns, whole_column, sight_of, mark_columns}
use Rattle.ariadne_picture.specs.Cells.{glyph_code}
use Rattle.ariadne_picture.specs.Pieces.{blank_piece, Piece, Section, spaces, glyph_text, char_pieces, char_paint, mark_text, seen_pieces, source_pieces}
use Rattle.ariadne_picture.specs.Pieces.{shown_text, shown_pieces, margin_text, margin_paint, margin_pieces}
use Rattle.ariadne_picture.specs.Placing.Together.{unindented}
use Rattle.ariadne_picture.proofs.Lists.Joined.{joined-numbered, map-joined, joined-same}
use Rattle.ariadne_picture.proofs.Lists.ListFacts.{map-replicate}
use Rattle.ariadne_picture.proofs.Cells.RowCells.{front_pieces}
use Rattle.ariadne_picture.proofs.Parts.{place_pieces}

-- ---- texts without the blanks in front

-- a text that begins with no blank
pub record BeginsBare (t : List ℕ) : Type 0 where
  pub first : ℕ
  pub rest : List ℕ
  pub is : t ≡ first ∷ rest
  pub bare : first ≢ 32

-- it is left when blanks in front go
pub unindented-spaces : (n : ℕ) (t : List ℕ) → BeginsBare t → unindented (spaces n ++ t) ≡ t
unfolding unindented spaces
unindented-spaces zero t h =
    let stop : prefix_len (λ c. c == 32) (h.first ∷ h.rest) ≡ 0 = cond-false (h.first == 32) (1 + prefix_len (λ c. c == 32) h.rest) 0
    (ne_eqb h.first 32 h.bare) in
    subst (λ t. drop (prefix_len (λ c. c == 32) t) t ≡ t) (sym h.is) (ap (λ n. drop n (h.first ∷ h.rest)) stop)
unindented-spaces (suc n) t h =
    ap (λ k. drop k (32 ∷ (replicate n 32 ++ t))) (one-add (prefix_len (λ c. c == 32) (replicate n 32 ++ t))) ∙ unindented-spaces n t h

-- a text in front of others
pub bare-append : (s t : List ℕ) → BeginsBare s → BeginsBare (s ++ t)
bare-append s t h = record { first = h.first; rest = h.rest ++ t; is = ap (λ s. s ++ t) h.is; bare = h.bare }

-- a digit is no blank
digit-bare : (d : ℕ) → d < 10 → digit_glyph false d ≢ 32
digit-bare d h e =
    let is : digit_glyph false d ≡ 48 + d = cond-true (Rattle.std.proofs.Common.nat_lt d 10) (48 + d) (87 + d)
    (Rattle.std.proofs.lemmas.Bool.lt-ltb d 10 h) in
    omega (arith, is, e)

-- digits in front of digits begin with one
digits-bare : (k n c : ℕ) (acc : List ℕ) → c ≢ 32 → BeginsBare (digits_onto k 10 false n (c ∷ acc))
digits-bare zero n c acc h = record { first = c; rest = acc; is = refl; bare = h }
digits-bare (suc k) n c acc h =
    let less : n % 10 < 10 = omega arith in
    cond_both (n / 10 == 0) (digit_glyph false (n % 10) ∷ c ∷ acc) (digits_onto k 10 false (n / 10) (digit_glyph false (n % 10) ∷ c ∷ acc)) BeginsBare
    (λ _. record { first = digit_glyph false (n % 10); rest = c ∷ acc; is = refl; bare = digit-bare (n % 10) less })
    (λ _. digits-bare k (n / 10) (digit_glyph false (n % 10)) (c ∷ acc) (digit-bare (n % 10) less))

-- so does every number, however large
pub decimal-bare : (n : ℕ) → BeginsBare (decimal n)
unfolding digits
decimal-bare n =
    let less : n % 10 < 10 = omega arith in
    cond_both (n / 10 == 0) (digit_glyph false (n % 10) ∷ []) (digits_onto 63 10 false (n / 10) (digit_glyph false (n % 10) ∷ [])) BeginsBare
    (λ _. record { first = digit_glyph false (n % 10); rest = []; is = refl; bare = digit-bare (n % 10) less })
    (λ _. digits-bare 63 (n / 10) (digit_glyph false (n % 10)) [] (digit-bare (n % 10) less))

-- and a vertical
pub vbar-bare : (set : CharSet) → BeginsBare (glyph_text set Vbar)
unfolding glyph_text glyph_code lib.Utf8.encode
vbar-bare Unicode = record { first = 0xE2; rest = 0x94 ∷ 0x82 ∷ []; is = refl; bare = λ e. omega arith }
vbar-bare Ascii = record { first = 0x7C; rest = []; is = refl; bare = λ e. omega arith }

-- ---- the margin

-- the first cell of a row, one blank
pub margin-blank : (w : ℕ) (s : Section) (x : Row) → slice_get (front_pieces w s x) 0 ≡ Some blank_piece
unfolding margin_pieces
margin-blank w s x = refl

-- the third one is another, if not compact
pub margin-gap : (w : ℕ) (s : Section) (x : Row) → s.sheet.switches.compact ≡ false → slice_get (front_pieces w s x) 2 ≡ Some blank_piece
unfolding margin_pieces
margin-gap w s x loose = rw loose refl

-- the second cell of a row
pub margin-cell : (w : ℕ) (s : Section) (x : Row) → slice_get (front_pieces w s x) 1 ≡ Some
    (record { text = margin_text s.sheet.switches.char_set w s.display_offset x; paint = margin_paint x; columns = w + 2 })
unfolding margin_pieces
margin-cell w s x = refl

-- its text in a source row
pub source-margin : (set : CharSet) (w display_offset l : ℕ)
    → unindented (margin_text set w display_offset (source l)) ≡ decimal (printed_number display_offset l) ++ codes " " ++ glyph_text set Vbar
unfolding margin_text
source-margin set w display_offset l =
    let number = decimal (printed_number display_offset l) in
    let n : ℕ = w - length number in
    let group : spaces n ++ number ++ codes " " ++ glyph_text set Vbar ≡ spaces n
    ++ (number ++ codes " " ++ glyph_text set Vbar) = four (spaces n) number (codes " ") (glyph_text set Vbar) in
    ap unindented group ∙ unindented-spaces n (number ++ codes " " ++ glyph_text set Vbar)
    (bare-append (number ++ codes " ") (glyph_text set Vbar) (bare-append number (codes " ") (decimal-bare (printed_number display_offset l))))
  where
    four : (a b c d : List ℕ) → a ++ b ++ c ++ d ≡ a ++ (b ++ c ++ d)
    four a b c d = simp append_assoc

-- and in the rows of line labels
pub alternate-margin : (set : CharSet) (w display_offset l r : ℕ)
    → unindented (margin_text set w display_offset (alternate l r)) ≡ glyph_text set Vbar
unfolding margin_text
alternate-margin set w display_offset l r = unindented-spaces (w + 1) (glyph_text set Vbar) (vbar-bare set)

pub arrow-margin : (set : CharSet) (w display_offset l r : ℕ) → unindented (margin_text set w display_offset (arrow l r)) ≡ glyph_text set Vbar
unfolding margin_text
arrow-margin set w display_offset l r = unindented-spaces (w + 1) (glyph_text set Vbar) (vbar-bare set)

-- ---- the texts of a source row

-- what the cells of a character have beside their colour doesn't hang on that
same-cells : {X : Type 0} (f : Piece → X) → ((text : List ℕ) (p q : Paint) (n : ℕ)
    → f (record { text = text; paint = p; columns = n }) ≡ f (record { text = text; paint = q; columns = n }))
    → (switches : Switches) (paint : Paint) (x c : ℕ) → map f (char_pieces switches paint x c) ≡ map f (char_pieces switches Plain x c)
unfolding char_pieces
same-cells f same switches paint x c = elim (cases_Bool (c == 9)) [
  | inl tab ↦
      let n = shown_columns switches.tab_width x c in
      rw tab (map-replicate f n (record { text = 32 ∷ []; paint = paint; columns = 1 })
      ∙ ap (replicate n) (same (32 ∷ []) paint Plain 1)
      ∙ sym (map-replicate f n (record { text = 32 ∷ []; paint = Plain; columns = 1 })))
  | inr other ↦ rw other (ap (λ x. x ∷ []) (same (shown_text c) paint Plain (shown_columns switches.tab_width x c)))
]

-- so it is with what is seen of a place
same-seen : {X : Type 0} (f : Piece → X) → ((text : List ℕ) (p q : Paint) (n : ℕ)
    → f (record { text = text; paint = p; columns = n }) ≡ f (record { text = text; paint = q; columns = n }))
    → (switches : Switches) (paint : Paint) (y : Layout) (k c : ℕ) (sight : Sight)
    → map f (seen_pieces switches paint y k c sight) ≡ map f (seen_pieces switches Plain y k c sight)
unfolding seen_pieces
same-seen f same switches paint y k c Seen = same-cells f same switches paint (whole_column switches.tab_width (shown y) k) c
same-seen f same switches paint y k c Marked =
    ap (λ x. x ∷ []) (same (mark_text switches.char_set) paint Plain (mark_columns switches.char_set))
same-seen f same switches paint y k c Unseen = refl

same-source : {X : Type 0} (f : Piece → X) → ((text : List ℕ) (p q : Paint) (n : ℕ)
    → f (record { text = text; paint = p; columns = n }) ≡ f (record { text = text; paint = q; columns = n }))
    → (switches : Switches) (paint : Paint) (y : Layout) (k c : ℕ)
    → map f (source_pieces switches paint y k c) ≡ map f (source_pieces switches Plain y k c)
unfolding source_pieces
same-source f same switches paint y k c = same-seen f same switches paint y k c (sight_of y k)

-- the cells of all places
abbrev pub plain_cells : Switches → Layout → List Piece
plain_cells switches y = joined_numbered (source_pieces switches Plain y) (shown y)

-- so it is with those of a source row
pub shown-alike : {X : Type 0} (f : Piece → X) → ((text : List ℕ) (p q : Paint) (n : ℕ)
    → f (record { text = text; paint = p; columns = n }) ≡ f (record { text = text; paint = q; columns = n }))
    → (switches : Switches) (labels : List LabelInfo) (y : Layout) → map f (shown_pieces switches labels y) ≡ map f (plain_cells switches y)
unfolding shown_pieces
shown-alike f same switches labels y =
    map-joined f (place_pieces switches labels y) (upto (length (shown y)))
    ∙ joined-same (λ (k : ℕ). map f (place_pieces switches labels y k))
    (λ (k : ℕ). map f (source_pieces switches Plain y k (slice_index (shown y) k)))
    (λ k. same-source f same switches (char_paint labels y k) y k (slice_index (shown y) k)) (upto (length (shown y)))
    ∙ joined-numbered (λ e. map f (source_pieces switches Plain y e.0 e.1)) (shown y) 0 (shown y)
    (λ k. let z : k ≡ 0 + k = omega arith in ap (slice_index (shown y)) z)
    ∙ sym (map-joined f (λ e. source_pieces switches Plain y e.0 e.1) (enumerate_from 0 (shown y)))

-- its texts
pub shown-texts : (switches : Switches) (labels : List LabelInfo) (y : Layout)
    → map (λ (q : Piece). q.text) (shown_pieces switches labels y) ≡ map (λ (q : Piece). q.text) (plain_cells switches y)
shown-texts switches labels y = shown-alike (λ (q : Piece). q.text) (λ text p q n. refl) switches labels y

-- and its columns
pub shown-columns : (switches : Switches) (labels : List LabelInfo) (y : Layout)
    → map (λ (q : Piece). q.columns) (shown_pieces switches labels y) ≡ map (λ (q : Piece). q.columns) (plain_cells switches y)
shown-columns switches labels y = shown-alike (λ (q : Piece). q.columns) (λ text p q n. refl) switches labels y
