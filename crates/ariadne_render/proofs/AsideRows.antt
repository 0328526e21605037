-- The rows of helps and notes.
use Rattle.std.proofs.Common.{◌≡◌, ℕ, zero, suc, Bool, true, false, if◌then◌else◌, List, [], ◌∷◌, ◌++◌, Option, Some, None, ◌+◌, ◌*◌, ◌<◌, ◌≤◌, ◌==◌}
use Rattle.std.proofs.Common.{length, map, take, slice_index_or, decimal, codes, refl, sym, ap, ◌∙◌, subst}
use Rattle.std.proofs.Common.{append_assoc, length-append, zero-add}
use Rattle.std.specs.List.{enumerate_from}
use Rattle.std.specs.Str.Lines.{lines}
use Rattle.std.proofs.lemmas.List.{append-nil, get_or-map, map-append}
use Rattle.ariadne_base.specs.Locations.{upto}
use Rattle.ariadne_color.specs.Escapes.{opened, closed}
use Rattle.ariadne_picture.specs.declared.cell.Paint.TheVariants.{Note}
use Rattle.ariadne_picture.specs.declared.switches.Switches.{Switches}
use Rattle.ariadne_picture.specs.Canvas.{color_of}
use Rattle.ariadne_picture.specs.Pieces.{Piece, Section, Texts, aside_line, aside_name, aside_pieces, aside_prefix, aside_texts, gutter_pieces}
use Rattle.ariadne_picture.specs.Pieces.{margin_paint, margin_pieces, margin_text, painted_text, plain_text, rest_pieces, row_pieces, spaces, text_pieces}
use Rattle.ariadne_picture.specs.Pieces.{column_size}
use Rattle.ariadne_picture.specs.Rows.{Aside, Row, aside_rows, asides, bare, blank, piece}
use Rattle.ariadne_picture.specs.Lists.{joined}
use Rattle.ariadne_picture.proofs.Lists.Joined.{joined-append, joined-one, range_more}
use Rattle.ariadne_picture.specs.Ranks.{Sheet}
use Rattle.ariadne_layout.proofs.Listing.{all-enumerated, enumerated-more}
use Rattle.ariadne_render.specs.Pages.{Adds, Draws, DrawsRow, DrawsRows, PageFields, PenFields}
use Rattle.ariadne_render.proofs.Bytes.{painted_parts, spaces-append}
use Rattle.ariadne_render.proofs.Drawn.{adds_same, adds-append, draws-append, draws_one, draws_plain, draws_row_ended}
use Rattle.ariadne_render.proofs.Drawn.{draws_rows_more, draws_rows_none, draws_rows_one, draws_rows-append, page_kept}
use Rattle.ariadne_render.proofs.HeaderBytes.{spaces_two}
use Rattle.ariadne_render.specs.Gutters.{GutterFields, IsOfSheet, columns}
use Rattle.ariadne_render.specs.RowTexts.{IsOnPage, aside_number, prefix_text, told_pieces}
use Rattle.ariadne_render.proofs.GutterRows.{blank-bytes, blank-ink, draws_gutter, piece-ink}

-- ---- the word in front of a text, and what stands in its place

-- the word in front of a text, and its number, in their colour
pub draws_prefix : (a b c d e : PenFields) (word : List ℕ) (number : Option ℕ) → Adds a b (opened (color_of a.page.palette Note)) → Adds b c word
    → Adds c d (aside_number number) → Adds d e (closed (color_of d.page.palette Note)) → Draws a e (painted_text Note (prefix_text word number) ∷ [])
unfolding prefix_text
draws_prefix a b c d e word number opening told numbered closing =
    let text = word ++ aside_number number in
    let before : Adds a d (opened (color_of a.page.palette Note) ++ text) =
    adds-append a b d _ text opening (adds-append b c d word _ told numbered) in
    let behind : Adds d e (closed (color_of a.page.palette Note)) =
    subst (λ (page : PageFields). Adds d e (closed (color_of page.palette Note))) (page_kept a d _ before) closing in
    draws_one a e (painted_text Note text)
    (adds_same a e _ _ (sym (painted_parts (color_of a.page.palette Note) text)) (adds-append a d e _ _ before behind))

-- blanks in place of a number
pub hanging_number : (n : ℕ) → (32 ∷ []) ++ spaces (length (decimal n)) ≡ spaces (length (aside_number (Some n)))
unfolding spaces aside_number
hanging_number n = refl

-- and of none
pub hanging_none : spaces (length (aside_number None)) ≡ []
unfolding spaces aside_number
hanging_none = refl

-- blanks in place of the word, its number and two characters
pub hanging : (m n : ℕ) → spaces m ++ spaces n ++ codes "  " ≡ spaces (m + n + 2)
hanging m n = ap (λ t. t ++ codes "  ") (spaces-append m n) ∙ spaces_two (m + n)

-- ---- lines

-- the first line stands behind the word
pub draws_first : (a b c d : PenFields) (prefix line : List ℕ) → Draws a b (painted_text Note prefix ∷ []) → Adds b c (codes ": ") → Adds c d line
    → Draws a d (painted_text Note prefix ∷ plain_text (codes ": " ++ line) ∷ [])
draws_first a b c d prefix line word colon text =
    draws-append a b d (painted_text Note prefix ∷ []) (plain_text (codes ": " ++ line) ∷ []) word
    (draws_plain b d (codes ": " ++ line) (adds-append b c d (codes ": ") line colon text))

-- another line stands behind as many blanks
pub draws_further : (a b c : PenFields) (word : List ℕ) (number : Option ℕ) (line : List ℕ)
    → Adds a b (spaces (length word + length (aside_number number) + 2)) → Adds b c line
    → Draws a c (plain_text (spaces (length (prefix_text word number) + 2) ++ line) ∷ [])
unfolding prefix_text
draws_further a b c word number line blanks text =
    let n = length (word ++ aside_number number) + 2 in
    let len = ap (λ k. spaces (k + 2)) (sym (length-append word (aside_number number))) in
    draws_plain a c (spaces n ++ line) (adds-append a b c (spaces n) line (adds_same a b _ _ len blanks) text)

-- the first line is what stands under number 0
pub told_first : (word : List ℕ) (number : Option ℕ) (p : ℕ) (line : List ℕ) → p ≡ 0
    → ◌≡◌ {A = List Piece} (painted_text Note (prefix_text word number) ∷ plain_text (codes ": " ++ line) ∷ []) (told_pieces word number p line)
unfolding told_pieces
told_first word number p line first = ap (λ q. told_pieces word number q line) (sym first)

-- another line is what stands under its number
pub told_further : (word : List ℕ) (number : Option ℕ) (p : ℕ) (line : List ℕ) → (p ≡ 0 → ⊥)
    → ◌≡◌ {A = List Piece} (plain_text (spaces (length (prefix_text word number) + 2) ++ line) ∷ []) (told_pieces word number p line)
unfolding told_pieces
told_further word number zero line other = absurd (other refl)
told_further word number (suc p) line other = refl

-- the line of a help or a note behind its own word and number
pub told_is : (t : Texts) (a : Aside) (k p : ℕ) (word : List ℕ) (number : Option ℕ) (line : List ℕ) → prefix_text word number ≡ aside_prefix t a k
    → line ≡ aside_line t a k p → told_pieces word number p line ≡ aside_pieces t a k p
unfolding told_pieces aside_pieces
told_is t a k zero word number line told here = λ i. painted_text Note (told i) ∷ plain_text (codes ": " ++ here i) ∷ []
told_is t a k (suc p) word number line told here = λ i. plain_text (spaces (length (told i) + 2) ++ here i) ∷ []

-- ---- where a row begins

-- below the lines of a group a row begins with a margin and blanks in place of its gutter
module _ (a b c : PenFields) (s : Sheet) (g : GutterFields) (page : g.page ≡ a.page) (of : IsOfSheet s g)
    (margin : Draws a b (margin_pieces a.page.switches a.page.number_width 0 (bare 0))) (bars : length g.positions ≡ length g.bars)
    (free : Adds b c (spaces (columns g * column_size g.page.switches))) where
  pub starts_blank : (x : Aside) (k : ℕ)
      → Draws a c (margin_pieces a.page.switches a.page.number_width 0 (bare 0) ++ gutter_pieces s (blank x k))
  starts_blank x k =
      draws-append a b c _ _ margin
      (draws_gutter b c s (blank x k) g _ (page ∙ sym (page_kept a b _ margin)) (blank-bytes s (blank x k) g of bars (blank-ink s x k)) free)

  pub starts_piece : (x : Aside) (k p : ℕ)
      → Draws a c (margin_pieces a.page.switches a.page.number_width 0 (bare 0) ++ gutter_pieces s (piece x k p))
  starts_piece x k p =
      draws-append a b c _ _ margin
      (draws_gutter b c s (piece x k p) g _ (page ∙ sym (page_kept a b _ margin)) (blank-bytes s (piece x k p) g of bars (piece-ink s x k p)) free)

-- ---- rows

module _ (a : PenFields) (t : Texts) (g : Section) (on : IsOnPage t g a.page) where
  -- the row above a help or a note is a margin and a gutter
  pub draws_aside_blank : (b c : PenFields) (x : Aside) (k : ℕ)
      → Draws a b (margin_pieces a.page.switches a.page.number_width 0 (bare 0) ++ gutter_pieces g.sheet (blank x k)) → Adds b c (10 ∷ [])
      → DrawsRow a c (row_pieces t a.page.number_width g (blank x k))
  unfolding row_pieces rest_pieces text_pieces margin_pieces margin_text margin_paint
  draws_aside_blank b c x k start end =
      let here : Switches → List Piece = λ s. margin_pieces s a.page.number_width 0 (bare 0) ++ gutter_pieces g.sheet (blank x k) in
      let margin = margin_pieces g.sheet.switches a.page.number_width 0 (bare 0) in
      let alone = ap (λ pieces. margin ++ pieces) (append-nil (gutter_pieces g.sheet (blank x k))) in
      subst (DrawsRow a c) (sym (alone ∙ ap here on.sheet)) (draws_row_ended a b c (here a.page.switches) start end)

  -- the row of a line has its text behind them
  pub draws_aside_piece : (b c d : PenFields) (x : Aside) (k p : ℕ)
      → Draws a b (margin_pieces a.page.switches a.page.number_width 0 (bare 0) ++ gutter_pieces g.sheet (piece x k p))
      → Draws b c (aside_pieces t x k p) → Adds c d (10 ∷ []) → DrawsRow a d (row_pieces t a.page.number_width g (piece x k p))
  unfolding row_pieces rest_pieces text_pieces margin_pieces margin_text margin_paint
  draws_aside_piece b c d x k p start text end =
      let margin : Switches → List Piece = λ s. margin_pieces s a.page.number_width 0 (bare 0) in
      let gutter = gutter_pieces g.sheet (piece x k p) in
      let pieces = aside_pieces t x k p in
      subst (DrawsRow a d) (append_assoc (margin a.page.switches) gutter pieces ∙ sym (ap (λ s. margin s ++ (gutter ++ pieces)) on.sheet))
      (draws_row_ended a c d _ (draws-append a b c (margin a.page.switches ++ gutter) pieces start text) end)

-- without it nothing is drawn
pub draws_above_none : (a : PenFields) (f : Row → List Piece) (row : Row) (compact : Bool) → compact ≡ true
    → DrawsRows a a (map f (if compact then [] else row ∷ []))
draws_above_none a f row compact e = subst (DrawsRows a a) (ap (λ b. map f (if b then [] else row ∷ [])) (sym e)) (draws_rows_none a)

-- with it that row is
pub draws_above : (a b : PenFields) (f : Row → List Piece) (row : Row) (compact : Bool) → compact ≡ false → DrawsRow a b (f row)
    → DrawsRows a b (map f (if compact then [] else row ∷ []))
draws_above a b f row compact e h = subst (DrawsRows a b) (ap (λ c. map f (if c then [] else row ∷ [])) (sym e)) (draws_rows_one a b (f row) h)

-- the rows of one line more
lines_more : (f : Row → List Piece) (x : Aside) (k n : ℕ)
    → map f (map (piece x k) (upto n)) ++ f (piece x k n) ∷ [] ≡ map f (map (piece x k) (upto (n + 1)))
lines_more f x k n =
    let so_far = map (piece x k) (upto n) in
    sym (ap (λ ns. map f (map (piece x k) ns)) (range_more 0 n) ∙ ap (map f) (map-append (piece x k) (upto n) ((0 + n) ∷ []))
    ∙ map-append f so_far (piece x k (0 + n) ∷ []) ∙ ap (λ m. map f so_far ++ f (piece x k m) ∷ []) (zero-add n))

-- they are drawn behind those of the lines before it
pub draws_line : (a b c : PenFields) (t : Texts) (g : Section) (x : Aside) (k n : ℕ) → b.page ≡ a.page
    → DrawsRows a b (map (row_pieces t a.page.number_width g) (map (piece x k) (upto n)))
    → DrawsRow b c (row_pieces t b.page.number_width g (piece x k n))
    → DrawsRows a c (map (row_pieces t a.page.number_width g) (map (piece x k) (upto (n + 1))))
draws_line a b c t g x k n kept before here =
    let f = row_pieces t a.page.number_width g in
    subst (DrawsRows a c) (lines_more f x k n)
    (draws_rows_more a b c (map f (map (piece x k) (upto n))) (f (piece x k n)) before
    (subst (λ (page : PageFields). DrawsRow b c (row_pieces t page.number_width g (piece x k n))) kept here))

-- the rows of a text are the one above it, and those of its lines
pub draws_aside : (a b c : PenFields) (t : Texts) (g : Section) (x : Aside) (k : ℕ) (text : List ℕ) → b.page ≡ a.page
    → DrawsRows a b (map (row_pieces t a.page.number_width g) (if a.page.switches.compact then [] else blank x k ∷ []))
    → DrawsRows b c (map (row_pieces t b.page.number_width g) (map (piece x k) (upto (length (lines text)))))
    → DrawsRows a c (map (row_pieces t a.page.number_width g) (aside_rows a.page.switches.compact x (k, text)))
unfolding aside_rows
draws_aside a b c t g x k text kept above told =
    let f = row_pieces t a.page.number_width g in
    let rows = map (piece x k) (upto (length (lines text))) in
    let first = if a.page.switches.compact then [] else blank x k ∷ [] in
    subst (DrawsRows a c) (sym (map-append f first rows))
    (draws_rows-append a b c (map f first) (map f rows) above
    (subst (λ (page : PageFields). DrawsRows b c (map (row_pieces t page.number_width g) rows)) kept told))

-- ---- all texts

-- the rows of one text more
asides_more : (f : Row → List Piece) (compact : Bool) (x : Aside) (texts : List (List ℕ)) (k : ℕ) → k < length texts
    → map f (joined (aside_rows compact x) (take k (enumerate_from 0 texts))) ++ map f (aside_rows compact x (k, slice_index_or texts k []))
    ≡ map f (joined (aside_rows compact x) (take (k + 1) (enumerate_from 0 texts)))
asides_more f compact x texts k h =
    let rows = aside_rows compact x in
    let so_far = take k (enumerate_from 0 texts) in
    let here : ℕ × List ℕ = (k, slice_index_or texts k []) in
    sym (ap (λ es. map f (joined rows es)) (enumerated-more texts k [] h) ∙ ap (map f) (joined-append rows so_far (here ∷ []))
    ∙ map-append f (joined rows so_far) (joined rows (here ∷ [])) ∙ ap (λ rs. map f (joined rows so_far) ++ map f rs) (joined-one rows here))

-- they are drawn behind those of the texts before it
pub draws_asides_more : (a b c : PenFields) (t : Texts) (g : Section) (x : Aside) (texts : List (List ℕ)) (k : ℕ) (text : List ℕ) → k < length texts
    → text ≡ slice_index_or texts k [] → b.page ≡ a.page
    → DrawsRows a b (map (row_pieces t a.page.number_width g) (joined (aside_rows a.page.switches.compact x) (take k (enumerate_from 0 texts))))
    → DrawsRows b c (map (row_pieces t b.page.number_width g) (aside_rows b.page.switches.compact x (k, text)))
    → DrawsRows a c (map (row_pieces t a.page.number_width g) (joined (aside_rows a.page.switches.compact x) (take (k + 1) (enumerate_from 0 texts))))
draws_asides_more a b c t g x texts k text h told kept before here =
    let f = row_pieces t a.page.number_width g in
    let rows = aside_rows a.page.switches.compact x in
    subst (DrawsRows a c) (asides_more f a.page.switches.compact x texts k h)
    (draws_rows-append a b c (map f (joined rows (take k (enumerate_from 0 texts)))) (map f (rows (k, slice_index_or texts k []))) before
    (subst (DrawsRows b c)
    (λ i. map (row_pieces t ((kept i).number_width) g) (aside_rows ((kept i).switches.compact) x (k, told i))) here))

-- of no texts nothing is drawn
pub draws_asides_none : (a : PenFields) (f : Row → List Piece) (compact : Bool) (x : Aside) (texts : List (List ℕ))
    → DrawsRows a a (map f (joined (aside_rows compact x) (take 0 (enumerate_from 0 texts))))
unfolding joined
draws_asides_none a f compact x texts = draws_rows_none a

-- all texts
pub draws_asides_all : (a b : PenFields) (f : Row → List Piece) (compact : Bool) (x : Aside) (texts : List (List ℕ)) (n : ℕ) → length texts ≤ n
    → DrawsRows a b (map f (joined (aside_rows compact x) (take n (enumerate_from 0 texts)))) → DrawsRows a b (map f (asides compact x texts))
unfolding asides
draws_asides_all a b f compact x texts n h =
    subst (λ es. DrawsRows a b (map f (joined (aside_rows compact x) es))) (all-enumerated texts n h)

-- the word of a text, and its number where there are several
pub aside_word : (t : Texts) (a : Aside) (k n : ℕ) (word : List ℕ) (number : Option ℕ) → word ≡ aside_name a → n ≡ length (aside_texts t a)
    → aside_number number ≡ (if n == 1 then [] else codes " " ++ decimal (k + 1)) → prefix_text word number ≡ aside_prefix t a k
unfolding prefix_text aside_prefix
aside_word t a k n word number named count numbered =
    let both = numbered ∙ ap (λ m. if m == 1 then [] else codes " " ++ decimal (k + 1)) count in
    λ i. named i ++ both i

-- the text of an element
pub text_at : {X : Type 0} (f : X → List ℕ) (texts : List (List ℕ)) (xs : List X) (k : ℕ) (x : X) (text : List ℕ) → texts ≡ map f xs → k < length xs
    → x ≡ slice_index_or xs k x → text ≡ f x → text ≡ slice_index_or texts k []
text_at f texts xs k x text e h here told = told ∙ ap f here ∙ sym (get_or-map f xs k x [] h) ∙ ap (λ ts. slice_index_or ts k []) (sym e)
