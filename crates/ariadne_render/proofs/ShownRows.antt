-- The characters of a source row: how each is written, and how many bytes its tabs take at least.
use Rattle.std.proofs.Common.{◌≡◌, ℕ, zero, suc, ◌+◌, ◌<◌, ◌≤◌, ◌==◌, eq-eqb, cond, Bool, true, false, List, [], ◌∷◌, ◌++◌, Option, Some, None, length, replicate, encode_utf8, encode_utf8_all, take, get_or, drop, ltb, slice_get, slice_index}
use Rattle.std.proofs.Common.{lit<, inl, inr, refl, sym, ap, subst, ◌∙◌, arith, length-append}
use Rattle.std.specs.Char.{is_whitespace, len_utf8}
use Rattle.std.specs.Bool.{MatchBool}
use Rattle.std.specs.Prelude.{IsTrue, ⊤, codes}
use Rattle.std.specs.List.{AllByRecursion, AllWithin, HoldsAt}
use Rattle.std.specs.Str.{chars, IsUtf8}
use Rattle.std.proofs.lemmas.Bool.{cases_Bool, ne_eqb, cond_both, lt-ltb, le-ltb}
use Rattle.std.proofs.lemmas.List.Elements.{All-from_all_within, recursion_from_All}
use Rattle.std.proofs.lemmas.List.{append-nil, at_drop_all, at_drop_more, take_more, take_all}
use Rattle.std.proofs.lemmas.Bool.Decides.{nat_tests}
use Rattle.std.proofs.lemmas.Option.{get_or_from_slice_get, slice_get_within}
use Rattle.std.proofs.lemmas.Str.{encode_ascii, encodes-append, encodes-chars, length-encode}
use Rattle.ariadne_base.specs.Locations.{upto}
use Rattle.ariadne_color.specs.declared.color.Color.{Color}
use Rattle.ariadne_color.specs.Colors.{painted}
use Rattle.ariadne_color.specs.Escapes.{opened, closed}
use Rattle.ariadne_picture.specs.declared.cell.Glyph.TheVariants.{Blank}
use Rattle.ariadne_picture.specs.declared.cell.Paint.{Paint}
use Rattle.ariadne_picture.specs.declared.cell.Paint.TheVariants.{Plain, Unimportant}
use Rattle.ariadne_picture.specs.declared.label_info.LabelInfo.{LabelInfo}
use Rattle.ariadne_picture.specs.declared.sight.Sight.{Sight}
use Rattle.ariadne_picture.specs.declared.sight.Sight.TheVariants.{Seen, Marked, Unseen}
use Rattle.ariadne_picture.specs.declared.switches.CharSet.{CharSet}
use Rattle.ariadne_picture.specs.declared.switches.CharSet.TheVariants.{Unicode, Ascii}
use Rattle.ariadne_picture.specs.declared.switches.Switches.{Switches}
use Rattle.ariadne_picture.specs.Canvas.{Palette, color_of, paint_color}
use Rattle.ariadne_picture.specs.Cells.{glyph_code}
use Rattle.ariadne_picture.specs.Columns.{Layout, shown, shown_columns, whole_column, whole_width, sight_of, mark_columns, columns_of, width}
use Rattle.ariadne_picture.specs.Lists.{joined, total}
use Rattle.ariadne_picture.specs.Pieces.{Piece, char_paint, char_pieces, glyph_text, mark_text, repeated, seen_pieces, shown_pieces, shown_text, source_pieces, stroke}
use Rattle.ariadne_picture.specs.Print.{pieces_bytes}
use Rattle.ariadne_picture.proofs.Lists.Joined.{joined-upto_more}
use Rattle.ariadne_picture.proofs.Lists.ListFacts.{all-weaker}
use Rattle.ariadne_picture.proofs.Cells.LineColumns.{total-upto_more}
use Rattle.ariadne_picture.proofs.Parts.{place_pieces}
use Rattle.ariadne_layout.specs.declared.stretches.Stretch.{Stretch}
use Rattle.ariadne_layout.specs.Tables.{ArePaints, position_paint, shown_at, tab_columns}
use Rattle.ariadne_layout.proofs.PlaceColumns.{get_or-all, whole-seen, width-shown}
use Rattle.ariadne_render.specs.Pages.{Adds, Draws, PenFields}
use Rattle.ariadne_render.proofs.Bytes.{painted_parts, plain_bytes, pieces_bytes-append, pieces_bytes_first, pieces_bytes_none, pieces_bytes_one, run_bytes}
use Rattle.ariadne_render.proofs.Drawn.{adds_same, draws_one, draws_places_more, page_kept}
use Rattle.ariadne_render.specs.ShownTexts.{IsAsShown, blank_of, mark_of, place_in, shown_in}

-- ---- single characters

-- a blank is one byte
pub blank_code : encode_utf8 32 ≡ 32 ∷ []
blank_code = encode_ascii 32 (lit< tt)

-- so is the stroke of a blank
pub blank_stroke : (set : CharSet) (paint : Paint) → stroke set Blank paint ≡ blank_of paint
unfolding glyph_text glyph_code
blank_stroke set paint = ap (λ (t : List ℕ). record { text = t; paint = paint; columns = 1 }) blank_code

-- a tab is blanks
pub tab_pieces : (s : Switches) (paint : Paint) (k c : ℕ) → c ≡ 9
    → char_pieces s paint k c ≡ replicate (shown_columns s.tab_width k c) (blank_of paint)
unfolding char_pieces
tab_pieces s paint k c is =
    let columns = shown_columns s.tab_width k c in
    let one : Piece = record { text = shown_text c; paint = paint; columns = columns } in
    λ i. cond (eq-eqb c 9 is i) (replicate columns (blank_of paint)) (one ∷ [])

-- any other character is one piece
pub draws_char : (a b : PenFields) (s : Switches) (paint : Paint) (k c : ℕ) → (c ≡ 9 → ⊥)
    → Adds a b (painted (color_of a.page.palette paint) (shown_text c)) → Draws a b (char_pieces s paint k c)
unfolding char_pieces
draws_char a b s paint k c other h =
    let columns = shown_columns s.tab_width k c in
    let one : Piece = record { text = shown_text c; paint = paint; columns = columns } in
    subst (Draws a b) (λ i. cond (sym (ne_eqb c 9 other) i) (replicate columns (blank_of paint)) (one ∷ [])) (draws_one a b one h)

-- ---- colours

-- the same colour gives the same bytes
char_bytes : (p : Palette) (s : Switches) (q r : Paint) (k c : ℕ) → color_of p q ≡ color_of p r
    → pieces_bytes p (char_pieces s q k c) ≡ pieces_bytes p (char_pieces s r k c)
unfolding char_pieces
char_bytes p s q r k c e = each (c == 9)
  where
    n : ℕ
    n = shown_columns s.tab_width k c

    one : Paint → Piece
    one paint = record { text = shown_text c; paint = paint; columns = n }

    each : (b : Bool) → pieces_bytes p (cond b (replicate n (blank_of q)) (one q ∷ [])) ≡ pieces_bytes p (cond b (replicate n (blank_of r)) (one r ∷ []))
    each true = run_bytes p n (blank_of q) ∙ ap (λ o. repeated n (painted o (32 ∷ []))) e ∙ sym (run_bytes p n (blank_of r))
    each false = pieces_bytes_one p (one q) ∙ ap (λ o. painted o (shown_text c)) e ∙ sym (pieces_bytes_one p (one r))

-- and so it does of what is seen of a place
source_bytes : (p : Palette) (s : Switches) (q r : Paint) (y : Layout) (k c : ℕ) → color_of p q ≡ color_of p r
    → pieces_bytes p (source_pieces s q y k c) ≡ pieces_bytes p (source_pieces s r y k c)
unfolding source_pieces seen_pieces
source_bytes p s q r y k c e = each (sight_of y k)
  where
    each : (sight : Sight) → pieces_bytes p (seen_pieces s q y k c sight) ≡ pieces_bytes p (seen_pieces s r y k c sight)
    each Seen = char_bytes p s q r (whole_column s.tab_width (shown y) k) c e
    each Marked =
        pieces_bytes_one p (mark_of s.char_set q) ∙ ap (λ o. painted o (mark_text s.char_set)) e ∙ sym (pieces_bytes_one p (mark_of s.char_set r))
    each Unseen = refl

-- of a line that is shown whole each character is seen
pub whole_pieces : (s : Switches) (paint : Paint) (y : Layout) (k c : ℕ) → y.sights ≡ []
    → source_pieces s paint y k c ≡ char_pieces s paint (whole_column s.tab_width (shown y) k) c
unfolding source_pieces seen_pieces
whole_pieces s paint y k c whole = ap (seen_pieces s paint y k c) (whole-seen y k whole)

-- of another each place is a mark or nothing, where it is not seen
pub seen_place : (s : Switches) (paint : Paint) (y : Layout) (k c : ℕ) → sight_of y k ≡ Seen
    → char_pieces s paint (whole_column s.tab_width (shown y) k) c ≡ source_pieces s paint y k c
unfolding source_pieces seen_pieces
seen_place s paint y k c e = sym (ap (seen_pieces s paint y k c) e)

pub marked_place : (s : Switches) (paint : Paint) (y : Layout) (k c : ℕ) → sight_of y k ≡ Marked
    → mark_of s.char_set paint ∷ [] ≡ source_pieces s paint y k c
unfolding source_pieces seen_pieces
marked_place s paint y k c e = sym (ap (seen_pieces s paint y k c) e)

pub unseen_place : (s : Switches) (paint : Paint) (y : Layout) (k c : ℕ) → sight_of y k ≡ Unseen → [] ≡ source_pieces s paint y k c
unfolding source_pieces seen_pieces
unseen_place s paint y k c e = sym (ap (seen_pieces s paint y k c) e)

-- places with the same bytes
bytes_on : (p : Palette) (f g : ℕ → List Piece) (n : ℕ) → ((k : ℕ) → k < n → pieces_bytes p (f k) ≡ pieces_bytes p (g k))
    → pieces_bytes p (joined f (upto n)) ≡ pieces_bytes p (joined g (upto n))
unfolding joined
bytes_on p f g zero e = refl
bytes_on p f g (suc n) e =
    let m : suc n ≡ n + 1 = omega arith in
    let part : (h : ℕ → List Piece) → pieces_bytes p (joined h (upto (suc n))) ≡ pieces_bytes p (joined h (upto n)) ++ pieces_bytes p (h n) =
    λ h. ap (λ j. pieces_bytes p (joined h (upto j))) m ∙ ap (pieces_bytes p) (joined-upto_more h n) ∙ pieces_bytes-append p (joined h (upto n)) (h n) in
    part f ∙ (λ i. bytes_on p f g n (λ k l. e k (omega arith)) i ++ e n (omega arith) i) ∙ sym (part g)

-- a text whose places have the colours of the labels that paint them
pub draws_shown : (a b : PenFields) (s : Switches) (multi_line : List LabelInfo) (y : Layout) (q : ℕ → Paint)
    → ((k : ℕ) → k < length (shown y) → color_of a.page.palette (q k) ≡ color_of a.page.palette (char_paint multi_line y k))
    → Draws a b (shown_in s y q) → Draws a b (shown_pieces s multi_line y)
unfolding shown_in shown_pieces place_in
draws_shown a b s multi_line y q e h =
    let p = a.page.palette in
    adds_same a b _ _ (bytes_on p (place_in s y q) (place_pieces s multi_line y) (length (shown y))
    (λ k l. source_bytes p s (q k) (char_paint multi_line y k) y k (slice_index (shown y) k) (e k l))) h

-- without colours none has one
pub no_colors : (p : Palette) (q r : Paint) → p.is_on ≡ false → color_of p q ≡ color_of p r
unfolding color_of
no_colors p q r off = (λ i. cond (off i) (paint_color p q) None) ∙ (λ i. cond (sym off i) (paint_color p r) None)

-- places in other colours that are the same on this page are drawn alike
pub draws_recolored : (a b : PenFields) (s : Switches) (y : Layout) (q r : ℕ → Paint)
    → ((k : ℕ) → k < length (shown y) → color_of a.page.palette (q k) ≡ color_of a.page.palette (r k))
    → Draws a b (shown_in s y q) → Draws a b (shown_in s y r)
unfolding shown_in place_in
draws_recolored a b s y q r e h =
    let p = a.page.palette in
    adds_same a b _ _ (bytes_on p (place_in s y q) (place_in s y r) (length (shown y))
    (λ k l. source_bytes p s (q k) (r k) y k (slice_index (shown y) k) (e k l))) h

-- places in the colours of these stretches are those of a line that these labels colour
pub draws_painted : (a b : PenFields) (s : Switches) (multi_line : List LabelInfo) (y : Layout) (paints : List Stretch)
    → (a.page.palette.is_on ≡ true → ArePaints multi_line y paints) → Draws a b (shown_in s y (λ k. position_paint (shown_at paints k)))
    → Draws a b (shown_pieces s multi_line y)
draws_painted a b s multi_line y paints lit =
    let p = a.page.palette in
    draws_shown a b s multi_line y (λ k. position_paint (shown_at paints k))
    (λ k l. elim (cases_Bool p.is_on) [
      | inl on ↦ ap (color_of p) (lit on k l)
      | inr off ↦ no_colors p (position_paint (shown_at paints k)) (char_paint multi_line y k) off
    ])

-- ---- the bytes of tabs

-- a blank has a byte at least
blank_least : (c : Option Color) → 1 ≤ length (painted c (32 ∷ []))
blank_least c =
    let whole = ap length (painted_parts c (32 ∷ [])) in
    let first = length-append (opened c) (32 ∷ []) in
    let both = length-append (opened c ++ 32 ∷ []) (closed c) in
    omega (arith, whole, first, both)

-- so blanks have as many
blanks_least : (p : Palette) (paint : Paint) (n : ℕ) → n ≤ length (pieces_bytes p (replicate n (blank_of paint)))
blanks_least p paint zero = omega arith
blanks_least p paint (suc n) =
    let rest = replicate n (blank_of paint) in
    let one = blank_least (color_of p paint) in
    let whole = ap length (pieces_bytes_first p (blank_of paint) rest) ∙ length-append _ (pieces_bytes p rest) in
    omega (arith, one, whole, blanks_least p paint n)

-- a mark has as many bytes as columns at least
marks_least : (set : CharSet) → mark_columns set ≤ length (mark_text set)
unfolding mark_columns mark_text
marks_least Unicode = let e : length (encode_utf8 0x2026) ≡ len_utf8 0x2026 = length-encode 0x2026 in let n : len_utf8 0x2026 ≡ 3 = refl in omega (arith, e, n)
marks_least Ascii = let e : length (codes "...") ≡ 3 = refl in omega (arith, e)

mark_least : (p : Palette) (set : CharSet) (paint : Paint) → mark_columns set ≤ length (pieces_bytes p (mark_of set paint ∷ []))
mark_least p set paint =
    let text = marks_least set in
    let whole = ap length (pieces_bytes_one p (mark_of set paint) ∙ painted_parts (color_of p paint) (mark_text set)) in
    let first = length-append (opened (color_of p paint)) (mark_text set) in
    let both = length-append (opened (color_of p paint) ++ mark_text set) (closed (color_of p paint)) in
    omega (arith, text, whole, first, both)

-- the columns of a tab, and none of another place
abbrev tab_part : Switches → Layout → ℕ → ℕ
tab_part s y k = cond (slice_index (shown y) k == 9) (width s y k) 0

-- a place has as many bytes
place_least : (p : Palette) (s : Switches) (y : Layout) (q : ℕ → Paint) (k : ℕ) → k < length (shown y)
    → tab_part s y k ≤ length (pieces_bytes p (place_in s y q k))
unfolding place_in char_pieces source_pieces seen_pieces columns_of whole_width mark_columns mark_text
place_least p s y q k h =
    subst (λ w. cond (slice_index (shown y) k == 9) w 0 ≤ length (pieces_bytes p (place_in s y q k))) (sym (width-shown s y k h))
    (by-sight (sight_of y k))
  where
    c : ℕ
    c = slice_index (shown y) k

    n : ℕ
    n = shown_columns s.tab_width (whole_column s.tab_width (shown y) k) c

    each : (b : Bool) → cond b n 0
        ≤ length (pieces_bytes p (cond b (replicate n (blank_of (q k))) (record { text = shown_text c; paint = q k; columns = n } ∷ [])))
    each true = blanks_least p (q k) n
    each false = omega arith

    by-sight : (sight : Sight) → cond (c == 9) (columns_of s.char_set sight (whole_width s.tab_width (shown y) k)) 0
        ≤ length (pieces_bytes p (seen_pieces s (q k) y k c sight))
    by-sight Seen = each (c == 9)
    by-sight Marked =
        let least = mark_least p s.char_set (q k) in
        cond_both (c == 9) (mark_columns s.char_set) 0 (λ m. m ≤ length (pieces_bytes p (mark_of s.char_set (q k) ∷ []))) (λ _. least) (λ _. omega arith)
    by-sight Unseen = cond_both (c == 9) 0 0 (λ m. m ≤ length (pieces_bytes p [])) (λ _. omega arith) (λ _. omega arith)

-- and so have the first places
places_least : (p : Palette) (s : Switches) (y : Layout) (q : ℕ → Paint) (n : ℕ) → n ≤ length (shown y)
    → total (tab_part s y) (upto n) ≤ length (pieces_bytes p (joined (place_in s y q) (upto n)))
unfolding total
places_least p s y q zero h = omega arith
places_least p s y q (suc n) h =
    let f = place_in s y q in
    let e : suc n ≡ n + 1 = omega arith in
    let tabs : total (tab_part s y) (upto (suc n)) ≡ total (tab_part s y) (upto n) + tab_part s y n =
    ap (λ j. total (tab_part s y) (upto j)) e ∙ total-upto_more (tab_part s y) n in
    let bytes : length (pieces_bytes p (joined f (upto (suc n)))) ≡ length (pieces_bytes p (joined f (upto n))) + length (pieces_bytes p (f n)) =
    ap (λ j. length (pieces_bytes p (joined f (upto j)))) e ∙ ap (λ t. length (pieces_bytes p t)) (joined-upto_more f n)
    ∙ ap length (pieces_bytes-append p (joined f (upto n)) (f n)) ∙ length-append _ (pieces_bytes p (f n)) in
    omega (arith, tabs, bytes, places_least p s y q n (omega arith), place_least p s y q n (omega arith))

-- so all tabs of a written line stand in what was written
pub tabs_written : (a b : PenFields) (s : Switches) (y : Layout) (q : ℕ → Paint) → Draws a b (shown_in s y q) → tab_columns s y ≤ length b.bytes
unfolding shown_in tab_columns
tabs_written a b s y q h =
    let p = a.page.palette in
    let least = places_least p s y q (length (shown y)) (omega arith) in
    let whole : length b.bytes ≡ length a.bytes + length (pieces_bytes p (joined (place_in s y q) (upto (length (shown y))))) =
    ap (λ (pen : PenFields). length pen.bytes) h ∙ length-append a.bytes _ in
    omega (arith, least, whole)

-- ---- what a call has written

-- the blanks of a tab, behind making room for them
pub draws_tab : (a b c : PenFields) (paint : Paint) (n : ℕ) → b ≡ a → Draws b c (replicate n (stroke b.page.switches.char_set Blank paint))
    → Draws a c (replicate n (blank_of paint))
draws_tab a b c paint n e h =
    subst (λ (pen : PenFields). Draws pen c (replicate n (blank_of paint))) e
    (subst (λ (x : Piece). Draws b c (replicate n x)) (blank_stroke b.page.switches.char_set paint) h)

-- one place more
pub draws_place : (a b c : PenFields) (y : Layout) (q : ℕ → Paint) (n k x : ℕ) (paint : Paint)
    → Draws a b (joined (place_in a.page.switches y q) (upto n)) → k ≡ n → x ≡ slice_index (shown y) n
    → paint ≡ q n → Draws b c (source_pieces b.page.switches paint y k x) → Draws a c (joined (place_in a.page.switches y q) (upto (n + 1)))
unfolding place_in
draws_place a b c y q n k x paint before is char own here =
    let kept = page_kept a b _ before in
    draws_places_more a b c (place_in a.page.switches y q) n before
    (subst (Draws b c) (λ i. source_pieces ((kept i).switches) (own i) y (is i) (char i)) here)

-- all places
pub draws_all : (a b : PenFields) (y : Layout) (q : ℕ → Paint) (n : ℕ) → n ≡ length (shown y)
    → Draws a b (joined (place_in a.page.switches y q) (upto n)) → Draws a b (shown_in a.page.switches y q)
unfolding shown_in
draws_all a b y q n e h = subst (λ m. Draws a b (joined (place_in a.page.switches y q) (upto m))) e h

-- ---- printable ASCII

-- a printable character is shown as it is
pub printable_text : (c : ℕ) → 32 ≤ c → c ≤ 126 → shown_text c ≡ encode_utf8 c
unfolding shown_text
printable_text c low high =
    cond_both (is_whitespace c) (32 ∷ []) (encode_utf8 c) (λ t. t ≡ encode_utf8 c)
    (λ e. let is : c ≡ 32 = grind (arith, nat_tests) in sym (ap encode_utf8 is ∙ blank_code)) (λ e. refl)

-- so printable characters are written as they are
pub printable_shown : (cs : List ℕ) → AllByRecursion (λ c. (32 ≤ c) × (c ≤ 126)) cs → AllByRecursion IsAsShown cs
printable_shown cs all =
    all-weaker (λ c. (32 ≤ c) × (c ≤ 126)) IsAsShown cs (λ c h. (λ e. omega (arith, e, h.0), printable_text c h.0 h.1)) all

-- and so are those of a text of which each was asked
pub all_shown : (cs : List ℕ) (r : Bool) → MatchBool r (AllWithin IsAsShown cs 0 (length cs)) ((k : ℕ) × (k < length cs) × HoldsAt (λ d. ⊤) cs k)
    → IsTrue r → AllByRecursion IsAsShown cs
all_shown cs true h on = recursion_from_All IsAsShown cs (All-from_all_within IsAsShown cs h)
all_shown cs false h on = cc

-- ---- a line whose characters are written as they are

-- the bytes of such a character
whole_bytes : (p : Palette) (s : Switches) (k c : ℕ) → IsAsShown c → pieces_bytes p (char_pieces s Plain k c) ≡ encode_utf8 c
unfolding char_pieces
whole_bytes p s k c is =
    let n = shown_columns s.tab_width k c in
    let one : Piece = record { text = shown_text c; paint = Plain; columns = n } in
    let other : (c == 9) ≡ false = ne_eqb c 9 is.0 in
    (λ i. pieces_bytes p (cond (other i) (replicate n (blank_of Plain)) (one ∷ [])))
    ∙ pieces_bytes_one p one ∙ plain_bytes p (shown_text c) ∙ is.1

-- the first places are written as they are
whole_places : (p : Palette) (s : Switches) (y : Layout) (n : ℕ) → y.sights ≡ [] → AllByRecursion IsAsShown (shown y) → n ≤ length (shown y)
    → pieces_bytes p (joined (place_in s y (λ k. Plain)) (upto n)) ≡ encode_utf8_all (take n (shown y))
unfolding joined place_in
whole_places p s y zero whole all h = pieces_bytes_none p
whole_places p s y (suc n) whole all h =
    let f = place_in s y (λ k. Plain) in
    let e : suc n ≡ n + 1 = omega arith in
    let c = get_or-all IsAsShown (shown y) n all (omega arith) in
    let x = get_or (shown y) n 0 in
    ap (λ j. pieces_bytes p (joined f (upto j))) e ∙ ap (pieces_bytes p) (joined-upto_more f n) ∙ pieces_bytes-append p (joined f (upto n)) (f n)
    ∙ (λ i. whole_places p s y n whole all (omega arith) i
    ++ (ap (pieces_bytes p) (whole_pieces s Plain y n x whole) ∙ whole_bytes p s (whole_column s.tab_width (shown y) n) x c) i)
    ∙ sym (ap encode_utf8_all (ap (λ j. take j (shown y)) e ∙ take_more (shown y) n 0 (omega arith)) ∙ encodes-append (take n (shown y)) (x ∷ []) ∙ ap (λ t. encode_utf8_all (take n (shown y)) ++ t) (append-nil (encode_utf8 x)))

-- the whole text
pub draws_whole : (a b : PenFields) (y : Layout) (text : List ℕ) → y.sights ≡ [] → AllByRecursion IsAsShown (shown y) → IsUtf8 text → chars text ≡ shown y
    → Adds a b text → Draws a b (shown_in a.page.switches y (λ k. Plain))
unfolding shown_in
draws_whole a b y text whole all u e h =
    let p = a.page.palette in
    adds_same a b text _
    (sym (whole_places p a.page.switches y (length (shown y)) whole all (omega arith)
    ∙ ap encode_utf8_all (take_all (length (shown y)) (shown y) (omega arith)) ∙ ap encode_utf8_all (sym e) ∙ encodes-chars text u)) h

-- ---- stretches of places in one colour

-- before the end of stretch n its own label is shown
pub stretch_shown : (xs : List Stretch) (n k : ℕ) (s : Stretch) → slice_get xs n ≡ Some s → k < s.end → shown_at (drop n xs) k ≡ s.position
unfolding shown_at
stretch_shown xs n k s there h =
    at_drop_more (λ (ys : List Stretch). shown_at ys k) xs n s (slice_get_within xs n s there)
    ∙ ap (λ (x : Stretch). cond (ltb k x.end) x.position (shown_at (drop (n + 1) xs) k)) (get_or_from_slice_get xs n s s there)
    ∙ ap (λ b. cond b s.position (shown_at (drop (n + 1) xs) k)) (lt-ltb k s.end h)

-- a stretch reaches past a place, as its number does
pub stretch_reaches : (xs : List Stretch) (n k : ℕ) (s d : Stretch) → slice_get xs n ≡ Some s → k < (get_or xs n d).end → k < s.end
stretch_reaches xs n k s d there h = let e = ap (λ (x : Stretch). x.end) (get_or_from_slice_get xs n s d there) in omega (arith, e, h)

-- from there on the others tell
pub stretch_passed : (xs : List Stretch) (n place k : ℕ) (d : Stretch) → n < length xs → (get_or xs n d).end ≤ place → place ≤ k
    → shown_at (drop n xs) k ≡ shown_at (drop (n + 1) xs) k
unfolding shown_at
stretch_passed xs n place k d there h on =
    let s : Stretch = get_or xs n d in
    at_drop_more (λ (ys : List Stretch). shown_at ys k) xs n d there
    ∙ ap (λ b. cond b s.position (shown_at (drop (n + 1) xs) k)) (le-ltb k s.end (omega (arith, h, on)))

-- behind the last no label is shown
pub stretch_absent : (xs : List Stretch) (n k : ℕ) → length xs ≤ n → position_paint (shown_at (drop n xs) k) ≡ Unimportant
unfolding shown_at position_paint
stretch_absent xs n k h = ap position_paint (at_drop_all (λ (ys : List Stretch). shown_at ys k) xs n h)
