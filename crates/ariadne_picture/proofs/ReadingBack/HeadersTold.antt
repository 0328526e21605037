-- The headers of a picture are found, and say the code, the kind, the message, and what the sources of its groups are called.
use Rattle.std.proofs.Common.{◌≡◌, ℕ, zero, suc, ◌+◌, ◌-◌, ◌≤◌, Bool, true, false, List, [], ◌∷◌, ◌++◌, map, filter, length, Some, refl, sym, ap, ◌∙◌, arith}
use Rattle.std.specs.Prelude.{slice_get, slice_index_or}
use Rattle.std.specs.List.{AllByRecursion, range_with_len}
use Rattle.std.proofs.lemmas.Bool.{cond-true}
use Rattle.std.proofs.lemmas.List.{map-append}
use Rattle.std.proofs.lemmas.List.Elements.{filter-append}
use Rattle.ariadne_base.specs.Locations.{upto}
use Rattle.ariadne_picture.specs.Rows.{group_header}
use Rattle.ariadne_picture.specs.Pieces.{Section, place_text, group_header_pieces, row_pieces}
use Rattle.ariadne_picture.specs.Canvas.{Cell, cell_of, header_pieces}
use Rattle.ariadne_picture.specs.Placing.Cells.{no_cell}
use Rattle.ariadne_picture.specs.Placing.Rows.{row_at, cell_at}
use Rattle.ariadne_picture.specs.ReadBack.Rows.{Known}
use Rattle.ariadne_picture.specs.ReadBack.Answer.{read_headers}
use Rattle.ariadne_picture.specs.ReadBack.Labels.{headers_told}
use Rattle.ariadne_picture.proofs.Cells.CanvasRows.{map-map, row_cells}
use Rattle.ariadne_picture.proofs.Lists.Elements.{all-range}
use Rattle.ariadne_picture.proofs.Lists.Joined.{range_more}
use Rattle.ariadne_picture.proofs.Lists.ListFacts.{filter-none}
use Rattle.ariadne_picture.proofs.OneReading.LinesFound.{section-at}
use Rattle.ariadne_picture.proofs.Reading.Pictures.{Picture, rows_of, start_of, number, number-at}
use Rattle.ariadne_picture.proofs.Reading.TextRows.{row-read}
use Rattle.ariadne_picture.proofs.ReadingBack.RowPlaces.{heading, from-one, header-row, header-at, later-at}
use Rattle.ariadne_picture.proofs.Rows.LineBlock.{range-append}
use Rattle.ariadne_picture.proofs.Rows.RowNumbers.{start-first, start-last, row-in-group}

-- what numbers give is what the elements give that have them
numbers-give : {X Y : Type 0} (f : ℕ → Y) (h : X → Y) (a : ℕ) (xs : List X)
    → ((k : ℕ) (x : X) → slice_get xs k ≡ Some x → f (a + k) ≡ h x) → map f (range_with_len a (length xs)) ≡ map h xs
numbers-give f h a [] e = refl
numbers-give f h a (x ∷ xs) e =
    let z : a ≡ a + 0 = omega arith in
    (λ i. (ap f z ∙ e 0 x refl) i ∷ numbers-give f h (a + 1) xs (λ k y there. let n : a + 1 + k ≡ a + suc k = omega arith in ap f n ∙ e (suc k) y there) i)

-- of a list of which the first passes alone, the first is left
first-alone : (test : ℕ → Bool) (n : ℕ) (rest : List ℕ) → test n ≡ true → AllByRecursion (λ m. test m ≡ false) rest → filter test (n ∷ rest) ≡ n ∷ []
first-alone test n rest on none = cond-true (test n) (n ∷ filter test rest) (filter test rest) on ∙ ap (λ t. n ∷ t) (filter-none test rest none)

module _ (v : Picture) (sources : List Known) where
  -- up to a group they are the first rows of those above
  found : (g : ℕ) → g ≤ length v.sections → filter (heading v sources) (range_with_len 1 (start_of v g - 1)) ≡ map (start_of v) (upto g)
  found zero few =
      let first = start-first v.texts v.sections in
      let z : start_of v 0 - 1 ≡ 0 = omega (arith, first) in
      ap (λ n. filter (heading v sources) (range_with_len 1 n)) z
  found (suc g) few =
      let test : ℕ → Bool = heading v sources in
      let there = section-at v.sections g (omega arith) in
      let s = there.0 in
      let e = there.1 in
      let m : ℕ = start_of v g - 1 in
      let rest : ℕ = start_of v (suc g) - start_of v g - 1 in
      let low = from-one v sources g in
      let up = (row-in-group v.texts v.sections g s 0 group_header (header-row v sources g s e)).1 in
      let here = number-at v (header-row v sources g s e) in
      let size : start_of v (suc g) - 1 ≡ m + suc rest = omega (arith, low, up, here) in
      let at : 1 + m ≡ start_of v g = omega (arith, low) in
      let own : test (1 + m) ≡ true = ap test at ∙ header-at v sources g s e in
      let last : filter test (range_with_len (1 + m) (suc rest)) ≡ (1 + m) ∷ [] =
      first-alone test (1 + m) (range_with_len (1 + m + 1) rest) own (all-range _ (1 + m + 1) rest (λ k less.
      later-at v sources g s (1 + m + 1 + k) e (omega (arith, low)) (omega (arith, low, less)))) in
      let next : suc g ≡ g + 1 = omega arith in
      let zero_less : 0 + g ≡ g = omega arith in
      ap (λ n. filter test (range_with_len 1 n)) size ∙ ap (filter test) (range-append 1 m (suc rest))
      ∙ filter-append test (range_with_len 1 m) (range_with_len (1 + m) (suc rest))
      ∙ (λ i. found g (omega arith) i ++ (last ∙ ap (λ n. n ∷ []) at) i)
      ∙ sym (ap (λ n. map (start_of v) (upto n)) next ∙ ap (map (start_of v)) (range_more 0 g) ∙ map-append (start_of v) (upto g) ((0 + g) ∷ [])
      ∙ ap (λ n. map (start_of v) (upto g) ++ start_of v n ∷ []) zero_less)

  -- each says what its source is called
  says : (g : ℕ) (s : Section) → slice_get v.sections g ≡ Some s → (cell_at (rows_of v) (start_of v g) 4).text ≡ place_text s
  unfolding cell_at row_pieces group_header_pieces
  says g s e =
      let is = header-row v sources g s e in
      let n = number-at v is in
      let z : start_of v g ≡ number v g s group_header = omega (arith, n) in
      ap (λ n. (cell_at (rows_of v) n 4).text) z ∙ ap (λ (row : List Cell). (slice_index_or row 4 no_cell).text) (row-read v is)

  -- so the headers say what they are to say, if the first row is the header
  pub headers-read : v.header ≡ map (cell_of v.palette) (header_pieces v.texts)
      → read_headers (rows_of v) sources v.texts.switches ≡ headers_told v.texts v.sections
  unfolding read_headers headers_told cell_at row_at header_pieces
  headers-read same =
      let last = start-last v.texts v.sections (row_cells v.palette v.texts v.width) v.header in
      let size : length (rows_of v) - 1 ≡ start_of v (length v.sections) - 1 = omega (arith, last) in
      let places : map (λ n. (cell_at (rows_of v) n 4).text) (filter (heading v sources) (range_with_len 1 (length (rows_of v) - 1))) ≡ map place_text v.sections =
      ap (λ n. map (λ n. (cell_at (rows_of v) n 4).text) (filter (heading v sources) (range_with_len 1 n))) size
      ∙ ap (map (λ n. (cell_at (rows_of v) n 4).text)) (found (length v.sections) (omega arith))
      ∙ map-map (λ n. (cell_at (rows_of v) n 4).text) (start_of v) (upto (length v.sections))
      ∙ numbers-give (λ g. (cell_at (rows_of v) (start_of v g) 4).text) place_text 0 v.sections (λ g s e.
      let z : 0 + g ≡ g = omega arith in ap (λ g. (cell_at (rows_of v) (start_of v g) 4).text) z ∙ says g s e) in
      (λ i. (slice_index_or (same i) 0 no_cell).text ∷ (slice_index_or (same i) 1 no_cell).text ∷ places i)
