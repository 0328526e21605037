-- The number of characters before an offset in bytes: those before its line, and those of its line before it, where the offset lies inside no character.
use Rattle.std.proofs.Common.{◌≡◌, ℕ, zero, suc, ◌+◌, ◌-◌, ◌<◌, ◌≤◌, Bool, true, false, List, [], ◌∷◌, ◌++◌, Some, None, refl, sym, ap, ◌∙◌}
use Rattle.std.proofs.Common.{subst, arith, length, take, drop, sum_by, inl, inr, ◌==◌, ◌&&◌, find}
use Rattle.std.specs.List.{range_with_len, flat_map}
use Rattle.std.specs.Str.{chars, IsUtf8, IsCharBoundary}
use Rattle.std.proofs.Math.Utf8.{scalar, scalars, encodes}
use Rattle.std.proofs.lemmas.Bool.{cases_Bool, cases_eq, and_parts, eq-eqb, eqb-true}
use Rattle.std.proofs.lemmas.List.{take-append-drop, drop_more, length-append, take-append-le}
use Rattle.std.proofs.lemmas.List.Concat.{length-flat_map}
use Rattle.std.proofs.lemmas.Grind.{flat_map-append}
use Rattle.std.proofs.Math.Seq.{take-append-add}
use Rattle.std.proofs.lemmas.Str.{encodes-append, encodes-chars, scalars-chars, length-le-encodes, IsCharBoundary-at_seam}
use Rattle.ariadne_base.specs.Lines.{lines_of}
use Rattle.ariadne_base.specs.Locations.{byte_len, char_offset, column_at, line_at, line_offset, line_text}
use Rattle.ariadne_base.specs.Table.{LineExtent, location_of}
use Rattle.ariadne_base.proofs.CutOut.{scalars_behind}
use Rattle.ariadne_base.proofs.LineLaws.{joined_byte_len, lines_byte_len, lines_joined, some_line}
use Rattle.ariadne_base.proofs.LocationLemmas.{line_at_is}
use Rattle.ariadne_report.proofs.Locating.{in_line, line_begins, line_length, place_column, place_line, place_number}

-- ---- the first number that passes a test

-- a number that passes, where none before it does
found_first : (p : ℕ → Bool) (a n k : ℕ) → p k ≡ true → a ≤ k → k < a + n → ((j : ℕ) → a ≤ j → j < k → p j ≡ false)
    → find p (range_with_len a n) ≡ Some k
found_first p a zero k on low high before = absurd (omega arith)
found_first p a (suc n) k on low high before = elim (cases_eq a k) [
  | inl same ↦ let here : p a ≡ true = ap p same ∙ on in rw here (ap Some same)
  | inr other ↦
      let first : p a ≡ false = before a (omega arith) (omega arith) in
      rw first (found_first p (a + 1) n k on (omega arith) (omega arith) (λ j l m. before j (omega arith) m))
]

-- none passes
found_none : (p : ℕ → Bool) (a n : ℕ) → ((j : ℕ) → j < a + n → p j ≡ false) → find p (range_with_len a n) ≡ None
found_none p a zero off = refl
found_none p a (suc n) off = let first : p a ≡ false = off a (omega arith) in rw first (found_none p (a + 1) n (λ j m. off j (omega arith)))

-- ---- bytes of characters

-- the bytes of two parts add up
byte_len-append : (s t : List ℕ) → byte_len (s ++ t) ≡ byte_len s + byte_len t
byte_len-append s t = ap length (encodes-append s t) ∙ length-append (encodes s) (encodes t)

-- more characters have more bytes
more_bytes : (t : List ℕ) (i j : ℕ) → i < j → j ≤ length t → byte_len (take i t) < byte_len (take j t)
more_bytes t i zero h k = absurd (omega arith)
more_bytes [] i (suc j) h k = absurd (omega arith)
more_bytes (c ∷ t) zero (suc j) h k =
    let right = byte_len-append (c ∷ []) (take j t) in let some = length-le-encodes (c ∷ []) in omega arith
more_bytes (c ∷ t) (suc i) (suc j) h k =
    let more = more_bytes t i j (omega arith) (omega arith) in
    let left = byte_len-append (c ∷ []) (take i t) in
    let right = byte_len-append (c ∷ []) (take j t) in
    omega arith

-- characters with one byte each have one byte each in every part
narrow_part : (t : List ℕ) (k : ℕ) → byte_len t ≡ length t → k ≤ length t → byte_len (take k t) ≡ k
narrow_part t zero h j = refl
narrow_part [] (suc k) h j = absurd (omega arith)
narrow_part (c ∷ t) (suc k) h j =
    let all = byte_len-append (c ∷ []) t in
    let some = length-le-encodes (c ∷ []) in
    let others = length-le-encodes t in
    let part = byte_len-append (c ∷ []) (take k t) in
    let rest = narrow_part t k (omega arith) (omega arith) in
    omega arith

-- ---- characters before an offset

-- the first n characters have b bytes
pub offset_whole : (t : List ℕ) (b n : ℕ) → n ≤ length t → byte_len (take n t) ≡ b → char_offset t b ≡ Some n
unfolding char_offset
offset_whole t b n few is =
    found_first (λ k. byte_len (take k t) == b) 0 (suc (length t)) n (eq-eqb (byte_len (take n t)) b is) (omega arith) (omega arith)
    (λ j low less. elim (cases_Bool (byte_len (take j t) == b)) [
      | inl on ↦ let same = eqb-true (byte_len (take j t)) b on in let more = more_bytes t j n less few in absurd (omega arith)
      | inr off ↦ off
    ])

-- no number of characters has b bytes
pub offset_inside : (t : List ℕ) (b : ℕ) → ((n : ℕ) → n ≤ length t → byte_len (take n t) ≡ b → ⊥) → char_offset t b ≡ None
unfolding char_offset
offset_inside t b never =
    found_none (λ k. byte_len (take k t) == b) 0 (suc (length t)) (λ j less. elim (cases_Bool (byte_len (take j t) == b)) [
      | inl on ↦ absurd (never j (omega arith) (eqb-true (byte_len (take j t)) b on))
      | inr off ↦ off
    ])

-- ---- the line of an offset

-- the first of some characters are characters
pub scalars_front : (xs ys : List ℕ) → scalars (xs ++ ys) ≡ true → scalars xs ≡ true
scalars_front [] ys h = refl
scalars_front (x ∷ xs) ys h =
    let both = and_parts (scalar x) (scalars (xs ++ ys)) h in
    ap (λ b. b && scalars xs) both.0 ∙ scalars_front xs ys both.1

module _ (text : List ℕ) (b : ℕ) where
  -- the lines of the text
  abbrev lines : List (List ℕ)
  lines = lines_of (chars text)

  -- the number of the line of the offset
  abbrev number : ℕ
  number = line_at byte_len lines b

  -- the characters of that line
  abbrev pub line : List ℕ
  line = line_text lines number

  -- how many characters are before it
  abbrev begins : ℕ
  begins = line_offset length lines number

  -- how many bytes behind its start the offset is
  abbrev column : ℕ
  column = column_at byte_len lines b

  -- the characters before the line
  abbrev pub front : List ℕ
  front = flat_map (λ l. l) (take number lines)

  -- the characters behind it
  abbrev pub back : List ℕ
  back = flat_map (λ l. l) (drop (number + 1) lines)

  -- the characters of the text are those before the line, its own and those behind it
  pub whole : chars text ≡ front ++ (line ++ back)
  whole =
      let there = (line_at_is byte_len lines b (some_line (chars text))).there in
      let cut : lines ≡ take number lines ++ (line ∷ drop (number + 1) lines) =
      sym (take-append-drop number lines) ∙ ap (λ ms. take number lines ++ ms) (drop_more lines number [] there) in
      sym (lines_joined (chars text)) ∙ ap (flat_map (λ l. l)) cut ∙ flat_map-append (λ l. l) (take number lines) (line ∷ drop (number + 1) lines)

  -- those before the line are as many as it begins behind
  pub front_length : length front ≡ begins
  unfolding line_offset
  front_length = length-flat_map (λ l. l) (take number lines)

  -- the offset is so many bytes behind them
  front_bytes : byte_len front + column ≡ b
  unfolding line_offset column_at
  front_bytes =
      let before = (line_at_is byte_len lines b (some_line (chars text))).begins in
      let same = joined_byte_len (take number lines) in
      omega arith

  module _ (utf8 : IsUtf8 text) where
    -- behind whole characters there is a boundary
    cut_boundary : (n : ℕ) → n ≤ length (chars text) → byte_len (take n (chars text)) ≡ b → IsCharBoundary text b
    cut_boundary n few is =
        let cs = chars text in
        let parts : take n cs ++ drop n cs ≡ cs = take-append-drop n cs in
        let seam : text ≡ encodes (take n cs) ++ encodes (drop n cs) = sym (encodes-chars text utf8) ∙ ap encodes (sym parts)
        ∙ encodes-append (take n cs) (drop n cs) in
        let behind : scalars (drop n cs) ≡ true = scalars_behind (take n cs) (drop n cs)
        (subst (λ xs. scalars xs ≡ true) (sym parts) (scalars-chars text utf8)) in
        subst (IsCharBoundary text) is (IsCharBoundary-at_seam text (encodes (take n cs)) (encodes (drop n cs)) seam (drop n cs, (behind, refl)))

    -- so an offset that is no boundary is behind no number of them
    pub cut_offset : ¬ (IsCharBoundary text b) → None ≡ char_offset (chars text) b
    cut_offset never = sym (offset_inside (chars text) b (λ n few is. never (cut_boundary n few is)))

    module _ (within : b ≤ length text) where
      -- the offset lies in the bytes of its line
      column_within : column ≤ byte_len line
      unfolding column_at
      column_within =
          let all : sum_by byte_len lines ≡ length text = lines_byte_len (chars text) ∙ ap length (encodes-chars text utf8) in
          let near = in_line byte_len lines b (some_line (chars text)) (omega arith) in
          omega arith

      -- so many characters are before the offset, if those of the line before it have as many bytes as its column
      offset_counted : (k : ℕ) → k ≤ length line → byte_len (take k line) ≡ column → Some (begins + k) ≡ char_offset (chars text) b
      offset_counted k few is =
          let size : length (chars text) ≡ length front + (length line + length back) = ap length whole ∙ length-append front (line ++ back)
          ∙ ap (λ n. length front + n) (length-append line back) in
          let part : take (length front + k) (chars text) ≡ front ++ take k line = ap (take (length front + k)) whole
          ∙ take-append-add front (line ++ back) k ∙ ap (λ xs. front ++ xs) (take-append-le k line back few) in
          let bytes : byte_len (take (length front + k) (chars text)) ≡ b = ap byte_len part ∙ byte_len-append front (take k line)
          ∙ ap (λ n. byte_len front + n) is ∙ front_bytes in
          ap (λ n. Some (n + k)) (sym front_length) ∙ sym (offset_whole (chars text) b (length front + k) (omega arith) bytes)

      -- there are no more characters before an offset than bytes
      counted_fits : (k : ℕ) → k ≤ column → begins + k ≤ b
      counted_fits k few =
          let least = length-le-encodes front in let same = front_length in let bytes = front_bytes in omega arith

      -- on a line with as many bytes as characters, these count the same
      narrow_offset : length (encodes line) ≡ length line → Some (begins + column) ≡ char_offset (chars text) b
      narrow_offset narrow =
          let near = column_within in
          offset_counted column (omega arith) (narrow_part line column narrow (omega arith))

      -- and there are no more of them than bytes
      narrow_fits : begins + column ≤ b
      narrow_fits = counted_fits column (omega arith)

-- ---- the same from what a look-up of the offset and of the text of its line returns

module _ (text : List ℕ) (b : ℕ) (utf8 : IsUtf8 text) (within : b ≤ length text) (r : LineExtent) (n c : ℕ)
    (at : (r, n, c) ≡ location_of byte_len (lines_of (chars text)) b) (t : List ℕ) (own : t ≡ encodes (line_text (lines_of (chars text)) n)) where
  -- where the line begins
  pub row_begins : r.offset ≡ begins text b
  row_begins = line_begins (lines text b) r (number text b) (place_line byte_len (lines text b) b r n c at)

  -- how many characters it has
  row_length : r.len ≡ length (line text b)
  row_length = line_length (lines text b) r (number text b) (place_line byte_len (lines text b) b r n c at)

  -- the column of the offset
  column_is : c ≡ column text b
  column_is = place_column byte_len (lines text b) b r n c at

  -- the text of the line
  text_is : t ≡ encodes (line text b)
  text_is = own ∙ ap (λ n. encodes (line_text (lines text b) n)) (place_number byte_len (lines text b) b r n c at)

  -- on a line with as many bytes as characters the column counts both
  pub narrow_found : length t ≡ r.len → Some (r.offset + c) ≡ char_offset (chars text) b
  narrow_found same =
      rw (row_begins, column_is) (narrow_offset text b utf8 within (sym (ap length text_is) ∙ same ∙ row_length))

  -- the number of characters fits where that of bytes does
  pub narrow_found_fits : r.offset + c ≤ b
  narrow_found_fits = let fits = narrow_fits text b utf8 within in let x = row_begins in let y = column_is in omega arith

  -- the line begins so many bytes before the offset
  pub row_bytes : b - c ≡ byte_len (front text b)
  row_bytes = let bytes = front_bytes text b in let x = column_is in omega arith

  -- and the offset is no less than the column
  pub column_least : c ≤ b
  column_least = let bytes = front_bytes text b in let x = column_is in omega arith
