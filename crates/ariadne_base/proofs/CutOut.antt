-- The bytes of a line in its text: they are whole characters, and they are the line.
use Rattle.std.proofs.Common.{◌≡◌, ℕ, ◌+◌, ◌-◌, ◌<◌, true, List, [], ◌∷◌, ◌++◌, length, take, drop, get_or, refl, sym, ap, ◌∙◌, arith, subst}
use Rattle.std.specs.Prelude.{slice_range}
use Rattle.std.specs.List.{flat_map}
use Rattle.std.specs.Str.{chars, IsUtf8, encode_utf8_all}
use Rattle.std.proofs.Math.Utf8.{scalars}
use Rattle.std.proofs.lemmas.Bool.{and_parts}
use Rattle.std.proofs.lemmas.List.{take-append-drop, drop_more, drop_at, take_at, append_assoc, length-append}
use Rattle.std.proofs.lemmas.Grind.{flat_map-append}
use Rattle.std.proofs.lemmas.Str.{encodes-append, encodes-chars, scalars-chars, IsCharBoundary-at_seam}
use Rattle.ariadne_base.specs.Lines.{lines_of}
use Rattle.ariadne_base.specs.Locations.{byte_len, line_text, line_offset}
use Rattle.ariadne_base.specs.Ranges.{IsCutOut}
use Rattle.ariadne_base.specs.Table.{line_extent}
use Rattle.ariadne_base.proofs.LineLaws.{lines_joined, joined_byte_len}

-- the last characters of a text are characters
pub scalars_behind : (xs ys : List ℕ) → scalars (xs ++ ys) ≡ true → scalars ys ≡ true
scalars_behind [] ys h = h
scalars_behind (x ∷ xs) ys h = scalars_behind xs ys (and_parts _ _ h).1

-- three parts of a text: the bytes of the middle one are whole characters
pub record IsMiddle (text : List ℕ) (from size : ℕ) (middle : List ℕ) : Type 0 where
  pub whole : IsCutOut text from (from + size)
  pub is : slice_range text from (from + size) ≡ encode_utf8_all middle

-- the middle of three parts stands at the size of the first, and has its own
middle_of : (text front middle back : List ℕ) → scalars (front ++ (middle ++ back)) ≡ true → text ≡ encode_utf8_all (front ++ (middle ++ back))
    → IsMiddle text (byte_len front) (byte_len middle) middle
middle_of text front middle back s e =
    let f = encode_utf8_all front in
    let m = encode_utf8_all middle in
    let b = encode_utf8_all back in
    let behind : scalars (middle ++ back) ≡ true = scalars_behind front (middle ++ back) s in
    let parts : text ≡ f ++ (m ++ b) = e ∙ encodes-append front (middle ++ back) ∙ ap (λ bs. f ++ bs) (encodes-append middle back) in
    let start = IsCharBoundary-at_seam text f (encode_utf8_all (middle ++ back)) (e ∙ encodes-append front (middle ++ back))
    (middle ++ back, (behind, refl)) in
    let stop = IsCharBoundary-at_seam text (f ++ m) b (parts ∙ sym (append_assoc f m b)) (back, (scalars_behind middle back behind, refl)) in
    let size : byte_len front + byte_len middle - byte_len front ≡ length m = omega arith in
    record {
      whole = (start, rw (← length-append f m) stop);
      is = ap (λ bs. slice_range bs (byte_len front) (byte_len front + byte_len middle)) parts
          ∙ ap (λ bs. take (byte_len front + byte_len middle - byte_len front) bs) (drop_at f (m ++ b) (length f) refl)
          ∙ take_at m b (byte_len front + byte_len middle - byte_len front) (sym size);
    }

-- the bytes of line n are those of its text
pub line_middle : (text : List ℕ) → IsUtf8 text → (n : ℕ) → n < length (lines_of (chars text))
    → IsMiddle text (line_extent (lines_of (chars text)) n).byte_offset (line_extent (lines_of (chars text)) n).byte_len
    (line_text (lines_of (chars text)) n)
unfolding line_extent line_offset
line_middle text u n h =
    let ls = lines_of (chars text) in
    let join : List (List ℕ) → List ℕ = λ ls. flat_map (λ l. l) ls in
    let cut : ls ≡ take n ls ++ (get_or ls n [] ∷ drop (n + 1) ls) = sym (take-append-drop n ls) ∙ ap (λ ms. take n ls ++ ms) (drop_more ls n [] h) in
    let parts : chars text ≡ join (take n ls) ++ (get_or ls n [] ++ join (drop (n + 1) ls)) =
    sym (lines_joined (chars text)) ∙ ap join cut ∙ flat_map-append (λ l. l) (take n ls) (get_or ls n [] ∷ drop (n + 1) ls) in
    let middle = middle_of text (join (take n ls)) (get_or ls n []) (join (drop (n + 1) ls))
    (subst (λ cs. scalars cs ≡ true) parts (scalars-chars text u))
    (sym (encodes-chars text u) ∙ ap encode_utf8_all parts) in
    rw (joined_byte_len (take n ls)) middle
