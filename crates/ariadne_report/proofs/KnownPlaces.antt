-- Places of a text with as many characters before them: the start, where a line begins, and how far on another is.
use Rattle.std.proofs.Common.{◌≡◌, ℕ, ◌+◌, ◌-◌, ◌≤◌, true, List, [], ◌++◌, Some, refl, sym, ap, subst, ◌∙◌, arith}
use Rattle.std.proofs.Common.{length, take, drop}
use Rattle.std.specs.Prelude.{slice_range}
use Rattle.std.specs.Str.{chars, IsUtf8, IsCharBoundary}
use Rattle.std.proofs.Math.Utf8.{scalars, encodes}
use Rattle.std.proofs.Math.Seq.{take-add, take-append_seam}
use Rattle.std.proofs.lemmas.List.{length-append, length-take-le, take-append-drop}
use Rattle.std.proofs.lemmas.Str.{chars-append, chars-encodes, encodes-append, encodes-chars, scalars-chars, length-le-encodes, IsCharBoundary-at_seam, IsUtf8-take}
use Rattle.ariadne_base.specs.Lines.{lines_of}
use Rattle.ariadne_base.specs.Locations.{byte_len, char_offset, line_text}
use Rattle.ariadne_base.specs.Table.{LineExtent, location_of}
use Rattle.ariadne_base.proofs.CutOut.{scalars_behind}
use Rattle.ariadne_report.specs.Counting.{IsKnown}
use Rattle.ariadne_report.specs.declared.counting.Known.{Known}
use Rattle.ariadne_report.proofs.CharOffsets.{back, front, front_length, line, offset_whole, row_begins, row_bytes, scalars_front, whole}

-- where nothing is before it
abbrev pub start : Known
start = record { bytes = 0; chars = 0 }

module _ (text : List ℕ) (utf8 : IsUtf8 text) where
  -- behind the first of some characters
  pub known_seam : (xs ys : List ℕ) → chars text ≡ xs ++ ys
      → IsCharBoundary text (byte_len xs) × (length xs ≡ length (chars (take (byte_len xs) text)))
  known_seam xs ys split =
      let all : scalars (xs ++ ys) ≡ true = subst (λ cs. scalars cs ≡ true) split (scalars-chars text utf8) in
      let seam : text ≡ encodes xs ++ encodes ys = sym (encodes-chars text utf8) ∙ ap encodes split ∙ encodes-append xs ys in
      let front : take (byte_len xs) text ≡ encodes xs = ap (take (byte_len xs)) seam ∙ take-append_seam (encodes xs) (encodes ys) in
      let same : chars (take (byte_len xs) text) ≡ xs = ap chars front ∙ chars-encodes xs (scalars_front xs ys all) in
      (IsCharBoundary-at_seam text (encodes xs) (encodes ys) seam (ys, (scalars_behind xs ys all, refl)), ap length (sym same))

  -- the characters before a boundary are those of the bytes before it
  pub offset_at : (b : ℕ) → IsCharBoundary text b → Some (length (chars (take b text))) ≡ char_offset (chars text) b
  offset_at b at =
      let front = chars (take b text) in
      let back = chars (drop b text) in
      let whole = IsUtf8-take text b utf8 at in
      let split : chars text ≡ front ++ back = ap chars (sym (take-append-drop b text)) ∙ chars-append (take b text) (drop b text) whole in
      let part : take (length front) (chars text) ≡ front = ap (take (length front)) split ∙ take-append_seam front back in
      let few : length front ≤ length (chars text) = omega (arith, ap length split, length-append front back) in
      let bytes : byte_len (take (length front) (chars text)) ≡ b = ap byte_len part ∙ ap length (encodes-chars (take b text) whole)
      ∙ length-take-le b text at.0 in
      sym (offset_whole (chars text) b (length front) few bytes)

  -- those before the further one of two boundaries are those before the nearer one, and those between them
  pub chars_between : (a b : ℕ) → a ≤ b → IsCharBoundary text a
      → length (chars (take b text)) ≡ length (chars (take a text)) + length (chars (slice_range text a b))
  chars_between a b low at =
      let e : b ≡ a + (b - a) = omega arith in
      let parts : take b text ≡ take a text ++ slice_range text a b = ap (λ n. take n text) e ∙ take-add a (b - a) text in
      ap (λ t. length (chars t)) parts ∙ ap length (chars-append (take a text) (slice_range text a b) (IsUtf8-take text a utf8 at))
      ∙ length-append (chars (take a text)) (chars (slice_range text a b))

  -- there are no more of them than bytes
  pub chars_within : (b : ℕ) → IsCharBoundary text b → length (chars (take b text)) ≤ b
  chars_within b at =
      let few = length-le-encodes (chars (take b text)) in
      let bytes = ap length (encodes-chars (take b text) (IsUtf8-take text b utf8 at)) in
      let size = length-take-le b text at.0 in
      omega arith

  -- no character is before the start
  pub known_start : IsCharBoundary text 0
  known_start = IsCharBoundary-at_seam text [] text refl utf8

-- where the line of an offset begins is known
pub line_known : (text : List ℕ) (b : ℕ) (utf8 : IsUtf8 text) (within : b ≤ length text) (r : LineExtent) (n c : ℕ)
    (at : (r, n, c) ≡ location_of byte_len (lines_of (chars text)) b) (t : List ℕ) (own : t ≡ encodes (line_text (lines_of (chars text)) n))
    → IsKnown text (record { bytes = b - c; chars = r.offset })
line_known text b utf8 within r n c at t own =
    let seam = known_seam text utf8 (front text b) (line text b ++ back text b) (whole text b) in
    let bytes : b - c ≡ byte_len (front text b) = row_bytes text b utf8 within r n c at t own in
    let begins = row_begins text b utf8 within r n c at t own in
    record {
      whole = λ u. subst (IsCharBoundary text) (sym bytes) seam.0;
      counted = begins ∙ sym (front_length text b) ∙ seam.1 ∙ ap (λ n. length (chars (take n text))) (sym bytes);
    }

-- the start of each text is known
pub start_known : (text : List ℕ) → IsKnown text start
unfolding chars
start_known text = record { whole = known_start text; counted = refl }
