-- Where an offset stands in a shown text: what is passed of the given one, and what of its signs.
use Rattle.std.proofs.Common.{◌≡◌, ℕ, ◌+◌, ◌-◌, ◌^◌, ◌<◌, ◌≤◌, min, List, ◌++◌, length, cond}
use Rattle.std.proofs.Common.{ap, ◌∙◌, arith, nat_lt}
use Rattle.std.specs.Prelude.{encode_utf8}
use Rattle.std.specs.Char.{len_utf8}
use Rattle.std.specs.Str.{chars, IsUtf8}
use Rattle.std.proofs.lemmas.Bool.{cond-true, cond-false, lt-ltb, le-ltb}
use Rattle.std.proofs.lemmas.List.{nil_from_length}
use Rattle.std.proofs.lemmas.Str.{chars_past_char, IsUtf8-past_char, chars-nil}
use Rattle.ariadne.specs.Lines.{begins_with_line_feed}
use Rattle.ariadne_safe.specs.declared.text.TextKind.{TextKind}
use Rattle.ariadne_safe.specs.Visible.{shown_code}
use Rattle.ariadne_safe.specs.Sources.{shown_offset}

-- what is left of an offset stands in the signs of the rest, behind those so far
pub record IsFound (kind : TextKind) (given rest : List ℕ) (offset shown left : ℕ) : Type 0 where
  pub so_far : ℕ
  pub found : shown_offset kind (chars given) offset ≡ so_far + shown_offset kind (chars rest) left
  pub is : shown ≡ min so_far (2 ^ 64 - 1)
  pub utf8 : IsUtf8 rest

-- at the start nothing is passed
pub found_first : (kind : TextKind) (given : List ℕ) (offset : ℕ) → IsUtf8 given → IsFound kind given given offset 0 offset
found_first kind given offset u = record { so_far = 0; found = omega arith; is = omega arith; utf8 = u }

module _ (kind : TextKind) (given rest behind : List ℕ) (c offset shown left : ℕ) (f : IsFound kind given rest offset shown left)
    (cut : rest ≡ encode_utf8 c ++ behind) where
  -- the sign of the next character
  sign : ℕ
  sign = shown_code kind c (begins_with_line_feed (chars behind))

  step : shown_offset kind (chars rest) left
      ≡ cond (nat_lt left (len_utf8 c)) (min left 1) (len_utf8 sign + shown_offset kind (chars behind) (left - len_utf8 c))
  unfolding shown_offset sign
  step = ap (λ cs. shown_offset kind cs left) (chars_past_char rest behind c f.utf8 cut)

  -- it is passed
  pub found_next : (d size width more : ℕ) → width ≡ len_utf8 c → width ≤ left → d ≡ shown_code kind c (begins_with_line_feed (chars behind))
      → size ≡ len_utf8 d → more ≡ min (shown + size) (2 ^ 64 - 1) → IsFound kind given behind offset more (left - width)
  unfolding sign
  found_next d size width more is_width passed is_sign is_size is_more =
      let within : len_utf8 c ≤ left = omega (arith, is_width, passed) in
      let far = step ∙ cond-false (nat_lt left (len_utf8 c)) (min left 1) (len_utf8 sign + shown_offset kind (chars behind) (left - len_utf8 c)) (le-ltb left (len_utf8 c) within) in
      let all = f.found in
      let is = f.is in
      let rest_is : left - width ≡ left - len_utf8 c = omega (arith, is_width) in
      let same : shown_offset kind (chars behind) (left - width) ≡ shown_offset kind (chars behind) (left - len_utf8 c) = ap (shown_offset kind (chars behind)) rest_is in
      let wide : size ≡ len_utf8 sign = is_size ∙ ap len_utf8 is_sign in
      record {
        so_far = f.so_far + len_utf8 sign;
        found = omega (arith, all, far, same);
        is = omega (arith, is, is_more, wide);
        utf8 = IsUtf8-past_char rest behind c f.utf8 cut;
      }

  -- or the offset stands before it or inside it
  pub found_inside : (width inside : ℕ) → width ≡ len_utf8 c → left < width → inside ≡ min left 1
      → min (shown + inside) (2 ^ 64 - 1) ≡ min (shown_offset kind (chars given) offset) (2 ^ 64 - 1)
  found_inside width inside is_width short is_inside =
      let less : left < len_utf8 c = omega (arith, is_width, short) in
      let near = step ∙ cond-true (nat_lt left (len_utf8 c)) (min left 1) (len_utf8 sign + shown_offset kind (chars behind) (left - len_utf8 c)) (lt-ltb left (len_utf8 c) less) in
      let all = f.found in
      let is = f.is in
      omega (arith, all, near, is, is_inside)

-- behind the last character the offset stands as far past the text, or 2
pub found_past : (kind : TextKind) (given rest : List ℕ) (offset shown left past : ℕ) → IsFound kind given rest offset shown left → length rest ≡ 0
    → past ≡ min left 2 → min (shown + past) (2 ^ 64 - 1) ≡ min (shown_offset kind (chars given) offset) (2 ^ 64 - 1)
unfolding shown_offset
found_past kind given rest offset shown left past f over is_past =
    let none : shown_offset kind (chars rest) left ≡ min left 2 =
    ap (λ bs. shown_offset kind (chars bs) left) (nil_from_length rest over) ∙ ap (λ cs. shown_offset kind cs left) chars-nil in
    let all = f.found in
    let is = f.is in
    omega (arith, all, none, is, is_past)
