-- Texts in quotes, in which half a pair that stands alone is U+FFFD. Two escapes \uXXXX\uXXXX may be the
-- halves of one character; one of them alone is no character. Bytes stand as their numbers: 92 is a
-- backslash and 117 `u`.
use Rattle.std.specs.Prelude.{ℕ, ◌==◌, nat_le, nat_lt, Bool, not, ◌&&◌, ◌||◌, if◌then◌else◌}
use Rattle.std.specs.Prelude.{List, codes, drop, length, slice_index, take}
use Rattle.std.specs.Char.{digit_value}
use Rattle.std.specs.List.{flat_map, list_all, prefix_len}
use Rattle.ariadne_json.specs.Cuts.{pieces}

-- a digit to the base sixteen
abbrev pub is_hex_digit : ℕ → Bool
is_hex_digit b = nat_lt (digit_value b) 16

-- a text begins with an escape \uXXXX
abbrev pub begins_with_unit : List ℕ → Bool
begins_with_unit t =
    nat_le 6 (length t) && slice_index t 0 == 92 && slice_index t 1 == 117
    && list_all is_hex_digit (take 4 (drop 2 t))

-- with one of \uDXXX, whose second digit is one of these
abbrev pub begins_with_half : ℕ → ℕ → List ℕ → Bool
begins_with_half least most t =
    begins_with_unit t && digit_value (slice_index t 2) == 13
    && nat_le least (digit_value (slice_index t 3)) && nat_le (digit_value (slice_index t 3)) most

-- with a first half, \uD800 to \uDBFF, and with a last one, \uDC00 to \uDFFF
abbrev pub begins_with_first : List ℕ → Bool
begins_with_first t = begins_with_half 8 11 t

abbrev pub begins_with_last : List ℕ → Bool
begins_with_last t = begins_with_half 12 15 t

-- how long the first part of a text is: a pair of halves, one escape, or what stands in front of the next
unfoldable pub part_len : List ℕ → ℕ
part_len t =
    if begins_with_first t && begins_with_last (drop 6 t) then 12
    else (if begins_with_unit t then 6
    else (if slice_index t 0 == 92 then 2 else prefix_len (λ b. not (b == 92)) t))

-- a part is half a pair
abbrev pub is_lone_half : List ℕ → Bool
is_lone_half part = length part == 6 && (begins_with_first part || begins_with_last part)

abbrev pub mended_part : List ℕ → List ℕ
mended_part part = if is_lone_half part then codes "\\ufffd" else part

-- a text with all of its parts
abbrev pub mended_text : List ℕ → List ℕ
mended_text t = flat_map mended_part (pieces part_len t)
