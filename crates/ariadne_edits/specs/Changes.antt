-- Edits in order, and the text that they make. Texts are lists of bytes in UTF-8.
use Rattle.std.specs.Prelude.{ℕ, ◌+◌, ◌≤◌, List, [], ◌∷◌, ◌++◌, map, drop, take, length}
use Rattle.std.specs.Prelude.{string_bytes, slice_range, chars, encode_utf8_all}
use Rattle.std.specs.List.Sorted.{IsPermutation, IsSortedByKey}
use Rattle.std.specs.Ordering.{nat_cmp, ordering_then}
use Rattle.std.specs.Str.{IsCharBoundary}
use Rattle.std.specs.declared.cmp.Ordering.{Ordering}
use Rattle.ariadne_picture.specs.declared.switches.IndexType.{IndexType}
use Rattle.ariadne_picture.specs.declared.switches.IndexType.TheVariants.{Byte, Char}
use Rattle.ariadne_edits.specs.declared.edit.Edit.{Edit}
use Rattle.ariadne_edits.specs.declared.change.Change.{Change}

-- ---- order

-- an edit, and its place in the list that was given, from 0
pub record Numbered : Type 0 where
  pub number : ℕ
  pub start : ℕ
  pub stop : ℕ
  pub text : List ℕ

abbrev pub with_number : ℕ → Edit → Numbered
with_number n e = record {
  number = n;
  start = e.span.start;
  stop = e.span.end;
  text = string_bytes e.text;
}

-- edits, numbered from n on
abbrev pub numbered_from : ℕ → List Edit → List Numbered
numbered_from n [] = []
numbered_from n (e ∷ es) = with_number n e ∷ numbered_from (n + 1) es

abbrev pub as_numbered : Change → Numbered
as_numbered c = record { number = c.number; start = c.start; stop = c.end; text = c.text.now }

-- what changes are ordered by: their starts, then their ends, then their numbers
abbrev pub place : Change → ℕ × ℕ × ℕ
place c = (c.start, c.end, c.number)

abbrev pub place_order : ℕ × ℕ × ℕ → ℕ × ℕ × ℕ → Ordering
place_order x y =
    ordering_then (ordering_then (nat_cmp x.0 y.0) (nat_cmp x.1 y.1)) (nat_cmp x.2 y.2)

-- changes are the edits of a list, in order. There is one such list, since numbers differ
pub record AreInOrder (edits : List Edit) (changes : List Change) : Type 0 where
  pub same : IsPermutation (numbered_from 0 edits) (map as_numbered changes)
  pub sorted : IsSortedByKey place place_order changes

-- ---- offsets in bytes

-- the byte that an offset stands at
abbrev pub byte_at : IndexType → List ℕ → ℕ → ℕ
byte_at Byte text offset = offset
byte_at Char text offset = length (encode_utf8_all (take offset (chars text)))

-- the same change of a text, in bytes
abbrev pub in_bytes : IndexType → List ℕ → Change → Change
in_bytes counts text c = record {
  number = c.number;
  start = byte_at counts text c.start;
  end = byte_at counts text c.end;
  text = c.text;
}

-- ---- the edited text

-- a change lies behind the first `at` bytes of a text and within it, and cuts no character
pub record FitsBehind (text : List ℕ) (at : ℕ) (c : Change) : Type 0 where
  pub behind : at ≤ c.start
  pub rises : c.start ≤ c.end
  pub within : c.end ≤ length text
  pub starts_whole : IsCharBoundary text c.start
  pub ends_whole : IsCharBoundary text c.end

-- each change lies behind the one in front of it
abbrev pub Fit : List ℕ → ℕ → List Change → Type 0
Fit text at [] = Unit {0}
Fit text at (c ∷ cs) = FitsBehind text at c × Fit text c.end cs

-- what stands behind the first `at` bytes, with each span replaced
unfoldable pub edited_from : List ℕ → ℕ → List Change → List ℕ
edited_from text at [] = drop at text
edited_from text at (c ∷ cs) =
    slice_range text at c.start ++ c.text.now ++ edited_from text c.end cs

-- the text with each span replaced
abbrev pub edited_text : List ℕ → List Change → List ℕ
edited_text text changes = edited_from text 0 changes
