-- Sources that can be shown, by their numbers: what they are called, how they are shown, and what
-- was given. Offsets in bytes are those of the given texts, and are found in the shown ones.
use Rattle.std.specs.Prelude.{ℕ, ◌+◌, ◌-◌, min, nat_lt, if◌then◌else◌, List, [], ◌∷◌, map}
use Rattle.std.specs.Prelude.{Option, option_map, option_and_then, slice_get, unwrap_or}
use Rattle.std.specs.Prelude.{string_bytes, chars}
use Rattle.std.specs.Char.{len_utf8}
use Rattle.std.specs.List.{enumerate_from}
use Rattle.ariadne.specs.Lines.{begins_with_line_feed}
use Rattle.ariadne.specs.Listing.{Listing}
use Rattle.ariadne.specs.IndexType.{IndexType}
use Rattle.ariadne.specs.IndexType.TheVariants.{Byte, Char}
use Rattle.ariadne_safe.specs.declared.sources.LineEnds.{LineEnds}
use Rattle.ariadne_safe.specs.declared.sources.LineEnds.TheVariants.{All, LineFeeds}
use Rattle.ariadne_safe.specs.declared.sources.SafeSource.{SafeSource}
use Rattle.ariadne_safe.specs.declared.sources.SafeSources.{SafeSources}
use Rattle.ariadne_safe.specs.declared.text.TextKind.{TextKind}
use Rattle.ariadne_safe.specs.declared.text.TextKind.TheVariants.{Lines, CompilerLines}
use Rattle.ariadne_safe.specs.Visible.{shown_code}

-- what ends a line of a source
abbrev pub kind_of : LineEnds → TextKind
kind_of All = Lines
kind_of LineFeeds = CompilerLines

-- a source as it is shown: its text, and what is added to the numbers of its lines
abbrev pub listing_of : SafeSource → Listing
listing_of s = s.source

-- what it is called, as that is shown
abbrev pub name_of : SafeSource → Option (List ℕ)
name_of s = option_map string_bytes s.name

-- the text that was given: it is kept where another one is shown
abbrev pub given_of : SafeSource → List ℕ
given_of s = unwrap_or (option_map string_bytes s.given) s.source.text

-- what ends its lines
abbrev pub line_ends_of : SafeSource → LineEnds
line_ends_of s = s.lines

-- the sources, of which the first has the number 0
abbrev pub sources_of : SafeSources → List SafeSource
sources_of s = s.sources.items

-- what is held under the numbers
abbrev pub numbered : List SafeSource → List (ℕ × Listing)
numbered sources = enumerate_from 0 (map (λ (s : SafeSource). s.source) sources)

-- and what the source with a number is called
abbrev pub name_at : List SafeSource → ℕ → Option (List ℕ)
name_at sources k = option_and_then name_of (slice_get sources k)

-- ---- offsets

-- where an offset in bytes of a text stands among the bytes that are shown of it. One before a
-- character stands before its sign, and one inside a character behind the first byte of its sign.
-- One past the text stands as far past what is shown, or 2 past it where it is farther
unfoldable pub shown_offset : TextKind → List ℕ → ℕ → ℕ
shown_offset kind [] o = min o 2
shown_offset kind (c ∷ t) o =
    if nat_lt o (len_utf8 c) then min o 1
    else len_utf8 (shown_code kind c (begins_with_line_feed t)) + shown_offset kind t (o - len_utf8 c)

-- an offset into a source, by what offsets count. Where nothing was changed it stays
unfoldable pub offset_in : IndexType → SafeSource → ℕ → ℕ
offset_in Char s o = o
offset_in Byte s o =
    let kind = kind_of s.lines in
    unwrap_or (option_map (λ given. shown_offset kind (chars (string_bytes given)) o) s.given) o
