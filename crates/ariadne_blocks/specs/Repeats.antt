-- Spans of which the same is told again, which is shown once. Those that stand far in front of a span count as
-- none, so that no list takes longer than its spans do. What a diagnostic is about is never a repeat.
use Rattle.std.specs.Prelude.{◌-◌, Bool, true, false, not, ◌&&◌, if◌then◌else◌, List, [], ◌∷◌, ◌++◌, drop, fold, length}
use Rattle.std.specs.Prelude.{Option, None, Some}
use Rattle.std.specs.List.{list_any}
use Rattle.std.specs.Str.{bytes_eq}
use Rattle.ariadne_parse.specs.declared.unit.Unit.{Unit}
use Rattle.ariadne_parse.specs.declared.unit.Unit.TheVariants.{Byte, Char, Display, Utf16}
use Rattle.ariadne_parse.specs.Spans.{Seen}
use Rattle.ariadne_parse.specs.declared.diagnostic.End.{End}
use Rattle.ariadne_parse.specs.declared.diagnostic.End.TheVariants.{Before, Behind, OfWord}
use Rattle.ariadne_parse.specs.declared.diagnostic.Location.{Location}
use Rattle.ariadne_blocks.specs.MarkedLocations.{is_same_location}

-- two spans end in the same way
abbrev pub is_same_end : End → End → Bool
is_same_end (Before a) (Before b) = is_same_location a b
is_same_end (Before a) (Behind b) = false
is_same_end (Before a) OfWord = false
is_same_end (Behind a) (Before b) = false
is_same_end (Behind a) (Behind b) = is_same_location a b
is_same_end (Behind a) OfWord = false
is_same_end OfWord (Before b) = false
is_same_end OfWord (Behind b) = false
is_same_end OfWord OfWord = true

-- their columns count the same
abbrev pub is_same_unit : Unit → Unit → Bool
is_same_unit Byte Byte = true
is_same_unit Byte Char = false
is_same_unit Byte Utf16 = false
is_same_unit Byte Display = false
is_same_unit Char Byte = false
is_same_unit Char Char = true
is_same_unit Char Utf16 = false
is_same_unit Char Display = false
is_same_unit Utf16 Byte = false
is_same_unit Utf16 Char = false
is_same_unit Utf16 Utf16 = true
is_same_unit Utf16 Display = false
is_same_unit Display Byte = false
is_same_unit Display Char = false
is_same_unit Display Utf16 = false
is_same_unit Display Display = true

-- marks cover the same, or none cover anything
abbrev pub is_same_range : Option (Location × Location) → Option (Location × Location) → Bool
is_same_range None None = true
is_same_range None (Some b) = false
is_same_range (Some a) None = false
is_same_range (Some a) (Some b) = is_same_location a.0 b.0 && is_same_location a.1 b.1

-- the same is said at the same span of a file
abbrev pub says_same : Seen → Seen → Bool
says_same a b =
    is_same_location a.start b.start
    && (is_same_end a.end b.end
    && (is_same_unit a.unit b.unit
    && (is_same_range a.marks b.marks && (bytes_eq a.text b.text && bytes_eq a.file b.file))))

-- a span repeats one of those in front of it
abbrev pub is_repeat : List Seen → Seen → Bool
is_repeat front span = not span.is_primary && list_any (λ other. says_same other span) front

-- the last of spans
abbrev pub last_of : List Seen → List Seen
last_of spans = drop (length spans - 256) spans

-- spans, and one more behind them, unless it repeats one of the last
abbrev pub with_span : List Seen → Seen → List Seen
with_span front span = if is_repeat (last_of front) span then front else front ++ span ∷ []

-- spans without those that repeat others
abbrev pub once : List Seen → List Seen
once spans = fold with_span [] spans
