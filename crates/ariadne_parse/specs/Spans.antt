-- Spans of a diagnostic and kinds of its own, with their texts in place of what holds these.
use Rattle.std.specs.Prelude.{ℕ, ◌+◌, ◌-◌, ◌^◌, min, ◌==◌, pos, Bool, false, ◌&&◌, if◌then◌else◌, List, []}
use Rattle.std.specs.Prelude.{Option, None, option_map, string_bytes, unwrap_or}
use Rattle.ariadne_color.specs.declared.color.Color.{Color}
use Rattle.ariadne_parse.specs.declared.unit.Unit.{Unit}
use Rattle.ariadne_parse.specs.declared.counting.Counting.{Counting}
use Rattle.ariadne_parse.specs.declared.diagnostic.End.{End}
use Rattle.ariadne_parse.specs.declared.diagnostic.End.TheVariants.{Before, Behind, OfWord}
use Rattle.ariadne_parse.specs.declared.diagnostic.Look.{Look}
use Rattle.ariadne_parse.specs.declared.diagnostic.OwnKind.{OwnKind}
use Rattle.ariadne_parse.specs.declared.diagnostic.Span.{Span}
use Rattle.ariadne_parse.specs.declared.diagnostic.Location.{Location}

-- two locations are the same
abbrev pub is_same_location : Location → Location → Bool
is_same_location a b = a.line == b.line && unwrap_or a.column 0 == unwrap_or b.column 0

-- a span as it is read: its texts, and not what holds them
pub record Seen : Type 0 where
  pub file : List ℕ
  pub caret : Location
  pub start : Location
  pub end : End
  pub unit : Unit
  pub is_past_mark : Bool
  pub text : List ℕ
  pub is_primary : Bool
  pub look : Look
  -- from where to where the tool's own marks cover it
  pub marks : Option (Location × Location)

abbrev pub seen : Span → Seen
seen span = record {
  file = string_bytes span.file;
  caret = span.caret;
  start = span.start;
  end = span.end;
  unit = span.unit;
  is_past_mark = span.is_past_mark;
  text = string_bytes span.text;
  is_primary = span.is_primary;
  look = span.look;
  marks = span.marks;
}

-- a span of a file of which nothing is said
abbrev pub span_of : List ℕ → Location → End → Unit → Seen
span_of file start end unit = record {
  file = file;
  caret = start;
  start = start;
  end = end;
  unit = unit;
  is_past_mark = false;
  text = [];
  is_primary = false;
  look = record { order = pos 0; priority = pos 0; color = None };
  marks = None;
}

-- ---- spans between locations whose columns count so

-- a location with a column from 1, of one with a column from 0; it is one of the machine's
abbrev pub from_one : Location → Location
from_one location = record location { column = option_map (λ column. min (column + 1) (2 ^ 64 - 1)) location.column }

abbrev pub counted_location : Counting → Location → Location
counted_location counting location = if counting.is_from_zero then from_one location else location

abbrev pub counted_end : Counting → End → End
counted_end counting (Before location) = Before (counted_location counting location)
counted_end counting (Behind location) = Behind (counted_location counting location)
counted_end counting OfWord = OfWord

abbrev pub counted_span : List ℕ → Location → End → Counting → Seen
counted_span file start end counting =
    span_of file (counted_location counting start) (counted_end counting end) counting.unit

-- ---- kinds

-- a kind of its own: its name, and its colour
abbrev pub named : OwnKind → List ℕ × Option Color
named kind = (string_bytes kind.name, kind.color)
