-- What is held of a line of text while it is read.
use Rattle.std.specs.Prelude.{ℕ, ◌≡◌, ◌+◌, List, ◌∷◌, drop, option_map, take}
use Rattle.std.specs.Str.{IsCharBoundary}
use Rattle.ariadne_parse.specs.Heads.{Head, colons_from}
use Rattle.ariadne_parse.specs.Kinds.{Kind}
use Rattle.ariadne_parse.specs.declared.kinds.ParsedKind.{ParsedKind}
use Rattle.ariadne_parse.specs.declared.lines.ParsedLine.{ParsedLine}

-- the kind that its pieces are
abbrev pub kind_parsed : ParsedKind → Kind
kind_parsed parsed = record {
  severity = parsed.severity;
  name = option_map (λ name. name.now) parsed.name;
  code = option_map (λ code. code.now) parsed.code;
  is_from_zero = parsed.is_from_zero;
  has_characters = parsed.has_characters;
  is_note = parsed.is_note;
  goes_on = parsed.goes_on;
}

-- the head that its pieces are
abbrev pub head_parsed : ParsedLine → Head
head_parsed parsed = record {
  file = parsed.file.now;
  start = parsed.start;
  end = parsed.end;
  ranges = parsed.ranges.now;
  kind = kind_parsed parsed.kind;
  message = parsed.message.now;
}

-- a line is cut at the next of its colons from a span on
pub record IsCutAtColon (line : List ℕ) (from : ℕ) (front rest : List ℕ) (next : ℕ) : Type 0 where
  pub at : ℕ
  pub is_next : colons_from from (drop from line) ≡ at ∷ colons_from (at + 1) (drop (at + 1) line)
  pub before : front ≡ take at line
  pub behind : rest ≡ drop (at + 1) line
  pub goes_on : next ≡ at + 1
  pub is_boundary : IsCharBoundary line next
