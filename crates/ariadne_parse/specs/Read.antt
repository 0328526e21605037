-- Diagnostics as they are read: with their texts in place of what holds these.
use Rattle.std.specs.Prelude.{ℕ, Bool, List, map, string_bytes, Option, option_map}
use Rattle.ariadne_color.specs.declared.color.Color.{Color}
use Rattle.ariadne_parse.specs.Spans.{named, seen, Seen}
use Rattle.ariadne_parse.specs.Proposed.{proposed, Proposed}
use Rattle.ariadne_parse.specs.declared.diagnostic.Diagnostic.{Diagnostic}
use Rattle.ariadne_parse.specs.declared.diagnostic.QuotedLine.{QuotedLine}
use Rattle.ariadne_parse.specs.declared.diagnostic.Severity.{Severity}

-- a line of a file as it is quoted
pub record Quoted : Type 0 where
  pub file : List ℕ
  pub line : ℕ
  pub text : List ℕ

abbrev pub as_quoted : QuotedLine → Quoted
as_quoted it = record { file = string_bytes it.file; line = it.line; text = string_bytes it.text }

-- a diagnostic
pub record Read : Type 0 where
  pub severity : Severity
  pub own_kind : Option (List ℕ × Option Color)
  pub code : Option (List ℕ)
  pub message : List ℕ
  pub spans : List Seen
  pub notes : List (List ℕ)
  pub helps : List (List ℕ)
  pub proposals : List Proposed
  pub quoted : List Quoted
  pub manifest : Option (List ℕ)
  pub is_sum : Bool

abbrev pub read : Diagnostic → Read
read parsed = record {
  severity = parsed.severity;
  own_kind = option_map named parsed.own_kind;
  code = option_map string_bytes parsed.code;
  message = string_bytes parsed.message;
  spans = map seen parsed.spans.items;
  notes = map string_bytes parsed.notes.items;
  helps = map string_bytes parsed.helps.items;
  proposals = map proposed parsed.proposals.items;
  quoted = map as_quoted parsed.quoted.items;
  manifest = option_map string_bytes parsed.manifest;
  is_sum = parsed.is_sum;
}
