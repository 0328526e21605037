-- A diagnostic as it is read: its texts, and not what holds these.
use Rattle.std.specs.Prelude.{ℕ, Bool, List, map, Option, option_map, String, string_bytes}
use Rattle.std.specs.declared.alloc.Global.{Global}
use Rattle.ariadne_parse.specs.Spans.{seen, Seen}
use Rattle.ariadne_parse.specs.Proposed.{proposed, Proposed}
use Rattle.ariadne_parse.specs.declared.diagnostic.Diagnostic.{Diagnostic}
use Rattle.ariadne_parse.specs.declared.diagnostic.OwnKind.{OwnKind}
use Rattle.ariadne_parse.specs.declared.diagnostic.QuotedLine.{QuotedLine}
use Rattle.ariadne_parse.specs.declared.diagnostic.Severity.{Severity}

-- what a diagnostic tells
pub record Telling : Type 0 where
  pub severity : Severity
  pub own_kind : Option OwnKind
  pub code : Option (List ℕ)
  pub message : List ℕ
  pub spans : List Seen
  pub notes : List (List ℕ)
  pub helps : List (List ℕ)
  pub proposals : List Proposed
  pub quoted : List QuotedLine
  pub manifest : Option (String Global)
  pub is_sum : Bool

abbrev pub telling : Diagnostic → Telling
telling parsed = record {
  severity = parsed.severity;
  own_kind = parsed.own_kind;
  code = option_map string_bytes parsed.code;
  message = string_bytes parsed.message;
  spans = map seen parsed.spans.items;
  notes = map string_bytes parsed.notes.items;
  helps = map string_bytes parsed.helps.items;
  proposals = map proposed parsed.proposals.items;
  quoted = parsed.quoted.items;
  manifest = parsed.manifest;
  is_sum = parsed.is_sum;
}
