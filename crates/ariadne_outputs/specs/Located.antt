-- Where the spans of a diagnostic stand in their files, and what it says in all. The first span of a
-- list is the one that the diagnostic is about.
use Rattle.std.specs.Prelude.{ℕ, ◌==◌, if◌then◌else◌, List, [], ◌∷◌, ◌++◌, length, drop, map, codes}
use Rattle.std.specs.Prelude.{Option, Some, None, String, string_bytes}
use Rattle.std.specs.List.{flat_map}
use Rattle.std.specs.declared.alloc.Global.{Global}
use Rattle.ariadne_parse.specs.declared.diagnostic.Diagnostic.{Diagnostic}
use Rattle.ariadne_parse.specs.declared.diagnostic.Span.{Span}
use Rattle.ariadne_parse.specs.declared.diagnostic.Severity.{Severity}
use Rattle.ariadne_parse.specs.declared.diagnostic.Severity.TheVariants.{Error, Warning, Note}
use Rattle.ariadne_parse.specs.declared.diagnostic.Location.{Location}
use Rattle.ariadne_outputs.specs.declared.located.Located.{Located}

-- ---- spans

-- a span, where the tool points, where it begins, and where it ends, if that is known
pub record LocatedSpan : Type 0 where
  pub span : Span
  pub caret : Location
  pub start : Location
  pub end : Option Location

abbrev pub located_span_of : Located → LocatedSpan
located_span_of it = record { span = it.span.now; caret = it.caret; start = it.start; end = it.end }

abbrev pub located_spans_of : List Located → List LocatedSpan
located_spans_of spans = map located_span_of spans

-- the diagnostic's own, if there is one, and the others
abbrev pub first_of : {T : Type 0} → List T → Option T
first_of [] = None
first_of (x ∷ xs) = Some x

abbrev pub others_of : List LocatedSpan → List LocatedSpan
others_of located_spans = drop 1 located_spans

-- ---- texts

-- the word for a severity
abbrev pub severity_word : Severity → List ℕ
severity_word Error = codes "error"
severity_word Warning = codes "warning"
severity_word Note = codes "note"

-- what is said of a span
abbrev pub said_at : LocatedSpan → List ℕ
said_at it = string_bytes it.span.text

-- lines behind a text: each is a line feed, a front, and what is said
abbrev pub said_lines : List ℕ → List (String Global) → List ℕ
said_lines front texts = flat_map (λ text. front ++ string_bytes text) texts

-- what is said of the own span, if something is
abbrev pub own_line : Option LocatedSpan → List ℕ
own_line None = []
own_line (Some main) = if length (said_at main) == 0 then [] else 10 ∷ said_at main

-- all that a diagnostic says: its message, what its own span says, its notes and its helps, as lines
abbrev pub whole_of : Diagnostic → Option LocatedSpan → List ℕ
whole_of parsed main =
    string_bytes parsed.message ++ own_line main
    ++ said_lines (10 ∷ codes "note: ") parsed.notes.items
    ++ said_lines (10 ∷ codes "help: ") parsed.helps.items
