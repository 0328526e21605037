-- What is held of a kind and a span in lines of their own while they are read, and what they tell.
use Rattle.std.specs.Prelude.{ℕ, ◌≡◌, Bool, false, not, List, [], Option, None, option_map, string_bytes}
use Rattle.ariadne_parse.specs.declared.unit.Unit.TheVariants.{Char}
use Rattle.ariadne_parse.specs.Kinds.{Kind}
use Rattle.ariadne_parse.specs.Spans.{named, span_of, Seen}
use Rattle.ariadne_parse.specs.declared.arrows.Arrow.{Arrow}
use Rattle.ariadne_parse.specs.declared.arrows.BareHead.{BareHead}
use Rattle.ariadne_parse.specs.declared.diagnostic.Diagnostic.{Diagnostic}
use Rattle.ariadne_parse.specs.declared.diagnostic.End.TheVariants.{OfWord}
use Rattle.ariadne_parse.specs.declared.diagnostic.Severity.{Severity}
use Rattle.ariadne_parse.specs.declared.diagnostic.Location.{Location}

-- a kind and a message
pub record Bare : Type 0 where
  pub severity : Severity
  pub name : Option (List ℕ)
  pub code : Option (List ℕ)
  pub message : List ℕ

abbrev pub bare_of : Kind × List ℕ → Bare
bare_of said = record {
  severity = said.0.severity;
  name = said.0.name;
  code = said.0.code;
  message = said.1;
}

-- those that its pieces are
abbrev pub bare_parsed : BareHead → Bare
bare_parsed parsed = record {
  severity = parsed.severity;
  name = option_map (λ name. name.now) parsed.name;
  code = option_map (λ code. code.now) parsed.code;
  message = parsed.message.now;
}

-- a diagnostic is what they tell, and has no span
pub record IsOfBareHead (bare : Bare) (parsed : Diagnostic) : Type 0 where
  pub severity : parsed.severity ≡ bare.severity
  pub own_kind : option_map named parsed.own_kind ≡ option_map (λ name. (name, None)) bare.name
  pub code : option_map string_bytes parsed.code ≡ bare.code
  pub message : string_bytes parsed.message ≡ bare.message
  pub spans : parsed.spans.items ≡ []
  pub notes : parsed.notes.items ≡ []
  pub helps : parsed.helps.items ≡ []
  pub is_counted : parsed.is_sum ≡ false

-- the span that its pieces are, and whether it is a further one
abbrev pub arrow_parsed : Arrow → List ℕ × Location × Bool
arrow_parsed parsed = (parsed.file.now, parsed.start, parsed.is_further)

-- that span, up to the end of the word there; it is the diagnostic's own where it is no further one
abbrev pub span_of_arrow : List ℕ × Location × Bool → Seen
span_of_arrow arrow =
    record (span_of arrow.0 arrow.1 OfWord Char) { is_primary = not arrow.2 }
