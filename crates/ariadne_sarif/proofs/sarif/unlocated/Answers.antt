-- What is said is as `Diagnostic::new` puts it, with the code.
use Rattle.std.proofs.Common.{◌∙◌, ap}
use Rattle.std.specs.Prelude.{map, option_map, string_bytes}
use Rattle.ariadne_parse.specs.Proposed.{proposed}
use Rattle.ariadne_parse.specs.Read.{as_quoted}
use Rattle.ariadne_parse.specs.Spans.{named, seen}
use Rattle.ariadne_sarif.proofs.sarif.unlocated.Goals as goal

pub returns : goal.returns
returns c = let made = c.in_ok-parsed.ensures in λ i. record {
  severity = (made.severity ∙ c.severity_of.ensures) i;
  own_kind = option_map named (made.own_kind i);
  code = c.in_ok-parsed-2.ensures i;
  message = (made.message ∙ c.as_str.ensures.value ∙ c.in_ok-text.ensures) i;
  spans = map seen (made.spans i);
  notes = map string_bytes (made.notes i);
  helps = map string_bytes (made.helps i);
  proposals = map proposed (made.proposals i);
  quoted = map as_quoted (made.quoted i);
  manifest = option_map string_bytes (made.manifest i);
  is_sum = made.counted i;
}
