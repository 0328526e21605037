-- Each part is what its member says, or there is none.
use Rattle.std.proofs.Common.{◌∙◌, ap}
use Rattle.std.specs.Prelude.{map, option_map, string_bytes}
use Rattle.ariadne_parse.specs.Proposed.{proposed}
use Rattle.ariadne_parse.specs.Read.{as_quoted}
use Rattle.ariadne_parse.specs.Spans.{named, seen}
use Rattle.ariadne_parse.proofs.gcc.bare.Goals as goal

pub returns : goal.returns
returns c = let made = c.begun.ensures in λ i. record {
  severity = (made.severity ∙ c.severity-severity.ensures) i;
  own_kind = option_map named (made.own_kind i);
  code = (ap (option_map string_bytes) made.code ∙ c.in_ok-code.ensures) i;
  message = (ap string_bytes made.message ∙ c.in_ok-message.ensures.ok ∙ c.words.ensures) i;
  spans = map seen (made.spans i);
  notes = map string_bytes (made.notes i);
  helps = map string_bytes (made.helps i);
  proposals = map proposed (made.proposals i);
  quoted = map as_quoted (made.quoted i);
  manifest = option_map string_bytes (made.manifest i);
  is_sum = made.counted i;
}
