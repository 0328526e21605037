-- What is held of a line in front of a diagnostic while it is read, and the span that it tells.
use Rattle.ariadne_parse.specs.declared.unit.Unit.TheVariants as unit
use Rattle.ariadne_parse.specs.Fronts as fronts
use Rattle.ariadne_parse.specs.Spans.{span_of, Seen}
use Rattle.ariadne_parse.specs.declared.diagnostic.End.TheVariants.{OfWord}
use Rattle.ariadne_parse.specs.declared.fronts.Front.{Front}

-- the front that its pieces are
abbrev pub front_parsed : Front → fronts.Front
front_parsed parsed = record { file = parsed.file.now; start = parsed.start; text = parsed.text.now }

-- the span with its text, up to the end of the word there; its column counts bytes
abbrev pub span_of_front : fronts.Front → Seen
span_of_front front = record (span_of front.file front.start OfWord unit.Byte) { text = front.text }
