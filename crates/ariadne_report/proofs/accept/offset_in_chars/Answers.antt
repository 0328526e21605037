-- The start of the source is known.
use Rattle.ariadne_report.proofs.KnownPlaces.{start_known}
use Rattle.ariadne_report.proofs.accept.offset_in_chars.Goals as goal

-- no character is before it
pub counted_in_chars-requires : goal.counted_in_chars-requires
counted_in_chars-requires g c = start_known c.args.source.now.text
