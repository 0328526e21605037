use Rattle.std.proofs.Common.{◌≡◌, map, take}
use Rattle.std.specs.List.{range_with_len}
use Rattle.ariadne_parse.specs.declared.unit.Unit.TheVariants.{Display}
use Rattle.ariadne_snippets.specs.Quotes.{lead_begin}
use Rattle.ariadne_snippets.specs.Rows.{column_past}
use Rattle.ariadne_snippets.proofs.quote.lead_begins.Given as goal

-- the columns that are passed, and where the characters of these begin
abbrev pub invariant-loop-place : goal.invariant-loop-place
invariant-loop-place l =
    (l.at ≡ column_past Display 0 (take l.place l.lead))
    × (l.begins.items ≡ map (lead_begin l.lead l.start) (range_with_len 0 l.place))
