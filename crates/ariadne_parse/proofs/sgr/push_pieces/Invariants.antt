use Rattle.std.specs.Prelude.{◌≡◌, ◌==◌, ◌++◌, length, string_bytes}
use Rattle.std.specs.List.{flat_map, slice_split}
use Rattle.std.specs.Str.{IsUtf8}
use Rattle.ariadne_parse.specs.Sgr.{without_sequence}
use Rattle.ariadne_parse.proofs.sgr.push_pieces.Given as goal

-- what is there and what is still to come is what has to be there
abbrev pub invariant-loop-piece : goal.invariant-loop-piece
invariant-loop-piece l = record {
  is_text : IsUtf8 l.rest;
  same : string_bytes l.bare ++ flat_map without_sequence (slice_split (λ c. c == 27) l.rest)
      ≡ string_bytes l.fn.bare ++ flat_map without_sequence (slice_split (λ c. c == 27) l.text);
}

abbrev pub decreases-loop-piece : goal.decreases-loop-piece
decreases-loop-piece l = length l.rest
