-- The parts of a place: what a group caught, or else a part of the location.
use Rattle.std.proofs.Common.{◌≡◌, ◌∙◌, ℕ, ap, ap₂}
use Rattle.std.specs.Option.{option_or}
use Rattle.std.specs.Prelude.{Option, option_and_then, option_map}
use Rattle.ariadne_matchers.proofs.LastLines.{or_seen}
use Rattle.ariadne_matchers.specs.Catches.{cut_told, part_of, place_part, Cut}
use Rattle.ariadne_matchers.specs.declared.caught.Piece.{Piece}

pub part_is : (number : ℕ) (own part place chosen : Option Piece) (own_cut place_cut : Option Cut)
    → option_map cut_told own ≡ own_cut → option_map cut_told part ≡ option_and_then (part_of number) (option_map cut_told place)
    → option_map cut_told place ≡ place_cut → chosen ≡ option_or own part
    → option_map cut_told chosen ≡ place_part number place_cut own_cut
part_is number own part place chosen own_cut place_cut own_told part_told place_told chosen_is =
    ap (option_map cut_told) chosen_is ∙ or_seen cut_told own part
    ∙ ap₂ option_or own_told (part_told ∙ ap (option_and_then (part_of number)) place_told)
