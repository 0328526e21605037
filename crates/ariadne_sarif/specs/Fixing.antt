-- What values tell as changes, by the change that a form reads in one.
use Rattle.std.specs.Prelude.{Bool, is_some, Option}
use Rattle.serde_json.specs.Data.{Data, Items}
use Rattle.ariadne_parse.specs.Members.{all_items}
use Rattle.ariadne_parse.specs.Proposed.{Edit}
use Rattle.ariadne_sarif.specs.declared.fixing.Piece.{Piece}

abbrev pub edit_of_piece : Piece → Edit
edit_of_piece piece = record { start = piece.start; end = piece.end; put_in = piece.put_in.now }

-- each of these values tells one
abbrev pub are_changes : (Data → Option Edit) → Items → Bool
are_changes edit items = all_items (λ d. is_some (edit d)) items
