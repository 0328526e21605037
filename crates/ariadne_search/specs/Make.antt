-- The lines in which make says that it enters and leaves folders, PROGRAM: Entering directory 'FOLDER'.
-- Characters stand as their numbers: 32 is a blank and 58 `:`.
use Rattle.std.specs.Prelude.{ℕ, ◌-◌, ◌==◌, nat_lt, Bool, not, ◌&&◌, if◌then◌else◌, List, length, drop, take}
use Rattle.std.specs.Prelude.{codes, Option, Some, None, option_map, option_and_then}
use Rattle.std.specs.List.{after_first, before_first, ends_with, list_any, starts_with}
use Rattle.std.specs.Option.{option_or}
use Rattle.ariadne_search.specs.declared.make.Move.{Move}
use Rattle.ariadne_search.specs.declared.make.Move.TheVariants.{Into, OutOf}

-- where make goes
pub data Going : Type 0 where
  into : List ℕ → Going
  out_of : List ℕ → Going

abbrev pub move_of : Move → Going
move_of (Into folder) = into folder.now
move_of (OutOf folder) = out_of folder.now

-- what stands behind words that a text begins with, and in front of those that it ends with
abbrev pub behind_words : List ℕ → List ℕ → Option (List ℕ)
behind_words words text =
    if starts_with (λ a b. a == b) text words then Some (drop (length words) text) else None

abbrev pub in_front_of_words : List ℕ → List ℕ → Option (List ℕ)
in_front_of_words words text =
    if ends_with (λ a b. a == b) text words then Some (take (length text - length words) text) else None

-- what stands behind the ' or backtick that a text begins with
abbrev pub opened_in : List ℕ → Option (List ℕ)
opened_in text = option_or (behind_words (codes "'") text) (behind_words (codes "`") text)

-- the folder between that and a '
abbrev pub folder_in : List ℕ → Option (List ℕ)
folder_in text = option_and_then (in_front_of_words (codes "'")) (opened_in text)

-- the name of a program is not empty and has no blank
abbrev pub is_program : List ℕ → Bool
is_program name = nat_lt 0 (length name) && not (list_any (λ c. c == 32) name)

-- the folder that make enters, and that it leaves, as it says
abbrev pub entered_in : List ℕ → Option (List ℕ)
entered_in said = option_and_then folder_in (behind_words (codes " Entering directory ") said)

abbrev pub left_in : List ℕ → Option (List ℕ)
left_in said = option_and_then folder_in (behind_words (codes " Leaving directory ") said)

-- where it goes, as it says
abbrev pub going_in : List ℕ → Option Going
going_in said = option_or (option_map into (entered_in said)) (option_map out_of (left_in said))

-- and as a line says, behind the program's name and a colon
unfoldable pub move_in : List ℕ → Option Going
move_in line =
    if is_program (before_first (λ c. c == 58) line) then going_in (after_first (λ c. c == 58) line) else None
