-- Which edits are refused, and why. Changes are in order here, and offsets as they were given.
use Rattle.std.specs.Prelude.{ℕ, Bool, false, ◌&&◌, ◌||◌, nat_le, nat_lt, List, [], ◌∷◌, length}
use Rattle.std.specs.Prelude.{Option, Some, None, option_map, if◌then◌else◌, slice_index, chars}
use Rattle.ariadne_picture.specs.declared.switches.IndexType.{IndexType}
use Rattle.ariadne_picture.specs.declared.switches.IndexType.TheVariants.{Byte, Char}
use Rattle.ariadne_edits.specs.declared.change.Change.{Change}
use Rattle.ariadne_edits.specs.declared.edit.BadEdit.{BadEdit}
use Rattle.ariadne_edits.specs.declared.edit.BadEdit.TheVariants.{Reversed, Overlaps, PastSource}
use Rattle.ariadne_edits.specs.declared.edit.BadEdit.TheVariants.{CutsCharacter}

-- ---- what is wrong with a change

-- it ends before it begins
abbrev pub is_reversed : Change → Bool
is_reversed c = nat_lt c.end c.start

-- it reaches past the text
abbrev pub size_in : IndexType → List ℕ → ℕ
size_in Byte text = length text
size_in Char text = length (chars text)

abbrev pub is_past : ℕ → Change → Bool
is_past size c = nat_lt size c.end

-- one of its ends is a byte that goes on with a character
abbrev pub is_inside : List ℕ → ℕ → Bool
is_inside text i =
    nat_lt i (length text) && (nat_le 128 (slice_index text i) && nat_lt (slice_index text i) 192)

abbrev pub cuts : IndexType → List ℕ → Change → Bool
cuts Byte text c = is_inside text c.start || is_inside text c.end
cuts Char text c = false

-- ---- which is named

-- the number of the first change that a test holds of
abbrev pub first : (Change → Bool) → List Change → Option ℕ
first test [] = None
first test (c ∷ cs) = if test c then Some c.number else first test cs

-- the number of the first change that begins before the end of the one in front of it, where the
-- one in front of the first ends at an offset
abbrev pub first_overlap : ℕ → List Change → Option ℕ
first_overlap at [] = None
first_overlap at (c ∷ cs) = if nat_lt c.start at then Some c.number else first_overlap c.end cs

-- ---- the refusal

-- one reason, or else the next
abbrev pub or_else : Option BadEdit → Option BadEdit → Option BadEdit
or_else (Some bad) next = Some bad
or_else None next = next

-- why changes of a text are refused, if they are
unfoldable pub refusal_of : IndexType → List ℕ → List Change → Option BadEdit
refusal_of counts text changes =
    or_else (option_map Reversed (first is_reversed changes))
    (or_else (option_map Overlaps (first_overlap 0 changes))
    (or_else (option_map PastSource (first (is_past (size_in counts text)) changes))
    (option_map CutsCharacter (first (cuts counts text) changes))))
