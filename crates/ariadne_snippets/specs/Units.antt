-- A line in the units of an encoding, of which a character may take several. Characters stand as their numbers: 63 is
-- `?`, those below 128 are of ASCII, and those from 65536 on take two units of UTF-16.
use Rattle.std.specs.Prelude.{ℕ, ◌+◌, nat_lt, if◌then◌else◌, List, [], ◌∷◌, ◌++◌, replicate}
use Rattle.std.specs.Char.{len_utf8}
use Rattle.ariadne_snippets.specs.declared.units.Units.{Units}
use Rattle.ariadne_snippets.specs.declared.units.Units.TheVariants.{Utf16, Bytes}

-- how many units a character takes
abbrev pub count_of : Units → ℕ → ℕ
count_of Utf16 c = if nat_lt c 65536 then 1 else 2
count_of Bytes c = len_utf8 c

-- what each of them is in a row: the character, or `?` for a byte that is none of ASCII
abbrev pub sign_of : Units → ℕ → ℕ
sign_of Utf16 c = c
sign_of Bytes c = if nat_lt c 128 then c else 63

abbrev pub units_of : Units → ℕ → List ℕ
units_of units c = replicate (count_of units c) (sign_of units c)

-- a line in units
unfoldable pub in_units : Units → List ℕ → List ℕ
in_units units [] = []
in_units units (c ∷ line) = units_of units c ++ in_units units line

-- where its characters, and its end, begin among them, from a place on
unfoldable pub unit_begins : Units → ℕ → List ℕ → List ℕ
unit_begins units at [] = at ∷ []
unit_begins units at (c ∷ line) = at ∷ unit_begins units (at + count_of units c) line
