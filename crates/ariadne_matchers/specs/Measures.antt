-- What columns count, from 0, and the characters of a line that they mean. A line is a list of characters.
use Rattle.std.specs.Prelude.{ℕ, suc, ◌+◌, ◌-◌, ◌%◌, ◌^◌, ◌==◌, nat_le, nat_lt, min, if◌then◌else◌}
use Rattle.std.specs.Prelude.{List, [], ◌∷◌, fold}
use Rattle.std.specs.Char.{len_utf8}
use Rattle.ariadne_parse.specs.Columns.{columns_of}
use Rattle.ariadne_parse.specs.declared.unit.Unit.TheVariants as columns
use Rattle.ariadne_matchers.specs.declared.measure.Measure.{Measure}
use Rattle.ariadne_matchers.specs.declared.measure.Unit.{Unit}
use Rattle.ariadne_matchers.specs.declared.measure.Unit.TheVariants.{Characters, Bytes, Utf16, Display}

-- the columns of a character that is no tab
abbrev pub unit_width : Unit → ℕ → ℕ
unit_width Characters c = 1
unit_width Bytes c = len_utf8 c
unit_width Utf16 c = if nat_lt c 65536 then 1 else 2
unit_width Display c = columns_of columns.Display 0 c

-- those of a character that stands behind `at` columns: a tab goes on to the next stop
abbrev pub width_of : Measure → ℕ → ℕ → ℕ
width_of measure at c = if c == 9 then measure.tabs - at % measure.tabs else unit_width measure.unit c

-- those in front of what stands behind a text, up to the greatest number
abbrev pub width_from : Measure → ℕ → List ℕ → ℕ
width_from measure at text = fold (λ at c. min (at + width_of measure at c) (2 ^ 64 - 1)) at text

-- how many characters of a line end at most `limit` columns behind its start, of which `at` are passed
unfoldable pub passed_from : Measure → ℕ → ℕ → List ℕ → ℕ
passed_from measure limit at [] = 0
passed_from measure limit at (c ∷ line) =
    if nat_le (at + width_of measure at c) limit
    then suc (passed_from measure limit (at + width_of measure at c) line) else 0
