-- Colours by their numbers: 1 to 17 the ones that have names, from 256 on those of the palette, and
-- from 2 to the 24th on those of red, green and blue. No colour has another number.
use Rattle.std.specs.Prelude.{ℕ, ◌-◌, ◌/◌, ◌%◌, ◌&&◌, ◌||◌, Bool}
use Rattle.std.specs.Prelude.{if◌then◌else◌, nat_le, nat_lt, List, [], ◌∷◌, Option, Some, None}
use Rattle.std.specs.Prelude.{slice_get}
use Rattle.ariadne.specs.Color.{Color}
use Rattle.ariadne.specs.Color.TheVariants as color

-- the colours with names, in the order of their numbers
abbrev pub named_colors : List Color
named_colors = color.Primary ∷ color.Black ∷ color.Red ∷ color.Green ∷ color.Yellow ∷ color.Blue
    ∷ color.Magenta ∷ color.Cyan ∷ color.White ∷ color.BrightBlack ∷ color.BrightRed
    ∷ color.BrightGreen ∷ color.BrightYellow ∷ color.BrightBlue ∷ color.BrightMagenta
    ∷ color.BrightCyan ∷ color.BrightWhite ∷ []

-- a number lies in the stretch that begins with the first of these and ends before the second
abbrev pub lies_in : ℕ → ℕ → ℕ → Bool
lies_in first past n = nat_le first n && nat_lt n past

-- a colour has this number
abbrev pub is_color : ℕ → Bool
is_color n = (lies_in 1 18 n || lies_in 256 512 n) || lies_in 16777216 33554432 n

-- the colour with a name that has this number
abbrev pub named_color : ℕ → Option Color
named_color n = slice_get named_colors (n - 1)

-- the colour with this number, if there is one
abbrev pub color_of : ℕ → Option Color
color_of n =
    if is_color n then (if nat_lt n 18 then named_color n
    else (if nat_lt n 512 then Some (color.Fixed (n - 256))
    else Some (color.Rgb ((n / 65536) % 256) ((n / 256) % 256) (n % 256)))) else None
