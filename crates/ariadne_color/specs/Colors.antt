-- Painted texts: what a terminal is sent for a text in a colour. Texts are their bytes in UTF-8.
use Rattle.std.specs.Prelude.{ℕ, ◌+◌, List, ◌∷◌, ◌++◌, Option, Some, None, codes, decimal}
use Rattle.ariadne_color.specs.declared.color.Color.{Color}
use Rattle.ariadne_color.specs.declared.color.Color.TheVariants.{Primary, Fixed, Rgb, Black, Red}
use Rattle.ariadne_color.specs.declared.color.Color.TheVariants.{Green, Yellow, Blue, Magenta, Cyan}
use Rattle.ariadne_color.specs.declared.color.Color.TheVariants.{White, BrightBlack, BrightRed}
use Rattle.ariadne_color.specs.declared.color.Color.TheVariants.{BrightGreen, BrightYellow}
use Rattle.ariadne_color.specs.declared.color.Color.TheVariants.{BrightBlue, BrightMagenta}
use Rattle.ariadne_color.specs.declared.color.Color.TheVariants.{BrightCyan, BrightWhite}

-- whether a colour is that of the characters or of what is behind them
pub data Layer : Type 0 where
  foreground : Layer
  background : Layer

-- a parameter in front; the same colour behind has one that is greater by ten
abbrev pub parameter : Layer → ℕ → List ℕ
parameter foreground n = decimal n
parameter background n = decimal (n + 10)

-- the parameters of a colour, as they stand between ESC [ and m
abbrev pub parameters : Layer → Color → List ℕ
parameters y Primary = parameter y 39
parameters y (Fixed n) = parameter y 38 ++ codes ";5;" ++ decimal n
parameters y (Rgb r g b) =
    parameter y 38 ++ codes ";2;" ++ decimal r ++ codes ";" ++ decimal g ++ codes ";" ++ decimal b
parameters y Black = parameter y 30
parameters y Red = parameter y 31
parameters y Green = parameter y 32
parameters y Yellow = parameter y 33
parameters y Blue = parameter y 34
parameters y Magenta = parameter y 35
parameters y Cyan = parameter y 36
parameters y White = parameter y 37
parameters y BrightBlack = parameter y 90
parameters y BrightRed = parameter y 91
parameters y BrightGreen = parameter y 92
parameters y BrightYellow = parameter y 93
parameters y BrightBlue = parameter y 94
parameters y BrightMagenta = parameter y 95
parameters y BrightCyan = parameter y 96
parameters y BrightWhite = parameter y 97

-- a text in a colour, if there is one: ESC [ parameters m, the text, ESC [ 0 m
abbrev pub painted_in : Layer → Option Color → List ℕ → List ℕ
painted_in y None text = text
painted_in y (Some c) text =
    (27 ∷ codes "[") ++ parameters y c ++ codes "m" ++ text ++ (27 ∷ codes "[0m")

-- a text in a colour in front, if there is one
abbrev pub painted : Option Color → List ℕ → List ℕ
painted c text = painted_in foreground c text

-- a value and the colour that it is printed in, if any
pub record Painting (T : Type 0) : Type 0 where
  pub value : T
  pub color : Option Color
