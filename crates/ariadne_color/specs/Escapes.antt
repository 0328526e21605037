-- The escape before a painted text, as the code writes it: a text that is the colour's own, and
-- behind it the numbers of the colour, if it has any.
use Rattle.std.specs.Prelude.{◌≡◌, ℕ, List, [], ◌∷◌, ◌++◌, Option, Some, None, codes, decimal}
use Rattle.ariadne_color.specs.declared.color.Color.{Color}
use Rattle.ariadne_color.specs.declared.color.Color.TheVariants.{Fixed, Rgb}
use Rattle.ariadne_color.specs.Colors.{Layer, foreground, parameters}

-- the escape that opens a colour: ESC [ parameters m
abbrev pub opening : Layer → Color → List ℕ
opening y c = (27 ∷ codes "[") ++ parameters y c ++ codes "m"

-- its end, from the first number on
abbrev pub opening_end : Color → List ℕ
opening_end (Fixed n) = decimal n ++ codes "m"
opening_end (Rgb r g b) = decimal r ++ codes ";" ++ decimal g ++ codes ";" ++ decimal b ++ codes "m"
opening_end _ = []

-- the escape that ends a painted text
abbrev pub closing : List ℕ
closing = 27 ∷ codes "[0m"

-- what stands before and behind a painted text
abbrev pub opened : Option Color → List ℕ
opened None = []
opened (Some c) = opening foreground c

-- what stands behind it
abbrev pub closed : Option Color → List ℕ
closed None = []
closed (Some c) = closing

-- a text got a beginning of what was to follow it, and nothing else
pub record IsCutShort (before more after : List ℕ) : Type 0 where
  pub part : List ℕ
  pub rest : List ℕ
  pub begins : more ≡ part ++ rest
  pub follows : after ≡ before ++ part
