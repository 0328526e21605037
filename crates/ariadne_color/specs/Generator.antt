-- The colour generator. It keeps three numbers below 65536, for red, green and blue, and a
-- brightness in thousandths. Each call adds to each number a step of its own, modulo 65536. It
-- returns a colour of the cube of 6 * 6 * 6 colours that begins at number 16 of the 256-colour
-- palette.
use Rattle.std.specs.Prelude.{◌≡◌, ℕ, zero, suc, ◌+◌, ◌-◌, ◌*◌, ◌/◌, ◌%◌, ◌<◌}
use Rattle.ariadne_color.specs.declared.color.Color.{Color}
use Rattle.ariadne_color.specs.declared.color.Color.TheVariants.{Fixed}

-- what a generator holds: a number for each of three channels, and how bright its colours are
pub record GeneratorState : Type 0 where
  pub red : ℕ
  pub green : ℕ
  pub blue : ℕ
  pub brightness : ℕ

-- the state that a generator has where none is given
abbrev pub usual_start : GeneratorState
usual_start = record { red = 30000; green = 15000; blue = 35000; brightness = 500 }

-- what a call adds to the number at a channel, where red is at 0, green at 1 and blue at 2
abbrev pub step_at : ℕ → ℕ
step_at channel = 40503 * (4 * channel + 1130)

-- the number at a channel, after n calls from where it began
abbrev pub number_after : ℕ → ℕ → ℕ → ℕ
number_after channel n start = (start + n * step_at channel) % 65536

-- the state after a call
abbrev pub stepped : GeneratorState → GeneratorState
stepped s = record {
  red = (s.red + step_at 0) % 65536;
  green = (s.green + step_at 1) % 65536;
  blue = (s.blue + step_at 2) % 65536;
  brightness = s.brightness;
}

-- a number, brought nearer to the greatest by the brightness, a thousand times as large
abbrev pub level : ℕ → ℕ → ℕ
level brightness number = number * (1000 - brightness) + 65535 * brightness

-- the colour that a state stands for
abbrev pub color_of : GeneratorState → Color
color_of s =
    Fixed (16 + (180 * level s.brightness s.red + 30 * level s.brightness s.green + 5 * level s.brightness s.blue) / 65535000)

-- the state after n calls, one after another
unfoldable pub state_after : ℕ → GeneratorState → GeneratorState
state_after zero s = s
state_after (suc n) s = stepped (state_after n s)

-- the three numbers are below 65536
abbrev pub IsInRange : GeneratorState → Type 0
IsInRange s = (s.red < 65536) × (s.green < 65536) × (s.blue < 65536)

-- each number moves evenly: its start plus n times its step, modulo 65536
abbrev pub RisesEvenly : ℕ → GeneratorState → Type 0
RisesEvenly n s =
    state_after n s ≡ record {
      red = number_after 0 n s.red;
      green = number_after 1 n s.green;
      blue = number_after 2 n s.blue;
      brightness = s.brightness;
    }
