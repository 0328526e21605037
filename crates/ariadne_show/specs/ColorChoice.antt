-- Whether there are colours: what `--color`, the environment and the output say of that.
use Rattle.std.specs.Prelude.{◌&&◌, ◌==◌, Bool, true, false, not, ℕ, List, [], ◌∷◌, length, codes}
use Rattle.std.specs.Prelude.{Option, String, string_bytes, find, unwrap_or, option_map}
use Rattle.std.specs.Option.{option_map_or}
use Rattle.std.specs.Str.{bytes_eq}
use Rattle.std.specs.declared.alloc.Global.{Global}
use Rattle.ariadne_show.specs.declared.environment.Environment.{Environment}
use Rattle.ariadne_show.specs.declared.options.Colors.{Colors}
use Rattle.ariadne_show.specs.declared.options.Colors.TheVariants.{Auto, Always, Never}

-- a variable is set, and not empty
abbrev pub is_set : Option (String Global) → Bool
is_set value = option_map_or (λ text. not (length (string_bytes text) == 0)) value false

-- a variable holds this
abbrev pub holds : Option (String Global) → List ℕ → Bool
holds value text = option_map_or (λ held. bytes_eq (string_bytes held) text) value false

-- one line: whether it holds, and whether there are colours then
pub record Line : Type 0 where
  pub is_so : Bool
  pub is_colored : Bool

abbrev pub line : Bool → Bool → Line
line is_so is_colored = record { is_so = is_so; is_colored = is_colored }

-- what the variables say
abbrev pub lines : Environment → List Line
lines env =
    line (is_set env.no_color) false
    ∷ line (is_set env.force_color) true
    ∷ line (is_set env.clicolor_force && not (holds env.clicolor_force (codes "0"))) true
    ∷ line (holds env.clicolor (codes "0")) false
    ∷ line (holds env.term (codes "dumb")) false
    ∷ []

-- the first line that holds, if one does
abbrev pub asked : Environment → Option Bool
asked env = option_map (λ said. said.is_colored) (find (λ said. said.is_so) (lines env))

-- `--color` says it, or else the variables, or else the output: a terminal has colours
abbrev pub are_colored : Colors → Environment → Bool → Bool
are_colored Always env is_terminal = true
are_colored Never env is_terminal = false
are_colored Auto env is_terminal = unwrap_or (asked env) is_terminal
