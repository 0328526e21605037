-- A terminal, as far as a line can change what it shows of the next ones. It reads UTF-8, and shows the
-- characters that are not hidden (`Visible`), and tabs. It obeys sequences that paint letters by the
-- numbers of `Sequences`; to obey anything else is a misuse. 9 is a tab, 27 the escape character, 91 `[`
-- and 109 `m`.
use Rattle.std.specs.Prelude.{ℕ, ◌==◌, Bool, true, false, not, ◌&&◌, if◌then◌else◌, List, []}
use Rattle.std.specs.Prelude.{◌∷◌, ◌++◌, Some, option_and_then, unwrap_or}
use Rattle.std.specs.List.{fold}
use Rattle.ariadne_safe.specs.Visible.{is_hidden}
use Rattle.ariadne_outputs.specs.Sequences.{are_kept, awaited_behind, is_of_parameters, is_whole}
use Rattle.ariadne_outputs.specs.Sequences.{number_in, parts_of}
use Rattle.ariadne_outputs.specs.declared.sequence.Awaited.{Awaited}
use Rattle.ariadne_outputs.specs.declared.sequence.Awaited.TheVariants.{Attribute}

-- what it reads: text, what stands behind an escape character, or a sequence behind these parameters
pub data Reading : Type 0 where
  reads_text : Reading
  reads_escape : Reading
  reads_parameters : List ℕ → Reading

-- its state. The look of letters hangs on the numbers that it has obeyed since the last 0
pub record Terminal : Type 0 where
  pub reading : Reading
  pub look : List ℕ
  pub is_misused : Bool

-- it has obeyed nothing
abbrev pub plain : Terminal
plain = record { reading = reads_text; look = []; is_misused = false }

-- ---- what it obeys

-- the look behind a number: 0 ends it, unless it is one of a colour
abbrev pub look_by : Awaited → ℕ → List ℕ → List ℕ
look_by awaited n look = if is_whole (Some awaited) && (n == 0) then [] else look ++ n ∷ []

-- the look behind the parts of parameters, whose numbers are kept
abbrev pub look_behind : Awaited → List (List ℕ) → List ℕ → List ℕ
look_behind awaited [] look = look
look_behind awaited (part ∷ parts) look =
    let next = option_and_then (awaited_behind awaited) (number_in part) in
    look_behind (unwrap_or next Attribute) parts (look_by awaited (unwrap_or (number_in part) 0) look)

-- a terminal that has obeyed anything else
abbrev pub misused : Terminal → Terminal
misused terminal = record terminal { reading = reads_text; is_misused = true }

-- behind a character, by what it reads
abbrev pub step_by : Reading → Terminal → ℕ → Terminal
step_by reads_text terminal c =
    if c == 27 then record terminal { reading = reads_escape }
    else (if is_hidden c && not (c == 9) then misused terminal else terminal)
step_by reads_escape terminal c =
    if c == 91 then record terminal { reading = reads_parameters [] } else misused terminal
step_by (reads_parameters parameters) terminal c =
    if is_of_parameters c
    then record terminal { reading = reads_parameters (parameters ++ c ∷ []) }
    else (if (c == 109) && are_kept parameters
    then record terminal {
      reading = reads_text;
      look = look_behind Attribute (parts_of parameters) terminal.look;
    }
    else misused terminal)

abbrev pub step : Terminal → ℕ → Terminal
step terminal c = step_by terminal.reading terminal c

-- behind a text
abbrev pub terminal_behind : Terminal → List ℕ → Terminal
terminal_behind terminal line = fold step terminal line
