-- How a table is refused: by a line of it, by what is wrong with it, or with an entry. There may be no memory at any
-- time.
use Rattle.std.specs.Prelude.{ℕ, ◌≡◌, ◌≤◌, ◌+◌, ◌==◌, List, count_by, length, take, Option, string_bytes, unwrap_or}
use Rattle.std.specs.Fmt.{decimal}
use Rattle.serde_json.specs.Errors.{IsMemory as IsMemoryOfJson}
use Rattle.serde_json.specs.declared.error.Error as json
use Rattle.toml.specs.Errors.{IsMemory}
use Rattle.toml.specs.declared.de.error.Error.{Error}
use Rattle.ariadne_matcher_tables.specs.declared.refusal.Fault.{Fault}
use Rattle.ariadne_matcher_tables.specs.declared.refusal.Fault.TheVariants as wrong
use Rattle.ariadne_matcher_tables.specs.declared.refusal.Refusal.{Refusal}
use Rattle.ariadne_matcher_tables.specs.declared.refusal.Refusal.TheVariants as refused

-- it has a fault that is no entry's
abbrev pub whole_of : Fault → Refusal
whole_of (wrong.Memory error) = refused.Memory error
whole_of fault = refused.Whole fault

-- an entry that is called so has a fault
abbrev pub IsOfFault : List ℕ → Fault → Refusal → Type 0
IsOfFault called fault (refused.Memory error) = Unit {0}
IsOfFault called fault (refused.Text line what) = ⊥
IsOfFault called fault (refused.Whole told) = ⊥
IsOfFault called fault (refused.Entry name told) = (string_bytes name ≡ called) × (told ≡ fault)

-- an entry without a name is called by its number from 1
abbrev pub called_by : ℕ → Option (List ℕ) → List ℕ
called_by number name = unwrap_or name (decimal number)

-- something is wrong in a line
abbrev pub IsInLine : ℕ → List ℕ → Refusal → Type 0
IsInLine line what (refused.Memory error) = Unit {0}
IsInLine line what (refused.Text told said) = (told ≡ line) × (string_bytes said ≡ what)
IsInLine line what (refused.Whole fault) = ⊥
IsInLine line what (refused.Entry name fault) = ⊥

-- the line of a place in a text, from 1
abbrev pub line_at : List ℕ → ℕ → ℕ
line_at text place = count_by (λ c. c == 10) (take place text) + 1

-- something is wrong in a line of a text
abbrev pub IsOfText : List ℕ → Refusal → Type 0
IsOfText text (refused.Memory error) = Unit {0}
IsOfText text (refused.Text line what) = (place : ℕ) × (place ≤ length text) × (line ≡ line_at text place)
IsOfText text (refused.Whole fault) = ⊥
IsOfText text (refused.Entry name fault) = ⊥

-- by an error of its parser, which is not for want of memory
abbrev pub IsOfToml : List ℕ → Error → Refusal → Type 0
IsOfToml text error (refused.Memory none) = Unit {0}
IsOfToml text error (refused.Text line what) = (¬ IsMemory error) × IsOfText text (refused.Text line what)
IsOfToml text error (refused.Whole fault) = ⊥
IsOfToml text error (refused.Entry name fault) = ⊥

-- a text is no JSON, by an error of its parser that is not for want of memory
abbrev pub IsOfJson : json.Error → Refusal → Type 0
IsOfJson error (refused.Memory none) = Unit {0}
IsOfJson error (refused.Text line what) = ¬ IsMemoryOfJson error
IsOfJson error (refused.Whole fault) = ⊥
IsOfJson error (refused.Entry name fault) = ⊥
