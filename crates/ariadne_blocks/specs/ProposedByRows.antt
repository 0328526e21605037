-- What rows for programs propose: the changes of those below one head, or of those that one help says why, are one way.
use Rattle.std.specs.Prelude.{ℕ, ◌==◌, Bool, true, ◌&&◌, if◌then◌else◌, List, [], ◌∷◌, string_bytes, Vec}
use Rattle.std.specs.List.{list_all, list_any}
use Rattle.std.specs.Str.{bytes_eq}
use Rattle.std.specs.declared.alloc.Global.{Global}
use Rattle.ariadne_parse.specs.declared.unit.Unit.TheVariants.{Byte}
use Rattle.ariadne_parse.specs.FixRows.{FixRow}
use Rattle.ariadne_parse.specs.Proposed.{gone_on, Edit, Proposed}
use Rattle.ariadne_parse.specs.declared.diagnostic.Change.{Change}
use Rattle.ariadne_blocks.specs.declared.fix_rows.ParsedChange.{ParsedChange}
use Rattle.ariadne_blocks.specs.declared.proposing.Proposing.{Proposing}

-- the change that a row tells, which has this text without escapes
abbrev pub edit_with : FixRow → List ℕ → Edit
edit_with row text = record { start = row.start; end = row.end; put_in = text }

-- how changes are proposed: which helps say them, why, of which file, and what rows of the snippet told of them
pub record Way : Type 0 where
  pub helps : ℕ × ℕ
  pub why : List ℕ
  pub file : List ℕ
  pub drawn : List ParsedChange

abbrev pub way_of : Proposing → Way
way_of by = record {
  helps = (by.helps.start, by.helps.end);
  why = string_bytes by.why;
  file = string_bytes by.file;
  drawn = by.drawn.now;
}

-- one of these changes is in this line
abbrev pub is_in_line : ℕ → List Edit → Bool
is_in_line line way = list_any (λ edit. edit.start.line == line) way

abbrev pub are_in_line : ℕ → List (List Edit) → Bool
are_in_line line ways = list_any (is_in_line line) ways

-- so it is of ways as they are held
abbrev pub any_in_line : ℕ → List (Vec Change Global) → Bool
any_in_line line ways = list_any (λ way. list_any (λ change. change.start.line == line) way.items) ways

-- helps say the same as changes where one of these is in each line that rows of the snippet change; else none does
abbrev pub helps_saying : Way → List (List Edit) → ℕ × ℕ
helps_saying by ways =
    if list_all (λ change. are_in_line change.line ways) by.drawn then by.helps else (by.helps.0, by.helps.0)

-- what is proposed by these changes
abbrev pub changing : Way → List (List Edit) → Proposed
changing by ways = record {
  helps = helps_saying by ways;
  why = by.why;
  file = by.file;
  unit = Byte;
  is_past_mark = true;
  ways = ways;
}

-- a proposal goes on that begins with the same help, and is of the same file
abbrev pub goes_on_with : Way → Proposed → Bool
goes_on_with by it = it.helps.0 == by.helps.0 && bytes_eq it.file by.file

abbrev pub gone_on_by : Way → Edit → Proposed → Proposed
gone_on_by by edit it =
    record it { helps = helps_saying by (gone_on edit it.ways); ways = gone_on edit it.ways }

-- the last proposal with a change behind it
abbrev pub last_with : Way → Edit → Proposed → List Proposed
last_with by edit it =
    if goes_on_with by it then gone_on_by by edit it ∷ [] else it ∷ changing by ((edit ∷ []) ∷ []) ∷ []

-- proposals with a change
abbrev pub proposals_with : Way → Edit → List Proposed → List Proposed
proposals_with by edit [] = changing by ((edit ∷ []) ∷ []) ∷ []
proposals_with by edit (it ∷ []) = last_with by edit it
proposals_with by edit (it ∷ next ∷ its) = it ∷ proposals_with by edit (next ∷ its)
