-- What a help says of what is to be changed.
use Rattle.std.specs.Prelude.{ℕ, List, ◌++◌, Option, codes, decimal}
use Rattle.ariadne_parse.specs.declared.unit.Unit.{Unit}
use Rattle.ariadne_parse.specs.declared.unit.Unit.TheVariants.{Byte, Char, Display, Utf16}
use Rattle.ariadne_snippets.specs.declared.taken.Fix.{Fix}
use Rattle.ariadne_snippets.specs.declared.taken.FixKind.{FixKind}
use Rattle.ariadne_snippets.specs.declared.taken.FixKind.TheVariants.{Put, PutLine, Become, Remove}
use Rattle.ariadne_blocks.specs.Files.{File, column_in}

-- a text is to stand somewhere, or in a line of its own, or is to be a whole line; or something is to go
abbrev pub fix_text : FixKind → ℕ → ℕ → List ℕ → List ℕ
fix_text Put line column text =
    codes "put `" ++ text ++ codes "` at " ++ decimal line ++ codes ":" ++ decimal column
fix_text PutLine line column text =
    codes "put the line `" ++ text ++ codes "` in front of line " ++ decimal line
fix_text Become line column text = codes "make line " ++ decimal line ++ codes " `" ++ text ++ codes "`"
fix_text Remove line column text =
    codes "remove what stands at " ++ decimal line ++ codes ":" ++ decimal column

abbrev pub fix_words : Fix → ℕ → List ℕ
fix_words fix column = fix_text fix.kind fix.at.line column fix.text.now

-- what columns of changes count where those of a head count this
abbrev pub change_unit : Unit → Unit
change_unit Char = Char
change_unit Utf16 = Utf16
change_unit Byte = Byte
change_unit Display = Byte

-- at the column by what it counts
abbrev pub fix_help : Option File → Unit → Fix → List ℕ
fix_help file unit fix = fix_words fix (column_in file unit fix.at)
