-- People's own table of matchers, and what is asked of the program behind the matchers.
use Rattle.std.specs.Prelude.{ℕ, ◌≡◌, ◌⊎◌, ◌&&◌, Bool, true, false, if◌then◌else◌, List, [], ◌++◌, is_some}
use Rattle.ariadne_parse.specs.declared.telling.Format.{Format}
use Rattle.ariadne_parse.specs.declared.telling.Format.TheVariants as format
use Rattle.ariadne_show.specs.declared.options.Options.{Options}
use Rattle.ariadne_matchers.specs.declared.entry.Word.{Word}
use Rattle.ariadne_matchers.specs.declared.table.Table.{Table}
use Rattle.ariadne_matcher_tables.specs.Editors.{IsEditorTable}
use Rattle.ariadne_matcher_tables.specs.MatcherTables.{IsTableOf}

-- ---- the table

-- a table is that of a text in TOML, or of problem matchers in JSON
abbrev pub IsTableIn : List ℕ → Table → Type 0
IsTableIn text table =
    IsTableOf text table ⊎ (IsEditorTable text table.entries.items × (table.words.items ≡ []))

-- words stand behind those of a table, whose entries stay
pub record HasWordsBehind (table : Table) (whole : Table) : Type 0 where
  pub words : List Word
  pub words_are : whole.words.items ≡ table.words.items ++ words
  pub entries_are : whole.entries.items ≡ table.entries.items

-- the table has nothing where no file is named; else it is that of a text, with words behind its own
abbrev pub IsOwnTable : Bool → Table → Type 0
IsOwnTable false table = (table.entries.items ≡ []) × (table.words.items ≡ [])
IsOwnTable true table = (text : List ℕ) × (own : Table) × IsTableIn text own × HasWordsBehind own table

-- ---- the options

-- matchers read lines where no form is named
abbrev pub is_any : Format → Bool
is_any format.Auto = true
is_any other = false

-- behind matchers that read a tool's lines only reports are read
abbrev pub options_behind : Options → Options
options_behind options =
    if is_some options.tool && is_any options.reading.format
    then record options { reading = record options.reading { format = format.Report } } else options
