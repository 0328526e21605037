-- The flags of a report, a bit each, and what they ask for. `tools/settings` writes this file.
use Rattle.std.specs.Prelude.{ℕ, ◌/◌, ◌%◌, ◌==◌, Bool, not, if◌then◌else◌}
use Rattle.ariadne.specs.CharSet.{CharSet}
use Rattle.ariadne.specs.CharSet.TheVariants.{Unicode, Ascii}
use Rattle.ariadne.specs.IndexType.{IndexType}
use Rattle.ariadne.specs.IndexType.TheVariants.{Char, Byte}
use Rattle.ariadne.specs.Report.{ConfigFields, default_config}

-- no colours
abbrev pub plain : ℕ
plain = 1

-- strokes of ASCII
abbrev pub ascii : ℕ
ascii = 2

-- no rows between
abbrev pub compact : ℕ
compact = 4

-- offsets count bytes, not characters
abbrev pub byte_offsets : ℕ
byte_offsets = 8

-- no underlines
abbrev pub no_underlines : ℕ
no_underlines = 16

-- no multiline arrows
abbrev pub no_multiline_arrows : ℕ
no_multiline_arrows = 32

-- a crossing where strokes cross, and no gap
abbrev pub no_cross_gap : ℕ
no_cross_gap = 64

-- texts are drawn as they are, with the escapes that they hold
abbrev pub raw : ℕ
raw = 128

-- underlines also where no label of a line has a message
abbrev pub lone_underlines : ℕ
lone_underlines = 256

-- all of these
abbrev pub all : ℕ
all = 511

-- a bit of the flags is set
abbrev pub has : ℕ → ℕ → Bool
has flags bit = (flags / bit) % 2 == 1

-- the `char_set` that flags ask for
abbrev pub char_set_of : ℕ → CharSet
char_set_of flags = if has flags ascii then Ascii else Unicode

-- the `index_type` that flags ask for
abbrev pub index_type_of : ℕ → IndexType
index_type_of flags = if has flags byte_offsets then Byte else Char

-- the default configuration, but for what flags ask for
abbrev pub config_of : ℕ → ConfigFields
config_of flags = record default_config {
  color = not (has flags plain);
  char_set = char_set_of flags;
  compact = has flags compact;
  index_type = index_type_of flags;
  underlines = not (has flags no_underlines);
  multiline_arrows = not (has flags no_multiline_arrows);
  cross_gap = not (has flags no_cross_gap);
  lone_underlines = has flags lone_underlines;
}
