-- What a row shows of its line. Lines are lists of characters.
use Rattle.std.specs.Prelude.{ℕ, ◌+◌, ◌-◌, ◌%◌, ◌==◌, ◌&&◌, false, if◌then◌else◌, List, [], ◌∷◌, ◌++◌}
use Rattle.std.specs.Prelude.{map, replicate}
use Rattle.std.specs.Char.{is_whitespace}
use Rattle.ariadne_base.specs.Lines.{is_separator}
use Rattle.ariadne_picture.specs.Columns.{char_columns}
use Rattle.ariadne_safe.specs.Visible.{shown_code}
use Rattle.ariadne_safe.specs.declared.text.TextKind.TheVariants.{OneRow}
use Rattle.ariadne_edits.specs.declared.rows.Blanks.{Blanks}
use Rattle.ariadne_edits.specs.declared.rows.Blanks.TheVariants.{Plain, Marked}

-- the character that stands for one: a sign, where it is hidden
abbrev pub sign_of : ℕ → ℕ
sign_of c = shown_code OneRow c false

-- ---- a line whose white space is shown as blanks

-- how many blanks a tab is shown as that stands at a column
abbrev pub tab_blanks : ℕ → ℕ → ℕ
tab_blanks tab_width column = tab_width - column % tab_width

-- what is shown of a character that stands at a column: of what ends a line nothing, of a tab blanks
abbrev pub shown_at : ℕ → ℕ → ℕ → List ℕ
shown_at tab_width column c =
    if is_separator c then []
    else (if c == 9 then replicate (tab_blanks tab_width column) 32 else sign_of c ∷ [])

-- how many columns it takes
abbrev pub columns_at : ℕ → ℕ → ℕ → ℕ
columns_at tab_width column c =
    if is_separator c then 0
    else (if c == 9 then tab_blanks tab_width column else char_columns (sign_of c))

-- what is shown of a text that stands at a column
unfoldable pub spread : ℕ → ℕ → List ℕ → List ℕ
spread tab_width column [] = []
spread tab_width column (c ∷ t) =
    shown_at tab_width column c ++ spread tab_width (column + columns_at tab_width column c) t

-- ---- a line whose white space is shown by signs

-- a middle dot for a blank, an open box for other white space that has no sign
abbrev pub mark_of : ℕ → ℕ
mark_of c =
    if c == 32 then 0xB7 else (if is_whitespace c && (sign_of c == c) then 0x2423 else sign_of c)

-- ---- a line

abbrev pub body : ℕ → Blanks → List ℕ → List ℕ
body tab_width Plain line = spread tab_width 0 line
body tab_width Marked line = map mark_of line
