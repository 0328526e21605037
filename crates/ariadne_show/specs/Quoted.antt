-- A file that is gone, as a diagnostic quotes lines of it: lines that stand one behind the other, from the
-- first to the last that are quoted near the one that is quoted first. Those that are not quoted are empty.
use Rattle.std.specs.Prelude.{ℕ, ◌≡◌, ◌+◌, ◌-◌, ◌==◌, max, min, nat_le, Bool, true, false, ◌&&◌}
use Rattle.std.specs.Prelude.{List, [], ◌∷◌, ◌++◌, filter, fold, map, Option, Some, option_map, unwrap_or}
use Rattle.std.specs.Prelude.{chars, string_bytes}
use Rattle.std.specs.Int.{abs_diff}
use Rattle.std.specs.List.{find, flat_map, range_with_len}
use Rattle.std.specs.Str.{bytes_eq}
use Rattle.ariadne_parse.specs.declared.diagnostic.QuotedLine.{QuotedLine}
use Rattle.ariadne_show.specs.declared.held.HeldFile.{HeldFile}

-- ---- which lines are held

-- a quoted line is one of the file at a path
abbrev pub is_of : List ℕ → QuotedLine → Bool
is_of path it = bytes_eq (string_bytes it.file) path

-- and it stands near a line: 100 lines from it at most
abbrev pub is_near : List ℕ → ℕ → QuotedLine → Bool
is_near path near it = is_of path it && nat_le (abs_diff it.line near) 100

-- the numbers of those
abbrev pub lines_near : List ℕ → ℕ → List QuotedLine → List ℕ
lines_near path near quoted = map (λ it. it.line) (filter (is_near path near) quoted)

-- how many lines stand above the first of them, and the last
abbrev pub lines_about : List ℕ → List QuotedLine → ℕ → ℕ × ℕ
lines_about path quoted near = (
  fold (λ first line. min first line) near (lines_near path near quoted) - 1,
  fold (λ last line. max last line) near (lines_near path near quoted),
)

-- the lines that are held, if any is quoted
abbrev pub lines_held : List ℕ → List QuotedLine → Option (ℕ × ℕ)
lines_held path quoted =
    option_map (λ it. lines_about path quoted it.line) (find (is_of path) quoted)

-- ---- their text

-- a quoted line is this one of the file
abbrev pub is_line_of : List ℕ → ℕ → QuotedLine → Bool
is_line_of path line it = it.line == line && is_of path it

-- the text of a line, as it is quoted first; empty where it is not
abbrev pub quoted_line : List ℕ → List QuotedLine → ℕ → List ℕ
quoted_line path quoted line =
    unwrap_or (option_map (λ it. string_bytes it.text) (find (is_line_of path line) quoted)) []

-- the texts of so many lines below others, with a line feed behind each
abbrev pub quoted_lines : List ℕ → List QuotedLine → ℕ → ℕ → List ℕ
quoted_lines path quoted above count =
    flat_map (λ line. quoted_line path quoted (line + 1) ++ 10 ∷ []) (range_with_len above count)

-- those that stand behind some, up to the last
abbrev pub text_held : List ℕ → List QuotedLine → ℕ × ℕ → List ℕ
text_held path quoted lines = quoted_lines path quoted lines.0 (lines.1 - lines.0)

-- what is held of the file at a path is quoted
pub record IsQuotedFile (path : List ℕ) (quoted : List QuotedLine) (held : HeldFile) : Type 0 where
  pub utf8 : held.is_utf8 ≡ true
  pub mark : held.has_mark ≡ false
  pub last : ℕ
  pub lines : lines_held path quoted ≡ Some (held.above, last)
  pub columns : held.columns ≡ chars (text_held path quoted (held.above, last))
  pub unread : held.is_read ≡ false
