-- Which brackets of a text of JSON open lists and objects, and which close them: those that stand in no text in
-- quotes. Bytes stand as their numbers: 34 is a quote, 91 `[`, 92 a backslash, 93 `]`, 123 `{` and 125 `}`.
use Rattle.std.specs.Prelude.{ℕ, ◌+◌, ◌==◌, nat_lt, Bool, true, false, not, ◌&&◌, ◌||◌, if◌then◌else◌}
use Rattle.std.specs.Prelude.{List, [], ◌∷◌, count_by}
use Rattle.std.specs.Char.{is_ascii_digit}
use Rattle.std.specs.List.{list_all}
use Rattle.ariadne_json.specs.Mended.{closes, opens}
use Rattle.ariadne_documents.specs.declared.scan.Within.{Within}
use Rattle.ariadne_documents.specs.declared.scan.Within.TheVariants.{Nothing, Text, Escape}
use Rattle.ariadne_documents.specs.declared.scan.Scan.{Scan}

-- ---- texts in quotes

-- within what the next byte stands, behind a byte: a quote begins a text, and ends it where no backslash stands in
-- front of it
abbrev pub within_behind : Within → ℕ → Within
within_behind Nothing b = if b == 34 then Text else Nothing
within_behind Text b = if b == 34 then Nothing else (if b == 92 then Escape else Text)
within_behind Escape b = Text

-- and behind several
abbrev pub within_all : Within → List ℕ → Within
within_all at [] = at
within_all at (b ∷ t) = within_all (within_behind at b) t

-- a byte stands in no text, and is no quote
abbrev pub is_outside : Within → ℕ → Bool
is_outside Nothing b = not (b == 34)
is_outside Text b = false
is_outside Escape b = false

-- the bytes that do
abbrev pub outside : Within → List ℕ → List ℕ
outside at [] = []
outside at (b ∷ t) =
    if is_outside at b then b ∷ outside (within_behind at b) t else outside (within_behind at b) t

-- ---- brackets

-- how many lists and objects a text opens, and how many it closes
abbrev pub opened : List ℕ → ℕ
opened t = count_by opens (outside Nothing t)

abbrev pub closed : List ℕ → ℕ
closed t = count_by closes (outside Nothing t)

-- a text opens more than it closes
abbrev pub is_open : List ℕ → Bool
is_open t = nat_lt (closed t) (opened t)

-- ---- what no JSON has

-- blanks, and what ends lines
abbrev pub is_blank : ℕ → Bool
is_blank b = b == 32 || b == 9 || b == 10 || b == 13

-- the letters of `true`, `false` and `null`, and those of exponents
abbrev pub is_letter : ℕ → Bool
is_letter b =
    b == 97 || b == 101 || b == 102 || b == 108 || b == 110 || b == 114 || b == 115 || b == 116 || b == 117 || b == 69

-- what stands between values, and in numbers: `,`, `:`, `+`, `-` and `.`
abbrev pub is_mark : ℕ → Bool
is_mark b = b == 44 || b == 58 || b == 43 || b == 45 || b == 46

-- a byte may stand in JSON outside of texts
abbrev pub may_stand : ℕ → Bool
may_stand b = is_blank b || opens b || closes b || is_mark b || is_ascii_digit b || is_letter b

-- where a text is read to
abbrev pub is_in_nothing : Within → Bool
is_in_nothing Nothing = true
is_in_nothing Text = false
is_in_nothing Escape = false

-- a line may be one of JSON: each of its texts ends in it, and only such bytes stand outside of them
abbrev pub is_line : List ℕ → Bool
is_line t = is_in_nothing (within_all Nothing t) && list_all may_stand (outside Nothing t)

-- ---- the state behind a text, of what stood before it

abbrev pub scanned : Scan → List ℕ → Scan
scanned scan t = record {
  within = within_all scan.within t;
  opened = scan.opened + count_by opens (outside scan.within t);
  closed = scan.closed + count_by closes (outside scan.within t);
  is_json = scan.is_json && list_all may_stand (outside scan.within t);
}

-- in front of all
abbrev pub unscanned : Scan
unscanned = record { within = Nothing; opened = 0; closed = 0; is_json = true }
