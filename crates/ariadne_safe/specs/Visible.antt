-- Texts as they can be shown: each character of the tests below, which a terminal obeys or shows
-- nothing of, stands as one that can be seen. Characters stay one for one, and so do offsets that
-- count them. What lays a text out may stay: the tabs of a source and the ends of its lines, and
-- the line feeds of a help or note.
use Rattle.std.specs.Prelude.{ℕ, ◌+◌, Bool, false, not, ◌&&◌, ◌||◌, ◌==◌, nat_le, nat_lt, List, []}
use Rattle.std.specs.Prelude.{◌∷◌, if◌then◌else◌, chars, encode_utf8_all}
use Rattle.std.specs.List.{list_all}
use Rattle.std.specs.Char.{is_whitespace}
use Rattle.std.specs.Str.{is_utf8}
use Rattle.ariadne_base.specs.Lines.{begins_with_line_feed}
use Rattle.ariadne_safe.specs.declared.text.TextKind.{TextKind}
use Rattle.ariadne_safe.specs.declared.text.TextKind.TheVariants.{OneRow, Aside, Lines}
use Rattle.ariadne_safe.specs.declared.text.TextKind.TheVariants.{CompilerLines}

-- ---- what is hidden

-- c is from low to high
abbrev pub is_between : ℕ → ℕ → ℕ → Bool
is_between low high c = nat_le low c && nat_le c high

-- the controls of ASCII, DEL, and those of the second page
abbrev pub is_control : ℕ → Bool
is_control c = nat_lt c 32 || is_between 0x7F 0x9F c

-- what turns the direction of a text: marks, embeddings, overrides and isolates
abbrev pub is_direction_mark : ℕ → Bool
is_direction_mark c =
    (c == 0x61C) || is_between 0x200E 0x200F c || is_between 0x202A 0x202E c
    || is_between 0x2066 0x2069 c

-- what joins or parts without being seen: the soft hyphen, the grapheme joiner, joiners and spaces
-- of no width, separators of lines and paragraphs, invisible operators, and the marks of Mongolian
-- letters
abbrev pub is_joiner : ℕ → Bool
is_joiner c =
    (c == 0xAD) || (c == 0x34F) || is_between 0x180B 0x180F c || is_between 0x200B 0x200D c
    || is_between 0x2028 0x2029 c || is_between 0x2060 0x2065 c

-- letters and signs that are blank: the fillers of Hangul and Khitan, two vowels of Khmer, Braille
-- without dots, and the notehead that is null
abbrev pub is_blank_letter : ℕ → Bool
is_blank_letter c =
    is_between 0x115F 0x1160 c || is_between 0x17B4 0x17B5 c || (c == 0x2800) || (c == 0x3164)
    || (c == 0xFFA0) || (c == 0x16FE4) || (c == 0x1D159)

-- deprecated format characters, the selectors of variants but those of text and emoji, the byte
-- order mark, the marks of annotations, and the plane of tags and selectors
abbrev pub is_tag : ℕ → Bool
is_tag c =
    is_between 0x206A 0x206F c || is_between 0xFE00 0xFE0D c || (c == 0xFEFF)
    || is_between 0xFFF0 0xFFFB c || is_between 0xE0000 0xE0FFF c

-- what lays out hieroglyphs, shorthand and music
abbrev pub is_notation_control : ℕ → Bool
is_notation_control c =
    is_between 0x13430 0x1345F c || is_between 0x1BCA0 0x1BCA3 c || is_between 0x1D173 0x1D17A c

-- any of these: what a terminal obeys that reads UTF-8, and characters that it shows nothing of
unfoldable pub is_hidden : ℕ → Bool
is_hidden c =
    is_control c || is_direction_mark c || is_joiner c || is_blank_letter c || is_tag c
    || is_notation_control c

-- ---- what is shown of it

-- the symbol of a hidden character, where it has one; else the replacement character
abbrev pub symbol_of : ℕ → ℕ
symbol_of c =
    if nat_lt c 32 then 0x2400 + c
    else (if c == 0x7F then 0x2421 else (if c == 0x85 then 0x2424 else 0xFFFD))

-- the hidden characters that stay in a text of this kind: a help or a note is cut at its line
-- feeds, and a source row shows white space as blanks. Where compilers count the lines of a source,
-- its tabs stay, its line feeds, and carriage returns in front of them
abbrev pub stays : TextKind → ℕ → Bool → Bool
stays OneRow c before_line_feed = false
stays Aside c before_line_feed = c == 10
stays Lines c before_line_feed = is_whitespace c
stays CompilerLines c before_line_feed = (c == 9) || (c == 10) || ((c == 13) && before_line_feed)

-- a character that is shown as it is, wherever it stands in a text of this kind
abbrev pub stays_anywhere : TextKind → ℕ → Bool
stays_anywhere kind c = not (is_hidden c) || stays kind c false

-- the character that stands for c
abbrev pub shown_code : TextKind → ℕ → Bool → ℕ
shown_code kind c before_line_feed =
    if not (is_hidden c) || stays kind c before_line_feed then c else symbol_of c

-- the characters that stand for those of a text
unfoldable pub visible_text : TextKind → List ℕ → List ℕ
visible_text kind [] = []
visible_text kind (c ∷ t) =
    shown_code kind c (begins_with_line_feed t) ∷ visible_text kind t

-- the same of texts that are given by their bytes
abbrev pub visible_bytes : TextKind → List ℕ → List ℕ
visible_bytes kind bytes = encode_utf8_all (visible_text kind (chars bytes))

-- ---- texts that can be shown

-- what a row shows as no character of its own: the line feeds of a help or a note, and the white
-- space of a source
abbrev pub is_layout : TextKind → ℕ → Bool
is_layout OneRow c = false
is_layout Aside c = c == 10
is_layout Lines c = is_whitespace c
is_layout CompilerLines c = is_whitespace c

-- a character of a text of this kind may be shown
abbrev pub is_seen_in : TextKind → ℕ → Bool
is_seen_in kind c = not (is_hidden c) || is_layout kind c

-- bytes are a text of this kind that hides nothing
abbrev pub is_shown : TextKind → List ℕ → Bool
is_shown kind bytes = is_utf8 bytes && list_all (is_seen_in kind) (chars bytes)
