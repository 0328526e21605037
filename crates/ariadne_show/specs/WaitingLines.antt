-- Lines that may stand in front of a diagnostic, and wait for it: those that tell one of its spans, those
-- that tell all of it but its span, and those that say what the tool was in. A message of several rows has its
-- further ones below its head, as far to the right as it begins there; they wait with the head.
use Rattle.std.specs.Prelude.{ℕ, ◌≡◌, ◌-◌, ◌==◌, nat_le, Bool, true, false, ◌&&◌, if◌then◌else◌}
use Rattle.std.specs.Prelude.{List, [], ◌∷◌, ◌++◌, drop, length, map, slice_get}
use Rattle.std.specs.Prelude.{Option, Some, None, option_and_then, option_map, string_bytes, Vec}
use Rattle.std.specs.List.{flat_map, prefix_len}
use Rattle.std.specs.Option.{option_map_or}
use Rattle.std.specs.declared.alloc.Global.{Global}
use Rattle.ariadne_blocks.specs.declared.message.MessageLine.{MessageLine}
use Rattle.ariadne_parse.specs.Arrows.{bare_head_in}
use Rattle.ariadne_parse.specs.ArrowsParsed.{Bare, bare_of, IsOfBareHead}
use Rattle.ariadne_parse.specs.Fronts.{Front, front_in, is_scope_line}
use Rattle.ariadne_parse.specs.FrontsParsed.{span_of_front}
use Rattle.ariadne_parse.specs.Spans.{seen}
use Rattle.ariadne_parse.specs.declared.diagnostic.Span.{Span}
use Rattle.ariadne_show.specs.declared.front.Role.{Role}
use Rattle.ariadne_show.specs.declared.front.Role.TheVariants as role
use Rattle.ariadne_show.specs.declared.front.WaitingHead.{WaitingHead}
use Rattle.ariadne_show.specs.declared.front.WaitingLine.{WaitingLine}

-- ---- bytes

-- those of lines, each with what ends it
abbrev pub bytes_in : List (Vec ℕ Global) → List (List ℕ)
bytes_in lines = map (λ line. line.items) lines

-- those of a line that waits, and of the rows that go on with its message: each passes as a line
abbrev pub lines_of : WaitingLine → List (List ℕ)
lines_of waiting = bytes_in waiting.lines.items

-- those of all lines that wait
abbrev pub passing_of : List WaitingLine → List (List ℕ)
passing_of lines = flat_map lines_of lines

-- and of lines that turned out to be none of a message
abbrev pub bytes_of : List MessageLine → List (List ℕ)
bytes_of lines = map (λ line. line.bytes.items) lines

-- ---- what they are

-- a line that waits is the head of a diagnostic
abbrev pub is_head_role : Role → Bool
is_head_role (role.Span span) = false
is_head_role (role.Head head) = true
is_head_role role.Scope = false

abbrev pub is_head : WaitingLine → Bool
is_head waiting = is_head_role waiting.role

-- the last of them is
abbrev pub ends_in_head : List WaitingLine → Bool
ends_in_head lines = option_map_or is_head (slice_get lines (length lines - 1)) false

-- a text may stand in front of a diagnostic: as a span, as its head, or as what the tool was in, where
-- something is waited for
pub data IsRoleOf (is_waited_for : Bool) (text : List ℕ) : Option Role → Type 0 where
  tells_span : (front : Front) (span : Span) → front_in text ≡ Some front
      → seen span ≡ span_of_front front → IsRoleOf is_waited_for text (Some (role.Span span))
  is_bare_head : (bare : Bare) (head : WaitingHead) → front_in text ≡ None
      → option_map bare_of (bare_head_in text) ≡ Some bare → IsOfBareHead bare head.parsed
      → head.margin ≡ length text - length bare.message
      → IsRoleOf is_waited_for text (Some (role.Head head))
  tells_scope : front_in text ≡ None → bare_head_in text ≡ None
      → (is_waited_for && is_scope_line text) ≡ true → IsRoleOf is_waited_for text (Some role.Scope)
  has_no_role : front_in text ≡ None → bare_head_in text ≡ None
      → (is_waited_for && is_scope_line text) ≡ false → IsRoleOf is_waited_for text None

-- ---- further rows of a message

-- what a text says behind so many blanks, if it begins with so many
abbrev pub behind_blanks : ℕ → List ℕ → Option (List ℕ)
behind_blanks margin text =
    if nat_le margin (prefix_len (λ c. c == 32) text) then Some (drop margin text) else None

-- the row that a text adds to the message of a head that waits
abbrev pub row_of_role : Role → List ℕ → Option (List ℕ)
row_of_role (role.Span span) text = None
row_of_role (role.Head head) text = behind_blanks head.margin text
row_of_role role.Scope text = None

-- and to that of the last of lines that wait
abbrev pub added_row : List WaitingLine → List ℕ → Option (List ℕ)
added_row front text =
    option_and_then (λ waiting. row_of_role waiting.role text) (slice_get front (length front - 1))

-- a head has a row more, behind a line feed: it waits with the line that has it
pub record HasRow (line row : List ℕ) (before after : WaitingLine) : Type 0 where
  pub shorter : WaitingHead
  pub longer : WaitingHead
  pub was : before.role ≡ role.Head shorter
  pub is : after.role ≡ role.Head longer
  pub message : string_bytes longer.parsed.message ≡ string_bytes shorter.parsed.message ++ 10 ∷ row
  pub others : longer ≡ record shorter { parsed = record shorter.parsed { message = longer.parsed.message } }
  pub lines : lines_of after ≡ lines_of before ++ line ∷ []
