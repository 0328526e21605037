-- A call that suggests edits of a source: what is wrong with it, what it tells, and what it leaves.
use Rattle.std.specs.Prelude.{ℕ, ◌<◌, ◌≤◌, ◌≡◌, ◌+◌, ◌^◌, ⊤, not, nat_le, nat_lt, if◌then◌else◌, List, [], ◌∷◌, length, map}
use Rattle.std.specs.Prelude.{drop, take, Option, Some, None, option_map, string_bytes}
use Rattle.std.specs.Str.{is_utf8}
use Rattle.ariadne.specs.Listing.{listed_lines}
use Rattle.ariadne_edits.specs.Outcomes.{IsSuggestion, Refuses}
use Rattle.ariadne_edits.specs.declared.cut.View.{View}
use Rattle.ariadne_edits.specs.declared.edit.BadEdit.{BadEdit}
use Rattle.ariadne_edits.specs.declared.edit.BadEdit.TheVariants.{Reversed, Overlaps, PastSource}
use Rattle.ariadne_edits.specs.declared.edit.BadEdit.TheVariants.{CutsCharacter}
use Rattle.ariadne_edits.specs.declared.edit.Edit.{Edit}
use Rattle.ariadne_calls.specs.declared.given.GivenEdit.{GivenEdit}
use Rattle.ariadne_calls.specs.declared.given.GivenSuggestion.{GivenSuggestion}
use Rattle.ariadne_calls.specs.declared.suggestion.Misgiven.{Misgiven}
use Rattle.ariadne_calls.specs.declared.suggestion.Misgiven.TheVariants.{Flags, SourceText, SourceLines}
use Rattle.ariadne_calls.specs.declared.suggestion.Misgiven.TheVariants.{EditText, Edits}
use Rattle.ariadne_calls.specs.declared.suggestion.Suggested.{Suggested}
use Rattle.ariadne_calls.specs.declared.suggestion.Suggested.TheVariants.{Told, TooShort, Refused}
use Rattle.ariadne_calls.specs.declared.suggestion.Unsuggested.{Unsuggested}
use Rattle.ariadne_calls.specs.declared.suggestion.Unsuggested.TheVariants.{NoMemory, Faulty}
use Rattle.ariadne_calls.specs.RequestedReports.{columns_of_tab}
use Rattle.ariadne_calls.specs.Flag as flag
use Rattle.ariadne_calls.specs.CallSources.{listing_of}

-- ---- the edits

-- where an edit begins and ends, and what it puts there
abbrev pub asked_edit : GivenEdit → ℕ × ℕ × List ℕ
asked_edit e = (e.start, e.end, e.text.bytes.now)

abbrev pub made_edit : Edit → ℕ × ℕ × List ℕ
made_edit e = (e.span.start, e.span.end, string_bytes e.text)

-- edits are the given ones, in order
abbrev pub AreAsked : List GivenEdit → List Edit → Type 0
AreAsked given edits = map made_edit edits ≡ map asked_edit given

-- ---- what is wrong

-- the number of the first edit whose text is not UTF-8, where the first of all has number k
abbrev pub first_unread : ℕ → List GivenEdit → Option ℕ
first_unread k [] = None
first_unread k (e ∷ es) = if is_utf8 e.text.bytes.now then first_unread (k + 1) es else Some k

-- what is wrong with the fields and the texts: with the first of them with which something is
abbrev pub misgiven : GivenSuggestion → Option Misgiven
misgiven s =
    if nat_lt flag.all s.flags then Some Flags
    else (if not (is_utf8 s.source.text.bytes.now) then Some SourceText
    else (if nat_le (2 ^ 64) (s.source.line_offset + length (listed_lines (listing_of s.source)))
    then Some SourceLines
    else option_map EditText (first_unread 0 s.edits.now)))

-- a refusal to read the texts of edits is for want of memory, or for the first that is not UTF-8
abbrev pub IsUnread : List GivenEdit → Unsuggested → Type 0
IsUnread edits NoMemory = ⊤
IsUnread edits (Faulty fault) = option_map EditText (first_unread 0 edits) ≡ Some fault

-- how lines are shown
abbrev pub view_of : GivenSuggestion → View
view_of s =
    record { tab_width = columns_of_tab s.tab_width; width = s.width; char_set = flag.char_set_of s.flags }

module _ (s : GivenSuggestion) where
  -- the given edits can't be made, and this is why
  pub record AreRefused (bad : BadEdit) : Type 0 where
    pub edits : List Edit
    pub asked : AreAsked s.edits.now edits
    pub refused : Refuses (flag.index_type_of s.flags) s.source.text.bytes.now edits bad

  -- this is wrong. What is wrong with fields and texts counts before what is wrong with the edits
  abbrev pub IsWrong : Misgiven → Type 0
  IsWrong Flags = misgiven s ≡ Some Flags
  IsWrong SourceText = misgiven s ≡ Some SourceText
  IsWrong SourceLines = misgiven s ≡ Some SourceLines
  IsWrong (EditText k) = misgiven s ≡ Some (EditText k)
  IsWrong (Edits bad) = (misgiven s ≡ None) × AreRefused bad

  -- a refusal is for want of memory, which may come at any time, or for this
  abbrev pub IsRefusal : Unsuggested → Type 0
  IsRefusal NoMemory = ⊤
  IsRefusal (Faulty fault) = IsWrong fault

  -- ---- what is told

  -- these bytes are the text of a help that shows the given edits
  pub record IsTold (bytes : List ℕ) : Type 0 where
    pub edits : List Edit
    pub asked : AreAsked s.edits.now edits
    pub shown : IsSuggestion (flag.index_type_of s.flags) (view_of s) s.source.line_offset
        s.source.text.bytes.now edits bytes

  -- they stand in front in the buffer, and what was behind them stays
  pub record Holds (old new : List ℕ) (len : ℕ) : Type 0 where
    pub told : IsTold (take len new)
    pub fits : len ≤ length new
    pub rest : drop len new ≡ drop len old

  -- they are too long, and this is their length
  pub record IsTooLong (old : List ℕ) (len : ℕ) : Type 0 where
    pub bytes : List ℕ
    pub told : IsTold bytes
    pub length_is : len ≡ length bytes
    pub too_long : length old < len

  -- what the buffer holds, by the ending
  abbrev pub Gives : List ℕ → List ℕ → Suggested → Type 0
  Gives old new (Told len) = (misgiven s ≡ None) × Holds old new len
  Gives old new (TooShort len) = (misgiven s ≡ None) × (new ≡ old) × IsTooLong old len
  Gives old new (Refused refusal) = (new ≡ old) × IsRefusal refusal

-- ---- by numbers, as C sees it

-- the number of what is wrong
abbrev pub edit_number : BadEdit → ℕ
edit_number (Reversed k) = 21
edit_number (Overlaps k) = 22
edit_number (PastSource k) = 23
edit_number (CutsCharacter k) = 24

abbrev pub number_of : Misgiven → ℕ
number_of Flags = 7
number_of SourceText = 18
number_of SourceLines = 19
number_of (EditText k) = 20
number_of (Edits bad) = edit_number bad

-- the number of the edit that is at fault
abbrev pub edit_place : BadEdit → ℕ
edit_place (Reversed k) = k
edit_place (Overlaps k) = k
edit_place (PastSource k) = k
edit_place (CutsCharacter k) = k

abbrev pub place_of : Misgiven → ℕ
place_of Flags = 0
place_of SourceText = 0
place_of SourceLines = 0
place_of (EditText k) = k
place_of (Edits bad) = edit_place bad

-- the status that tells an ending
abbrev pub status_of : Suggested → ℕ
status_of (Told len) = 0
status_of (TooShort len) = 2
status_of (Refused NoMemory) = 3
status_of (Refused (Faulty fault)) = number_of fault

-- the bytes of the text, where there is one
abbrev pub len_of : Suggested → ℕ
len_of (Told len) = len
len_of (TooShort len) = len
len_of (Refused refusal) = 0

-- the number of the edit that is at fault
abbrev pub count_of : Suggested → ℕ
count_of (Told len) = 0
count_of (TooShort len) = 0
count_of (Refused NoMemory) = 0
count_of (Refused (Faulty fault)) = place_of fault

module _ (s : GivenSuggestion) where
  -- what is wrong has this number, and this number tells with which edit
  pub record IsWrongBy (place number : ℕ) : Type 0 where
    pub fault : Misgiven
    pub wrong : IsWrong s fault
    pub number_is : number ≡ number_of fault
    pub place_is : place ≡ place_of fault

  -- what a call leaves
  pub record GivesNumber (old new : List ℕ) (len count result : ℕ) : Type 0 where
    -- 0: the text is there
    pub told : result ≡ 0 → Holds s old new len
    -- 2: it takes more room
    pub too_short : result ≡ 2 → IsTooLong s old len
    -- a text is made only where nothing is wrong with the fields and the texts
    pub sound : result ≤ 2 → misgiven s ≡ None
    -- 4 and more: this is wrong. (3 is want of memory, which may come at any time)
    pub faulty : 4 ≤ result → IsWrongBy count result
    -- 2 and more: the buffer is as it was
    pub unchanged : 2 ≤ result → new ≡ old
    -- 3 and more: no text has a length, and without a fault nothing has a number
    pub no_len : 3 ≤ result → len ≡ 0
    pub no_count : result ≤ 3 → count ≡ 0
    -- 1 is none of them
    pub not_left_out : (result ≡ 1) → ⊥
    pub in_range : result ≤ 24
