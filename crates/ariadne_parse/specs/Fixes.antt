-- What a help says that changes a file: what is put in, and what stands there before.
use Rattle.std.specs.Prelude.{ℕ, ◌==◌, if◌then◌else◌, List, [], ◌∷◌, ◌++◌, length, map, codes, decimal}
use Rattle.std.specs.List.{concat}
use Rattle.std.specs.Prelude.{Option, Some, None, unwrap_or}
use Rattle.ariadne_parse.specs.Spans.{is_same_location}
use Rattle.ariadne_parse.specs.declared.diagnostic.Location.{Location}
use Rattle.ariadne_parse.specs.declared.fixes.Covered.{Covered}
use Rattle.ariadne_parse.specs.declared.fixes.Covered.TheVariants.{Unnamed, Text, UpTo}

-- what stands at a span before it is changed, with its text in place of what holds this
pub data Standing : Type 0 where
  unnamed : Standing
  worded : List ℕ → Standing
  up_to : Location → Standing

abbrev pub standing : Covered → Standing
standing Unnamed = unnamed
standing (Text text) = worded text.now
standing (UpTo end) = up_to end

-- a line and a column, which is the first where there is none
abbrev pub span_words : Location → List ℕ
span_words at = decimal at.line ++ codes ":" ++ decimal (unwrap_or at.column 1)

-- what stands at a span: by its text, or by where it ends, or by the span alone
abbrev pub there_words : Location → Standing → List ℕ
there_words at unnamed = codes "what stands at " ++ span_words at
there_words at (worded text) = codes "`" ++ text ++ codes "` at " ++ span_words at
there_words at (up_to end) = codes "what stands from " ++ span_words at ++ codes " to " ++ span_words end

-- a text is put in
abbrev pub fix_words : Location → List ℕ → List ℕ
fix_words at text = codes "put `" ++ text ++ codes "` at " ++ span_words at

-- it is put in place of what is named there
abbrev pub in_place_words : List ℕ → List ℕ → List ℕ
in_place_words text there = codes "put `" ++ text ++ codes "` in place of " ++ there

abbrev pub put_words : Location → Standing → List ℕ → List ℕ
put_words at unnamed text = fix_words at text
put_words at (worded old) text = in_place_words text (there_words at (worded old))
put_words at (up_to end) text = in_place_words text (there_words at (up_to end))

-- where the text is empty, what stands there is removed
abbrev pub change_words : Location → Standing → List ℕ → List ℕ
change_words at old text =
    if length text == 0 then codes "remove " ++ there_words at old else put_words at old text

-- a text is put in as a line
abbrev pub line_words : ℕ → List ℕ → List ℕ
line_words line text =
    codes "put the line `" ++ text ++ codes "` in front of line " ++ decimal line

-- in front of the first part of a help stands nothing. One that begins where the first does is of another
-- suggestion, and stands in a row of its own; others go on in their row
abbrev pub joint_words : Option Location → Location → List ℕ
joint_words None start = []
joint_words (Some first) start = if is_same_location first start then codes ",\nor " else codes ", "

-- a further change stands in a row of its own
abbrev pub further_words : List ℕ → List ℕ
further_words change = codes ",\n" ++ change

-- a help says why, and what is to be changed
abbrev pub reasoned_words : List ℕ → List ℕ → List (List ℕ) → List ℕ
reasoned_words why first others = why ++ codes ": " ++ first ++ concat (map further_words others)

-- changes of one reason are one help. Without a reason each is a help
abbrev pub as_one_help : List ℕ → List (List ℕ) → List (List ℕ)
as_one_help why [] = []
as_one_help why (first ∷ others) = reasoned_words why first others ∷ []

abbrev pub reasoned : List ℕ → List (List ℕ) → List (List ℕ)
reasoned why changes = if length why == 0 then changes else as_one_help why changes
