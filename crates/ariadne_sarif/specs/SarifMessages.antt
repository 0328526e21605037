-- What messages of SARIF say: a text of their own, or of the rule that they are of. In the text of a message with arguments
-- a placeholder `{N}` stands for the argument with this number, from 0, and `{{` and `}}` stand for one brace. Characters
-- stand as their numbers: 123 is `{` and 125 `}`.
use Rattle.std.specs.Prelude.{ℕ, zero, suc, nat_lt, Bool, true, false, if◌then◌else◌, List, [], ◌++◌, codes, length}
use Rattle.std.specs.Prelude.{Option, Some, None, option_and_then, option_map, unwrap_or}
use Rattle.std.specs.Option.{option_or}
use Rattle.serde_json.specs.Data.{Data}
use Rattle.serde_json.specs.Find.{as_str, at, get}
use Rattle.ariadne_parse.specs.Members.{has_none, items_in, list_at, text_at, words_at}
use Rattle.ariadne_parse.specs.TextPieces.{behind_text, split_once, whole_number}
use Rattle.ariadne_sarif.specs.DocumentParts.{text_within}

-- ---- texts

-- its text, or as Markdown, or that of the rule which it names
abbrev pub own_text : Data → Option (List ℕ)
own_text d = option_or (text_at (codes "text") d) (text_at (codes "markdown") d)

abbrev pub rule_text_by : Option Data → List ℕ → Option (List ℕ)
rule_text_by rule id =
    option_and_then (text_within id (codes "text")) (option_and_then (get (codes "messageStrings")) rule)

abbrev pub rule_text : Option Data → Data → Option (List ℕ)
rule_text rule d = option_and_then (rule_text_by rule) (text_at (codes "id") d)

abbrev pub message_text : Option Data → Data → List ℕ
message_text rule d = unwrap_or (option_or (own_text d) (rule_text rule d)) []

-- ---- placeholders

-- an argument of a message, by its number
abbrev pub argument_at : Data → ℕ → Option (List ℕ)
argument_at d n = option_and_then as_str (option_and_then (at n) (get (codes "arguments") d))

-- what a placeholder stands for, of which the part in front of its closing brace and the part behind it are known; and
-- what stands behind it
abbrev pub argument_by : Data → List ℕ × List ℕ → Option (List ℕ × List ℕ)
argument_by d parts =
    option_map (λ said. (said, parts.1)) (option_and_then (argument_at d) (whole_number parts.0))

-- the same of the text behind its opening brace
abbrev pub argument_in : Data → List ℕ → Option (List ℕ × List ℕ)
argument_in d text = option_and_then (argument_by d) (split_once 125 text)

-- what a brace stands for by the text behind it, and what is left of that: two of one stand for it, and so does one that
-- stands for nothing else
abbrev pub closing : List ℕ → List ℕ × List ℕ
closing text = (codes "}", unwrap_or (behind_text (codes "}") text) text)

abbrev pub doubled : List ℕ → Option (List ℕ × List ℕ)
doubled text = option_map (λ rest. (codes "{", rest)) (behind_text (codes "{") text)

abbrev pub opening : Data → List ℕ → List ℕ × List ℕ
opening d text = unwrap_or (option_or (doubled text) (argument_in d text)) (codes "{", text)

abbrev pub braced : Data → Bool → List ℕ → List ℕ × List ℕ
braced d true text = closing text
braced d false text = opening d text

-- a text at the first of its braces: whether it is a closing one, what stands in front of it, and what behind it
abbrev pub first_of : Option (List ℕ × List ℕ) → Option (List ℕ × List ℕ) → Option (Bool × List ℕ × List ℕ)
first_of None None = None
first_of (Some opens) None = Some (false, opens.0, opens.1)
first_of None (Some closes) = Some (true, closes.0, closes.1)
first_of (Some opens) (Some closes) =
    if nat_lt (length closes.0) (length opens.0) then Some (true, closes.0, closes.1)
    else Some (false, opens.0, opens.1)

abbrev pub at_brace : List ℕ → Option (Bool × List ℕ × List ℕ)
at_brace text = first_of (split_once 123 text) (split_once 125 text)

-- the text up to a brace, what that stands for, and what more stands behind it
abbrev pub filled_on : (List ℕ → List ℕ) → Data → List ℕ → Option (Bool × List ℕ × List ℕ) → List ℕ
filled_on more d text None = text
filled_on more d text (Some cut) = cut.1 ++ (braced d cut.0 cut.2).0 ++ more (braced d cut.0 cut.2).1

-- a text of a message in which so many braces are looked at
unfoldable pub filled_by : ℕ → Data → List ℕ → List ℕ
filled_by zero d text = text
filled_by (suc n) d text = filled_on (filled_by n d) d text (at_brace text)

-- all of them
abbrev pub filled : Data → List ℕ → List ℕ
filled d text = filled_by (length text) d text

-- ---- messages

-- what one with this text says; one without arguments has no placeholders
abbrev pub said : Data → List ℕ → List ℕ
said d text = if has_none (items_in (list_at (codes "arguments") d)) then text else filled d text

-- what a message in a member says, which is of no rule; nothing where there is none
abbrev pub said_of : Data → List ℕ
said_of d = said d (words_at (codes "text") d)

abbrev pub message_in : List ℕ → Data → List ℕ
message_in name d = unwrap_or (option_map said_of (get name d)) []
