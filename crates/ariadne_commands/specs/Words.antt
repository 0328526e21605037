-- What the words of the command line ask for. Words are their bytes.
--
--   [--ascii] [--plain] [--compact] [--bytes] [--file PATH] MESSAGE [START END TEXT]...
--
-- The options are read one after another, and what they ask for so far is handed on.
use Rattle.std.specs.Prelude.{ℕ, ◌^◌, Bool, true, false, ◌&&◌, nat_le, nat_lt, if◌then◌else◌}
use Rattle.std.specs.Prelude.{List, [], ◌∷◌, length, take, codes, Option, Some, None, option_map}
use Rattle.std.specs.Str.{all_ascii_digits, bytes_eq}
use Rattle.std.specs.Str.Parse.{digits_value}
use Rattle.ariadne_commands.specs.declared.words.Front.{Front}
use Rattle.ariadne_commands.specs.declared.words.Front.TheVariants.{Ascii, Plain, Compact, Bytes, File}
use Rattle.ariadne_commands.specs.declared.words.Front.TheVariants.{Dashes, Unknown, Message}

-- what options ask for: a switch each, and the path behind the last `--file`
pub record AskingOptions : Type 0 where
  pub ascii : Bool
  pub plain : Bool
  pub compact : Bool
  pub bytes : Bool
  pub path : Option (List ℕ)

-- a label: from where, to where, and what it says
pub record AskingLabel : Type 0 where
  pub start : ℕ
  pub end : ℕ
  pub text : List ℕ

-- a report
pub record Asking : Type 0 where
  pub options : AskingOptions
  pub message : List ℕ
  pub labels : List AskingLabel

-- ---- labels

-- a number is one decimal digit or more, and below 2 ^ 64, so that it can be an offset
abbrev pub is_number : List ℕ → Bool
is_number word =
    nat_lt 0 (length word) && all_ascii_digits word && nat_lt (digits_value 10 word) (2 ^ 64)

-- the number that a word writes
unfoldable pub number_of : List ℕ → Option ℕ
number_of word = if is_number word then Some (digits_value 10 word) else None

-- a label starts at most at its end
abbrev pub label_from : Option ℕ → Option ℕ → List ℕ → Option AskingLabel
label_from (Some start) (Some end) text =
    if nat_le start end then Some (record { start = start; end = end; text = text }) else None
label_from (Some start) None text = None
label_from None end text = None

-- three words ask for a label
abbrev pub label_of : List ℕ → List ℕ → List ℕ → Option AskingLabel
label_of start end text = label_from (number_of start) (number_of end) text

-- a label, and others behind it
abbrev pub label_and : Option AskingLabel → Option (List AskingLabel) → Option (List AskingLabel)
label_and (Some label) (Some labels) = Some (label ∷ labels)
label_and (Some label) None = None
label_and None labels = None

-- words in threes ask for labels
abbrev pub labels_of : List (List ℕ) → Option (List AskingLabel)
labels_of [] = Some []
labels_of (start ∷ []) = None
labels_of (start ∷ end ∷ []) = None
labels_of (start ∷ end ∷ text ∷ words) = label_and (label_of start end text) (labels_of words)

-- ---- the message, and what stands before it

-- behind the options the message comes, and then the labels
abbrev pub asking_behind : AskingOptions → List (List ℕ) → Option Asking
asking_behind options [] = None
asking_behind options (message ∷ words) =
    option_map (λ labels. record { options = options; message = message; labels = labels })
    (labels_of words)

-- what a word is, where an option may stand
unfoldable pub front_of : List ℕ → Front
front_of word =
    if bytes_eq word (codes "--ascii") then Ascii else
    (if bytes_eq word (codes "--plain") then Plain else
    (if bytes_eq word (codes "--compact") then Compact else
    (if bytes_eq word (codes "--bytes") then Bytes else
    (if bytes_eq word (codes "--file") then File else
    (if bytes_eq word (codes "--") then Dashes else
    (if bytes_eq (take 2 word) (codes "--") then Unknown else Message))))))

-- what words ask for behind options that ask for these; the first of them is a path where the word
-- before them is `--file`
unfoldable pub asking_after : Bool → AskingOptions → List (List ℕ) → Option Asking
asking_after is_path options [] = None
asking_after true options (path ∷ words) =
    asking_after false (record options { path = Some path }) words
asking_after false options (word ∷ words) = elim (front_of word) [
  | Ascii ↦ asking_after false (record options { ascii = true }) words
  | Plain ↦ asking_after false (record options { plain = true }) words
  | Compact ↦ asking_after false (record options { compact = true }) words
  | Bytes ↦ asking_after false (record options { bytes = true }) words
  | File ↦ asking_after true options words
  | Dashes ↦ asking_behind options words
  | Unknown ↦ None
  | Message ↦ asking_behind options (word ∷ words)
]

-- no option
abbrev pub no_options : AskingOptions
no_options =
    record { ascii = false; plain = false; compact = false; bytes = false; path = None }

-- the report that words ask for, if they do
abbrev pub asking_of : List (List ℕ) → Option Asking
asking_of words = asking_after false no_options words

-- the same report without colours
abbrev pub colorless : Asking → Asking
colorless asking = record asking { options = record asking.options { plain = true } }
