-- What a report of the program's own form becomes: its kind and code, its spans, its notes and its helps.
use Rattle.std.specs.Prelude.{ℕ, ◌≡◌, ◌^◌, ℤ, pos, negsuc, nat_lt, Bool, false, not, ◌||◌, if◌then◌else◌}
use Rattle.std.specs.Prelude.{List, [], ◌∷◌, codes, map, string_bytes, unwrap_or}
use Rattle.std.specs.Prelude.{Option, Some, None, option_and_then, option_map}
use Rattle.std.specs.List.{cons_option, find}
use Rattle.std.specs.Str.{bytes_eq}
use Rattle.serde_json.specs.Data.{Data, null, boolean, number, string, array, object, Items, no_items, item}
use Rattle.serde_json.specs.Find.{as_i64, as_number, as_str, get}
use Rattle.ariadne_color.specs.declared.color.Color.{Color}
use Rattle.ariadne_color.specs.declared.color.Color.TheVariants.{Fixed, Rgb}
use Rattle.ariadne_color.specs.declared.color.Color.TheVariants.{Primary, Black, Red, Green, Yellow, Blue, Magenta, Cyan, White}
use Rattle.ariadne_color.specs.declared.color.Color.TheVariants.{BrightBlack, BrightRed, BrightGreen, BrightYellow, BrightBlue, BrightMagenta, BrightCyan, BrightWhite}
use Rattle.ariadne_parse.specs.declared.unit.Unit.{Unit}
use Rattle.ariadne_parse.specs.declared.unit.Unit.TheVariants.{Byte, Char, Display, Utf16}
use Rattle.ariadne_parse.specs.Members.{end_before, is_true_at, items_in, list_at, number_of, severity_at, text_at, words_at}
use Rattle.ariadne_parse.specs.Spans.{named, span_of, seen, Seen}
use Rattle.ariadne_parse.specs.declared.diagnostic.Diagnostic.{Diagnostic}
use Rattle.ariadne_parse.specs.declared.diagnostic.Look.{Look}
use Rattle.ariadne_parse.specs.declared.diagnostic.Location.{Location}

-- ---- colours

-- a whole number from 0 to 255
abbrev pub byte_of : Data → Option ℕ
byte_of d = option_and_then (λ n. if nat_lt n 256 then Some n else None) (number_of d)

-- the colours that have names
abbrev pub named_colors : List (List ℕ × Color)
named_colors =
    (codes "Primary", Primary) ∷
    (codes "Black", Black) ∷
    (codes "Red", Red) ∷
    (codes "Green", Green) ∷
    (codes "Yellow", Yellow) ∷
    (codes "Blue", Blue) ∷
    (codes "Magenta", Magenta) ∷
    (codes "Cyan", Cyan) ∷
    (codes "White", White) ∷
    (codes "BrightBlack", BrightBlack) ∷
    (codes "BrightRed", BrightRed) ∷
    (codes "BrightGreen", BrightGreen) ∷
    (codes "BrightYellow", BrightYellow) ∷
    (codes "BrightBlue", BrightBlue) ∷
    (codes "BrightMagenta", BrightMagenta) ∷
    (codes "BrightCyan", BrightCyan) ∷
    (codes "BrightWhite", BrightWhite) ∷
    []

-- the colour of a name
abbrev pub color_named : List ℕ → Option Color
color_named name = option_map (λ it. it.1) (find (λ it. bytes_eq name it.0) named_colors)

-- the colour of these parts, if they are three
abbrev pub color_mixed : Items → Option Color
color_mixed (item red (item green (item blue no_items))) =
    option_and_then (λ r. option_and_then (λ g. option_map (λ b. Rgb r g b) (byte_of blue)) (byte_of green)) (byte_of red)
color_mixed _ = None

-- a colour: a name, a list of red, green and blue, or the number of a fixed one
abbrev pub color_of : Data → Option Color
color_of null = None
color_of (boolean b) = None
color_of (number n) = option_map Fixed (byte_of (number n))
color_of (string name) = color_named name
color_of (array parts) = color_mixed parts
color_of (object all) = None

abbrev pub color_at : List ℕ → Data → Option Color
color_at name d = option_and_then color_of (get name d)

-- ---- kinds

-- its own, if it names one
abbrev pub report_kind : Data → Option (List ℕ × Option Color)
report_kind d = option_map (λ name. (name, color_at (codes "name_color") d)) (text_at (codes "name") d)

-- ---- spans

-- what its columns count: characters, if it names nothing else
abbrev pub unit_named : Option (List ℕ) → Unit
unit_named None = Char
unit_named (Some name) =
    if bytes_eq name (codes "bytes") then Byte
    else (if bytes_eq name (codes "utf16") then Utf16 else (if bytes_eq name (codes "display") then Display else Char))

abbrev pub report_unit : Data → Unit
report_unit d = unit_named (text_at (codes "columns") d)

-- a location: a list of a line and a column, or of a line alone
abbrev pub first_number : Items → Option ℕ
first_number no_items = None
first_number (item d items) = number_of d

abbrev pub location_in : Items → Option Location
location_in no_items = None
location_in (item line items) = option_map (λ l. record { line = l; column = first_number items }) (number_of line)

abbrev pub label_location : List ℕ → Data → Option Location
label_location name d = location_in (items_in (list_at name d))

-- a member that is a whole number of 32 bits
abbrev pub has_32_bits : ℤ → Bool
has_32_bits (pos n) = nat_lt n (2 ^ 31)
has_32_bits (negsuc n) = nat_lt n (2 ^ 31)

abbrev pub whole_at : List ℕ → Data → Option ℤ
whole_at name d =
    option_and_then (λ z. if has_32_bits z then Some z else None)
    (option_and_then as_i64 (option_and_then as_number (get name d)))

-- its look; an order and a priority that it doesn't name are 0
abbrev pub look_at : Data → Look
look_at d = record {
  order = unwrap_or (whole_at (codes "order") d) (pos 0);
  priority = unwrap_or (whole_at (codes "priority") d) (pos 0);
  color = color_at (codes "color") d;
}

-- the span of a label that begins here
abbrev pub label_span : Unit → Bool → Data → Location → Seen
label_span unit is_primary d start =
    record (span_of (words_at (codes "file") d) start (end_before (label_location (codes "end") d)) unit) {
      text = words_at (codes "text") d;
      is_primary = is_primary;
      look = look_at d;
    }

-- it says that the report is about it
abbrev pub is_primary : Data → Bool
is_primary d = is_true_at (codes "primary") d

abbrev pub has_primary : Items → Bool
has_primary no_items = false
has_primary (item d items) = is_primary d || has_primary items

-- the spans of labels; the first is primary in any case, or is not
abbrev pub label_spans : Unit → Bool → Items → List Seen
label_spans unit first no_items = []
label_spans unit first (item d items) =
    cons_option (option_map (label_span unit (is_primary d || first) d) (label_location (codes "start") d))
    (label_spans unit false items)

-- where none is primary, the first one is
abbrev pub spans_in : Unit → Items → List Seen
spans_in unit labels = label_spans unit (not (has_primary labels)) labels

abbrev pub report_spans : Data → List Seen
report_spans d = spans_in (report_unit d) (items_in (list_at (codes "labels") d))

-- ---- notes and helps

-- those of a list that are texts
abbrev pub texts_in : Items → List (List ℕ)
texts_in no_items = []
texts_in (item d items) = cons_option (as_str d) (texts_in items)

abbrev pub texts_at : List ℕ → Data → List (List ℕ)
texts_at name d = texts_in (items_in (list_at name d))

-- ---- reports

-- a diagnostic has the kind, code and message of a report, and nothing else yet
pub record IsBegunByReport (d : Data) (parsed : Diagnostic) : Type 0 where
  pub severity : parsed.severity ≡ severity_at (codes "kind") d
  pub own_kind : option_map named parsed.own_kind ≡ report_kind d
  pub code : option_map string_bytes parsed.code ≡ text_at (codes "code") d
  pub message : string_bytes parsed.message ≡ words_at (codes "message") d
  pub spans : parsed.spans.items ≡ []
  pub notes : parsed.notes.items ≡ []
  pub helps : parsed.helps.items ≡ []
  pub proposals : parsed.proposals.items ≡ []
  pub quoted : parsed.quoted.items ≡ []
  pub manifest : parsed.manifest ≡ None
  pub is_sum : parsed.is_sum ≡ false

-- a diagnostic is what a report tells, which proposes nothing and quotes nothing
pub record IsOfReport (d : Data) (parsed : Diagnostic) : Type 0 where
  pub severity : parsed.severity ≡ severity_at (codes "kind") d
  pub own_kind : option_map named parsed.own_kind ≡ report_kind d
  pub code : option_map string_bytes parsed.code ≡ text_at (codes "code") d
  pub message : string_bytes parsed.message ≡ words_at (codes "message") d
  pub spans : map seen parsed.spans.items ≡ report_spans d
  pub notes : map string_bytes parsed.notes.items ≡ texts_at (codes "notes") d
  pub helps : map string_bytes parsed.helps.items ≡ texts_at (codes "helps") d
  pub proposals : parsed.proposals.items ≡ []
  pub quoted : parsed.quoted.items ≡ []
  pub manifest : parsed.manifest ≡ None
  pub is_sum : parsed.is_sum ≡ false
