-- What the rows of a group read, as values: the texts of the report, the group within the picture, and
-- one line of it. Its labels lie in the lines of its source.
use Rattle.std.specs.Prelude.{Some, None, ◌++◌, codes, decimal}
use Rattle.std.specs.Prelude.{ℕ, ◌≡◌, ◌+◌, ◌<◌, ◌≤◌, ◌^◌, Bool, true, List, length, Option, IfSome}
use Rattle.std.specs.List.{AllByRecursion}
use Rattle.std.proofs.Math.Utf8.{scalars}
use Rattle.ariadne_base.specs.Listing.{Listing, listed_lines}
use Rattle.ariadne_base.specs.Locations.{line_offset, line_text}
use Rattle.ariadne_picture.specs.declared.label_info.LabelInfo.{LabelInfo}
use Rattle.ariadne_picture.specs.declared.label_info.LineLabel.{LineLabel}
use Rattle.ariadne_picture.specs.Columns.{Layout, layout_of}
use Rattle.ariadne_picture.specs.Lists.{total}
use Rattle.ariadne_picture.specs.Pieces.{Section, Texts}
use Rattle.ariadne_picture.specs.Ranks.{Sheet, is_hidden_line, line_labels}
use Rattle.ariadne_picture.specs.Strokes.{holds}

-- ---- a label that is drawn over the lines of its source

-- its ends lie in the lines, it ends no earlier than it starts, and it touches each line of which it
-- holds a character
pub record IsOverLines (lines : List (List ℕ)) (a : LabelInfo) : Type 0 where
  pub rises : a.start_line ≤ a.end_line
  pub within : a.end_line < length lines
  pub ends_inside : a.end ≤ total length lines
  pub holders : (l o : ℕ) → line_offset length lines l ≤ o
      → o < line_offset length lines l + length (line_text lines l)
      → holds a o ≡ true → (a.start_line ≤ l) × (l ≤ a.end_line)

-- each of these is so
abbrev pub AreOverLines : List (List ℕ) → List LabelInfo → Type 0
AreOverLines lines infos = AllByRecursion (IsOverLines lines) infos

-- ---- a snippet: a group within the picture, with the texts of the report

pub record SnippetFields : Type 0 where
  pub texts : Texts
  pub section : Section

-- the snippet of these labels over this source: what that is called, the offset that the header names,
-- and whether it is the first or the last of the picture
abbrev pub snippet_of : Texts → Listing → List ℕ → List LabelInfo → Option ℕ → Bool → Bool
    → SnippetFields
snippet_of texts source name labels header_offset is_first is_last = record {
  texts = texts;
  section = record {
    sheet = record {
      switches = texts.switches;
      lines = listed_lines source;
      labels = labels;
    };
    name = name;
    display_offset = source.display_offset;
    header_offset = header_offset;
    is_first = is_first;
    is_last = is_last;
  };
}

-- its labels over its lines
abbrev pub sheet_in : SnippetFields → Sheet
sheet_in v = v.section.sheet

-- what is known of each: it has labels, which lie in its lines; the numbers of its lines and of the
-- places of its rows fit; its characters are scalars; no hidden line is empty; and the header names
-- an offset of its source
pub record IsSnippet (v : SnippetFields) : Type 0 where
  pub switches : v.texts.switches ≡ v.section.sheet.switches
  pub some : 0 < length v.section.sheet.labels
  pub over : AreOverLines v.section.sheet.lines v.section.sheet.labels
  pub numbers_fit : v.section.display_offset + length v.section.sheet.lines < 2 ^ 64
  pub places_fit : total length v.section.sheet.lines < 2 ^ 63
  pub scalars_lines : (l : ℕ) → scalars (line_text v.section.sheet.lines l) ≡ true
  pub hidden_some : (l : ℕ) → l < length v.section.sheet.lines → is_hidden_line v.section.sheet l ≡ true
      → 0 < length (line_text v.section.sheet.lines l)
  pub location : IfSome v.section.header_offset (λ o. o ≤ total length v.section.sheet.lines)

-- the text of a location, by the numbers of its line and its column, if there is one
unfoldable pub location_numbers : Option (ℕ × ℕ) → List ℕ
location_numbers None = codes "?:?"
location_numbers (Some p) = decimal p.0 ++ codes ":" ++ decimal p.1

-- ---- a line of a snippet

pub record LineFields : Type 0 where
  pub snippet : SnippetFields
  pub line : ℕ

-- the snippet's labels over its lines
abbrev pub sheet_at : LineFields → Sheet
sheet_at v = v.snippet.section.sheet

-- the labels that have rows below the line, by rank
abbrev pub labels_at : LineFields → List LineLabel
labels_at v = line_labels v.snippet.section.sheet.labels v.line

-- what is drawn at the line
abbrev pub layout_at : LineFields → Layout
layout_at v = layout_of v.snippet.section.sheet v.line
