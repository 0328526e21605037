-- Reports and sources for worked pictures.
use Rattle.std.specs.Prelude.{ℕ, true, false, ◌==◌, if◌then◌else◌, List, [], ◌∷◌, Option, Some, None, map, codes, encode_utf8_all, find}
use Rattle.std.specs.Prelude.{option_map, ◌++◌}
use Rattle.std.specs.Cmp.Lexicographic.{pointwise}
use Rattle.std.specs.List.{enumerate_from}
use Rattle.std.specs.Prelude.{nat_eq}
use Prim.Native.String.{String}
use Rattle.unicode_width.proofs.Computing.{unicode_width}
use Rattle.ariadne_base.specs.Listing.{Listing}
use Rattle.ariadne_picture.specs.declared.switches.CharSet.TheVariants.{Unicode, Ascii}
use Rattle.ariadne_picture.specs.declared.switches.IndexType.TheVariants.{Byte}
use Rattle.ariadne_picture.specs.Report.{ConfigFields, LabelFields, ReportFields, World, error, default_config, new_label, new_report}
use Rattle.ariadne_picture.specs.declared.verdict.Verdict.{Verdict}
use Rattle.ariadne_picture.specs.declared.verdict.Verdict.TheVariants.{Accepted, PastSource, CutsCharacter}
use Rattle.ariadne_picture.specs.Accept.{verdict_in}
use Rattle.ariadne_picture.specs.Lists.{joined}
use Rattle.ariadne_picture.specs.declared.label_info.LabelInfo.{LabelInfo}
use Rattle.ariadne_picture.specs.Canvas.{canvas, sections, texts_of}
use Rattle.ariadne_picture.specs.Print.{printed}
use Rattle.ariadne_worked.proofs.Unfold.{evaluated}
use Rattle.ariadne_picture.proofs.Rows.RowPlacing.{is_read, row_placing, read_by_rows}

-- a text from its characters
unfoldable pub text : List ℕ → List ℕ
text t = encode_utf8_all t

-- ---- spans over named sources

pub record Span : Type 0 where
  pub id : List ℕ
  pub start : ℕ
  pub end : ℕ

-- a source under its id, and what that is called
pub record Entry : Type 0 where
  pub id : List ℕ
  pub name : Option (List ℕ)
  pub listing : Listing

unfoldable pub entry : List Entry → List ℕ → Option Entry
entry entries id = find (λ e. pointwise nat_eq e.id id) entries

-- what is shown of an id without a source is never read
unfoldable pub world : List Entry → World Span (List ℕ)
world entries = record {
  id_of = λ s. s.id;
  start_of = λ s. s.start;
  end_of = λ s. s.end;
  is_same = pointwise nat_eq;
  name_of = λ id. elim (entry entries id) [ None ↦ None | Some e ↦ e.name ];
  source_of = λ id. option_map (λ e. e.listing) (entry entries id);
}

-- ---- why a label is left out

pub data Reason : Type 0 where
  unfetched : Reason
  past_its_source : Reason
  inside_a_character : Reason

unfoldable pub reason_of : Verdict → Option Reason
reason_of (Accepted info) = None
reason_of PastSource = Some past_its_source
reason_of CutsCharacter = Some inside_a_character

unfoldable pub reason_over : World Span (List ℕ) → ConfigFields → LabelFields Span → Option Listing → Option Reason
reason_over w config label None = Some unfetched
reason_over w config label (Some source) = reason_of (verdict_in w config 0 label source)

unfoldable pub reasons : World Span (List ℕ) → ReportFields Span → List (Option Reason)
reasons w r = map (λ label. reason_over w r.config label (w.source_of label.span.id)) r.labels

abbrev pub left_out : List Entry → ReportFields Span → List (Option Reason)
left_out entries r = reasons (world entries) r

-- ---- the labels that are drawn

unfoldable pub info_of_verdict : Verdict → List LabelInfo
info_of_verdict (Accepted info) = info ∷ []
info_of_verdict PastSource = []
info_of_verdict CutsCharacter = []

unfoldable pub info_over : World Span (List ℕ) → ConfigFields → ℕ → LabelFields Span → Option Listing → List LabelInfo
info_over w config k label None = []
info_over w config k label (Some source) = info_of_verdict (verdict_in w config k label source)

-- each that its source accepts
unfoldable pub accepted : World Span (List ℕ) → ReportFields Span → List LabelInfo
accepted w r = joined (λ e. info_over w r.config e.0 e.1 (w.source_of e.1.span.id)) (enumerate_from 0 r.labels)

-- ---- the bytes of a picture

-- where these labels are drawn: none if the placing that its rows' names give doesn't read it
abbrev pub picture_of : List LabelInfo → List Entry → ReportFields Span → List ℕ
picture_of infos entries r =
    let w = world entries in
    let cells = canvas w r infos in
    let parts = sections w r infos in
    if is_read cells parts (texts_of r) (row_placing (texts_of r) parts) then printed cells else []

unfoldable pub picture : List Entry → ReportFields Span → List ℕ
picture entries r = picture_of (accepted (world entries) r) entries r

-- ---- texts

unfoldable pub utf8 : String → List ℕ
utf8 t = text (codes t)

unfoldable pub texts : List String → List (List ℕ)
texts ts = map utf8 ts

-- the bytes of some rows, each with its line feed
unfoldable pub rows : List String → List ℕ
rows [] = []
rows (row ∷ rest) = utf8 row ++ 10 ∷ rows rest

-- the byte that begins an escape sequence, where a row in colours has ~
unfoldable pub escape : ℕ → ℕ
escape c = if c == 126 then 27 else c

unfoldable pub rows_in_color : List String → List ℕ
rows_in_color painted = map escape (rows painted)

-- ---- sources and spans

-- a source that is called as its id
unfoldable pub named : String → String → Entry
named id t = record { id = utf8 id; name = Some (utf8 id); listing = record { text = utf8 t; display_offset = 0 } }

unfoldable pub nameless : String → String → Entry
nameless id t = record { id = utf8 id; name = None; listing = record { text = utf8 t; display_offset = 0 } }

-- one source without a name, whose id is the empty text
unfoldable pub one : String → List Entry
one t = nameless "" t ∷ []

-- a source whose first line has the number behind this one
unfoldable pub shown_from : ℕ → Entry → Entry
shown_from offset e = record e { listing = record { text = e.listing.text; display_offset = offset } }

unfoldable pub span_in : String → ℕ → ℕ → Span
span_in id start end = record { id = utf8 id; start = start; end = end }

unfoldable pub span : ℕ → ℕ → Span
span start end = span_in "" start end

-- ---- labels

unfoldable pub silent_label_in : String → ℕ → ℕ → LabelFields Span
silent_label_in id start end = new_label (span_in id start end)

unfoldable pub silent_label : ℕ → ℕ → LabelFields Span
silent_label start end = silent_label_in "" start end

unfoldable pub label_in : String → ℕ → ℕ → String → LabelFields Span
label_in id start end t = record (silent_label_in id start end) { message = Some (utf8 t) }

unfoldable pub label : ℕ → ℕ → String → LabelFields Span
label start end t = label_in "" start end t

-- ---- reports

unfoldable pub ascii_config : ConfigFields
ascii_config = record default_config { color = false; char_set = Ascii }

unfoldable pub byte_config : ConfigFields
byte_config = record ascii_config { index_type = Byte }

unfoldable pub compact_config : ConfigFields
compact_config = record ascii_config { compact = true }

unfoldable pub color_config : ConfigFields
color_config = record ascii_config { color = true }

unfoldable pub unicode_config : ConfigFields
unicode_config = record ascii_config { char_set = Unicode }

unfoldable pub report : List (LabelFields Span) → ReportFields Span
report labels = record (new_report error (span 0 0)) { labels = labels; config = ascii_config }

unfoldable pub titled : String → List (LabelFields Span) → ReportFields Span
titled t labels = record (report labels) { message = Some (utf8 t) }

unfoldable pub configured : ConfigFields → List (LabelFields Span) → ReportFields Span
configured config labels = record (report labels) { config = config }

-- `unfolding drawn` lets `refl` compute all this
unfoldable pub drawn : Unit {0}
unfolding evaluated unicode_width read_by_rows text entry world reason_of reason_over reasons info_of_verdict info_over accepted picture utf8 texts
    rows escape rows_in_color named nameless one shown_from span_in span silent_label_in silent_label label_in label ascii_config byte_config compact_config color_config
    unicode_config report titled configured
drawn = tt
