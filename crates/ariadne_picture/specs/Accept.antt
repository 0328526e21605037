-- Which labels are accepted, and what they are in characters. Offsets count characters or, in byte
-- mode, bytes; the one past the end of a source is taken as its end. A label whose source is held
-- is left out where it reaches further, or where one of its ends lies inside a character.
use Rattle.std.specs.Prelude.{◌≡◌, ◌≢◌, ℕ, ◌+◌, ◌-◌, ◌/◌, min, ◌||◌, nat_lt, if◌then◌else◌, List}
use Rattle.std.specs.Prelude.{length, Option, Some, is_some, chars, slice_get, AllPairs}
use Rattle.std.specs.List.{AllByRecursion}
use Rattle.ariadne_base.specs.Locations.{byte_len, line_at, column_at, line_offset, char_offset}
use Rattle.ariadne_base.specs.Ranges.{last_offset}
use Rattle.ariadne_base.specs.Listing.{Listing, listed_lines}
use Rattle.ariadne_picture.specs.declared.switches.LabelAttach.{LabelAttach}
use Rattle.ariadne_picture.specs.declared.switches.LabelAttach.TheVariants.{Start, Middle, End}
use Rattle.ariadne_picture.specs.declared.switches.IndexType.{IndexType}
use Rattle.ariadne_picture.specs.declared.switches.IndexType.TheVariants.{Byte, Char}
use Rattle.ariadne_picture.specs.declared.verdict.Verdict.{Verdict}
use Rattle.ariadne_picture.specs.declared.verdict.Verdict.TheVariants.{Accepted, PastSource}
use Rattle.ariadne_picture.specs.declared.verdict.Verdict.TheVariants.{CutsCharacter}
use Rattle.ariadne_picture.specs.declared.label_info.LabelInfo.{LabelInfo}
use Rattle.ariadne_picture.specs.Report.{ConfigFields, LabelFields, ReportFields, World}

-- ---- offsets

-- the length of a text in what offsets count
unfoldable pub text_len : IndexType → List ℕ → ℕ
text_len Char text = length text
text_len Byte text = byte_len text

-- an offset in characters, if it lies inside none
unfoldable pub offset_in_chars : IndexType → List ℕ → ℕ → Option ℕ
offset_in_chars Char text o = Some o
offset_in_chars Byte text o = char_offset text o

-- the offset that the arrow of a label within one line is attached to
unfoldable pub attach_offset : LabelAttach → ℕ → ℕ → ℕ
attach_offset Start start end = start
attach_offset Middle start end = (start + end) / 2
attach_offset End start end = last_offset start end

-- ---- one label

-- the label at position k over the characters from start to end of the lines ls
unfoldable pub info_of : {S : Type 0} → LabelAttach → List (List ℕ) → ℕ → LabelFields S → ℕ → ℕ
    → LabelInfo
info_of attach ls k label start end =
    let last = last_offset start end in
    let line = line_at length ls start in
    record {
      position = k;
      start = start;
      end = end;
      start_line = line;
      start_place = column_at length ls start;
      end_line = line_at length ls last;
      end_place = column_at length ls last;
      attach = attach_offset attach start end - line_offset length ls line;
      order = label.order;
      priority = label.priority;
      has_message = is_some label.message;
    }

-- the verdict by both ends in characters, None where an end lies inside a character
unfoldable pub within : {S : Type 0} → LabelAttach → List (List ℕ) → ℕ → LabelFields S → Option ℕ
    → Option ℕ → Verdict
within attach ls k label (Some start) (Some end) = Accepted (info_of attach ls k label start end)
within attach ls k label start end = CutsCharacter

-- what becomes of the label at position k, from start to end, whose source is held
unfoldable pub verdict : {S : Type 0} → ConfigFields → Listing → ℕ → LabelFields S → ℕ → ℕ → Verdict
verdict config source k label start end =
    let text = chars source.text in
    let size = text_len config.index_type text in
    if nat_lt size start || nat_lt (size + 1) end then PastSource
    else within config.label_attach (listed_lines source) k label
    (offset_in_chars config.index_type text start)
    (offset_in_chars config.index_type text (min end size))

-- ---- labels of a report

-- the verdict on a label of a world over this source
abbrev pub verdict_in : {S Id : Type 0} → World S Id → ConfigFields → ℕ → LabelFields S → Listing
    → Verdict
verdict_in w config k label source =
    verdict config source k label (w.start_of label.span) (w.end_of label.span)

module _ {S Id : Type 0} (w : World S Id) (r : ReportFields S) where
  -- a is a label of the report, over a source that is held, which accepts it
  pub record IsAccepted (a : LabelInfo) : Type 0 where
    pub label : LabelFields S
    pub there : slice_get r.labels a.position ≡ Some label
    pub source : Listing
    pub is_held : w.source_of (w.id_of label.span) ≡ Some source
    pub accepted : verdict_in w r.config a.position label source ≡ Accepted a

  -- each of these is so, and no label stands twice
  pub record AreAccepted (infos : List LabelInfo) : Type 0 where
    pub each : AllByRecursion IsAccepted infos
    pub none_twice : AllPairs (λ (a b : LabelInfo). a.position ≢ b.position) infos
