-- The picture of a report is read back over the sources of its groups, where the numbers of their lines are below 2 ^ 64.
use Rattle.std.proofs.Common.{◌≡◌, ℕ, zero, suc, ◌+◌, ◌<◌, ◌^◌, List, [], ◌∷◌, length, map, Option, Some, None, IsPermutation, refl, sym, ap, ◌∙◌, subst, arith, inl, inr}
use Rattle.std.specs.Prelude.{slice_get, option_map, option_and_then, unwrap_or, chars}
use Rattle.std.specs.List.{enumerate_from}
use Rattle.std.proofs.lemmas.Fmt.{decimal_injective}
use Rattle.std.proofs.lemmas.Option.{slice_get-map}
use Rattle.std.proofs.lemmas.Str.{chars-nil}
use Rattle.ariadne_base.specs.Lines.{lines_of}
use Rattle.ariadne_base.specs.Listing.{Listing, listed_lines}
use Rattle.ariadne_picture.specs.declared.label_info.LabelInfo.{LabelInfo}
use Rattle.ariadne_picture.specs.Report.{ReportFields, World, HaveOneSource, AreForward, switches_of}
use Rattle.ariadne_picture.specs.Accept.{AreAccepted}
use Rattle.ariadne_picture.specs.Groups.{printed_number}
use Rattle.ariadne_picture.specs.Pieces.{Section, gutter_len, message_at}
use Rattle.ariadne_picture.specs.ReadBack.Rows.{Known}
use Rattle.ariadne_picture.specs.Canvas.{canvas, group_id, group_source, groups, section_of, sections, texts_of}
use Rattle.ariadne_picture.specs.ReadBack.Answer.{read_back, read_headers}
use Rattle.ariadne_picture.specs.ReadBack.Labels.{labels_told}
use Rattle.ariadne_picture.specs.ReadBack.Reports.{HaveShortNumbers, HasWholeLines, HaveWholeLines, IsReadBackBy, IsReadBack, IsReadBackByGutters}
use Rattle.ariadne_picture.specs.ReadBack.Reports.{group_sources, group_sources_and_gutters}
use Rattle.ariadne_picture.proofs.Lists.ListFacts.{none≢some, all-at}
use Rattle.ariadne_picture.proofs.Cells.CanvasRows.{canvas-rows}
use Rattle.ariadne_picture.proofs.Reading.DrawnReports.{picture_of}
use Rattle.ariadne_picture.proofs.Reading.EveryReport.{numbered, all-placed}
use Rattle.ariadne_picture.proofs.Reading.Pictures.{Picture}
use Rattle.ariadne_picture.proofs.ReadingBack.LineTexts.{AreSources, ArePrintedApart}
use Rattle.ariadne_picture.proofs.ReadingBack.EveryPicture.{picture-read}
use Rattle.ariadne_picture.proofs.ReadingBack.HeadersTold.{headers-read}

-- an element that a numbered one gives
numbered-from : {X Y : Type 0} (f : ℕ × X → Y) (a : ℕ) (xs : List X) (k : ℕ) (y : Y) → slice_get (map f (enumerate_from a xs)) k ≡ Some y
    → (x : X) × (slice_get xs k ≡ Some x) × (f (a + k, x) ≡ y)
numbered-from f a [] k y e = absurd (none≢some y e)
numbered-from f a (x ∷ xs) zero y e =
    let same : f (a, x) ≡ y = cc in let z : a + 0 ≡ a = omega arith in (x, refl, ap (λ n. f (n, x)) z ∙ same)
numbered-from f a (x ∷ xs) (suc k) y e =
    let rest = numbered-from f (a + 1) xs k y e in
    let z : a + suc k ≡ a + 1 + k = omega arith in
    (rest.0, rest.1, ap (λ n. f (n, rest.0)) z ∙ rest.2)

-- the numbers of a source's lines are below 2 ^ 64
abbrev AreShort : Listing → Type 0
AreShort source = length (listed_lines source) + source.display_offset < 2 ^ 64

-- so they are printed apart
short-apart : (s : Section) (source : Listing) → listed_lines source ≡ s.sheet.lines → source.display_offset ≡ s.display_offset → AreShort source
    → ArePrintedApart s
unfolding printed_number
short-apart s source lines offset short l m p q same =
    let size = ap length lines in
    let one = decimal_injective (printed_number s.display_offset l) (printed_number s.display_offset m) (omega (arith, p, size, offset, short)) (omega (arith, q, size, offset, short)) same in
    omega (arith, one)

module _ {S Id : Type 0} (w : World S Id) (r : ReportFields S) where
  -- where no source is held, there is one line
  none-short : AreShort (record { text = []; display_offset = 0 })
  unfolding lines_of
  none-short = let one : length (lines_of (chars [])) ≡ 1 = ap (λ cs. length (lines_of cs)) chars-nil in omega (arith, one)

  sources-short : HaveShortNumbers w → (group : List LabelInfo) → AreShort (group_source w r group)
  unfolding group_source
  sources-short short group = by-id (group_id w r group)
    where
      held : (id : Id) (o : Option Listing) → w.source_of id ≡ o → AreShort (unwrap_or o (record { text = []; display_offset = 0 }))
      held id None e = none-short
      held id (Some source) e = short id source e

      by-id : (o : Option Id) → AreShort (unwrap_or (option_and_then w.source_of o) (record { text = []; display_offset = 0 }))
      by-id None = none-short
      by-id (Some id) = held id (w.source_of id) refl

  -- the group that a section shows
  record Shown (infos : List LabelInfo) (g : ℕ) (s : Section) : Type 0 where
    pub group : List LabelInfo
    pub there : slice_get (groups w r infos) g ≡ Some group
    pub lines : listed_lines (group_source w r group) ≡ s.sheet.lines
    pub offset : (group_source w r group).display_offset ≡ s.display_offset
    pub gutter : gutter_len (record { switches = switches_of r.config; lines = listed_lines (group_source w r group); labels = group }) ≡ gutter_len s.sheet

  shown : (infos : List LabelInfo) (g : ℕ) (s : Section) → slice_get (sections w r infos) g ≡ Some s → Shown infos g s
  unfolding sections section_of
  shown infos g s e =
      let from = numbered-from (section_of w r (length (groups w r infos))) 0 (groups w r infos) g s e in
      record {
        group = from.0;
        there = from.1;
        lines = ap (λ (s : Section). s.sheet.lines) from.2;
        offset = ap (λ (s : Section). s.display_offset) from.2;
        gutter = ap (λ (s : Section). gutter_len s.sheet) from.2;
      }

module _ {S Id : Type 0} (w : World S Id) (r : ReportFields S) (infos : List LabelInfo) (accepted : AreAccepted w r infos) (law : HaveOneSource w)
    (forward : AreForward w r) (short : HaveShortNumbers w) where
  abbrev picture : Picture
  picture = picture_of w r infos (numbered w r infos accepted forward)

  -- one who knows these sources of its groups is told its labels
  labels-read : (known : List Known) → AreSources picture known
      → IsPermutation (read_back (canvas w r infos) known (switches_of r.config)) (labels_told (message_at (texts_of r)) (sections w r infos))
  unfolding texts_of
  labels-read known are =
      subst (λ rows. IsPermutation (read_back rows known (switches_of r.config)) (labels_told (message_at (texts_of r)) (sections w r infos)))
      (sym (canvas-rows w r infos))
      (picture-read picture known are (all-placed w r infos accepted forward law) (λ g s e.
      let h = shown w r infos g s e in
      short-apart s (group_source w r h.group) h.lines h.offset (sources-short w r short h.group)))

  -- and what its headers say
  by-sources : (known : List Known) → AreSources picture known → IsReadBackBy w r infos known
  unfolding texts_of
  by-sources known are = record {
    labels = labels-read known are;
    headers =
        ap (λ rows. read_headers rows known (switches_of r.config)) (canvas-rows w r infos) ∙ headers-read picture known refl;
  }

  -- their sources alone, where no line is cut
  abbrev untold : List LabelInfo → Known
  untold group = record { listing = group_source w r group; gutter = None }

  whole-sources : HaveWholeLines w r infos → AreSources picture (group_sources w r infos)
  unfolding group_sources
  whole-sources whole = record {
    there = λ g s e.
        let h = shown w r infos g s e in (
          untold h.group,
          slice_get-map untold (groups w r infos) g ∙ ap (option_map untold) h.there,
          h.lines,
          h.offset,
          inr (refl, all-at HasWholeLines (sections w r infos) g s e whole),
        );
  }

  pub every-read : HaveWholeLines w r infos → IsReadBack w r infos
  every-read whole = by-sources (group_sources w r infos) (whole-sources whole)

  -- or with the numbers of their gutter columns
  abbrev told : List LabelInfo → Known
  told group = record {
    listing = group_source w r group;
    gutter = Some (gutter_len (record { switches = switches_of r.config; lines = listed_lines (group_source w r group); labels = group }));
  }

  gutter-sources : AreSources picture (group_sources_and_gutters w r infos)
  unfolding group_sources_and_gutters
  gutter-sources = record {
    there = λ g s e.
        let h = shown w r infos g s e in
        (told h.group, slice_get-map told (groups w r infos) g ∙ ap (option_map told) h.there, h.lines, h.offset, inl (ap Some h.gutter));
  }

  -- the picture of every report is read back
  pub every-read-by-gutters : IsReadBackByGutters w r infos
  every-read-by-gutters = by-sources (group_sources_and_gutters w r infos) gutter-sources
