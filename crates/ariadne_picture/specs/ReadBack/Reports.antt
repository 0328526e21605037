-- What is read back of the picture of a report.
use Rattle.std.specs.Prelude.{◌≡◌, ℕ, ◌+◌, ◌<◌, ◌^◌, false, List, length, map, Option, Some, None, IsPermutation}
use Rattle.std.specs.List.{AllByRecursion}
use Rattle.std.specs.Str.{drop_trailing_whitespace}
use Rattle.ariadne_base.specs.Locations.{line_text}
use Rattle.ariadne_base.specs.Listing.{Listing, listed_lines}
use Rattle.ariadne_picture.specs.declared.label_info.LabelInfo.{LabelInfo}
use Rattle.ariadne_picture.specs.Report.{ReportFields, World, switches_of}
use Rattle.ariadne_picture.specs.Columns.{is_too_wide}
use Rattle.ariadne_picture.specs.Pieces.{Section, gutter_len, message_at}
use Rattle.ariadne_picture.specs.ReadBack.Rows.{Known}
use Rattle.ariadne_picture.specs.Canvas.{canvas, group_source, groups, sections, sheet_of, texts_of}
use Rattle.ariadne_picture.specs.ReadBack.Answer.{read_back, read_headers}
use Rattle.ariadne_picture.specs.ReadBack.Labels.{headers_told, labels_told}

-- the numbers of all lines are below 2 ^ 64, as those of a `Source` are, so that no two are printed
-- alike
abbrev pub HaveShortNumbers : {S Id : Type 0} → World S Id → Type 0
HaveShortNumbers {S} {Id} w =
    (id : Id) (source : Listing) → w.source_of id ≡ Some source
    → length (listed_lines source) + source.display_offset < 2 ^ 64

-- no line of a group is cut
abbrev pub HasWholeLines : Section → Type 0
HasWholeLines s =
    (l : ℕ) → is_too_wide s.sheet.switches (drop_trailing_whitespace (line_text s.sheet.lines l)) ≡ false

module _ {S Id : Type 0} (w : World S Id) (r : ReportFields S) where
  -- so it is with the groups of these labels: so it always is where no width is asked for
  abbrev pub HaveWholeLines : List LabelInfo → Type 0
  HaveWholeLines infos = AllByRecursion HasWholeLines (sections w r infos)

  -- the sources of the groups of these labels, from top to bottom, with what is told of their gutters
  abbrev known : (List LabelInfo → Option ℕ) → List LabelInfo → List Known
  known gutter infos =
      map (λ group. record { listing = group_source w r group; gutter = gutter group }) (groups w r infos)

  -- that is nothing
  unfoldable pub group_sources : List LabelInfo → List Known
  group_sources infos = known (λ group. None) infos

  -- or how many columns each has
  unfoldable pub group_sources_and_gutters : List LabelInfo → List Known
  group_sources_and_gutters infos = known (λ group. Some (gutter_len (sheet_of w r group))) infos

  -- what their picture tells one who knows this of its groups is what they are, in another order, and what
  -- the headers are to say
  pub record IsReadBackBy (infos : List LabelInfo) (known : List Known) : Type 0 where
    pub labels : IsPermutation (read_back (canvas w r infos) known (switches_of r.config))
        (labels_told (message_at (texts_of r)) (sections w r infos))
    pub headers : read_headers (canvas w r infos) known (switches_of r.config)
        ≡ headers_told (texts_of r) (sections w r infos)

  -- so it is for one who knows their sources
  abbrev pub IsReadBack : List LabelInfo → Type 0
  IsReadBack infos = IsReadBackBy infos (group_sources infos)

  -- so it is for one who also knows how many gutter columns each has
  abbrev pub IsReadBackByGutters : List LabelInfo → Type 0
  IsReadBackByGutters infos = IsReadBackBy infos (group_sources_and_gutters infos)
