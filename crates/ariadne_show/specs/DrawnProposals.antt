-- What is drawn of the changes that a diagnostic proposes: the rows of a suggestion for each way. A
-- proposal is drawn where its file was read and each of its ways can be shown whole, in the place of its
-- helps. Else these stand in words.
use Rattle.std.specs.Prelude.{ℕ, ◌≡◌, ◌≢◌, ◌==◌, ◌+◌, ◌-◌, ◌&&◌, decimal, max, not, Bool, true, false, if◌then◌else◌}
use Rattle.std.specs.Prelude.{List, [], ◌∷◌, ◌++◌, length, Contains, Option, Some, None, string_bytes, slice_get}
use Rattle.std.specs.Prelude.{option_and_then, option_map, String, Vec}
use Rattle.std.specs.List.{AllZip}
use Rattle.std.specs.Option.{option_to_list}
use Rattle.std.specs.declared.alloc.Global.{Global}
use Rattle.std.specs.declared.ops.Range.{Range}
use Rattle.ariadne.specs.IndexType.TheVariants.{Char}
use Rattle.ariadne.specs.Listing.{listed_lines}
use Rattle.ariadne_edits.specs.Outcomes.{IsSuggestion, Refuses}
use Rattle.ariadne_edits.specs.declared.cut.View.{View}
use Rattle.ariadne_edits.specs.declared.edit.BadEdit.{BadEdit}
use Rattle.ariadne_edits.specs.declared.edit.Edit.{Edit}
use Rattle.ariadne_safe.specs.Sources.{listing_of}
use Rattle.ariadne_safe.specs.declared.sources.SafeSource.{SafeSource}
use Rattle.ariadne_parse.specs.declared.diagnostic.Change.{Change}
use Rattle.ariadne_parse.specs.declared.diagnostic.Proposal.{Proposal}
use Rattle.ariadne_parse.specs.declared.diagnostic.Location.{Location}
use Rattle.ariadne_show.specs.FoundSpans.{location_by, Files, held_at}
use Rattle.ariadne_show.specs.Wrapped.{aside_columns, fits, wrapped}
use Rattle.ariadne_show.specs.declared.held.HeldFile.{HeldFile}
use Rattle.ariadne_show.specs.declared.proposed.Sketch.{Sketch}
use Rattle.ariadne_show.specs.declared.proposed.Room.{Room}
use Rattle.ariadne_show.specs.declared.proposed.TheConstants.{TAB_WIDTH}

-- ---- the file

-- a file that was read, and its source
abbrev pub page_of : List SafeSource → HeldFile → Option (HeldFile × SafeSource)
page_of sources held =
    if held.is_read then option_map (λ source. (held, source)) (slice_get sources held.number) else None

abbrev pub page_at : Files → List SafeSource → List ℕ → Option (HeldFile × SafeSource)
page_at files sources path = option_and_then (page_of sources) (held_at files path)

-- ---- the changes of a way

-- the offset of a location, in characters of a file
abbrev pub change_location : HeldFile → Proposal → Location → Option ℕ
change_location held proposal location = location_by held proposal.unit proposal.is_past_mark location 1

-- the characters that a change replaces, if the file has both of its ends
unfoldable pub range_of : HeldFile → Proposal → Change → Option (Range ℕ)
range_of held proposal change =
    option_and_then
    (λ start. option_map (λ end. record { start = start; end = end }) (change_location held proposal change.end))
    (change_location held proposal change.start)

-- an edit is a change
pub record IsEdit (held : HeldFile) (proposal : Proposal) (change : Change) (edit : Edit) : Type 0 where
  pub span : range_of held proposal change ≡ Some edit.span
  pub text : string_bytes edit.text ≡ string_bytes change.put_in

-- edits are changes; or there are none, as the file doesn't have some change
abbrev pub AreEdits : HeldFile → Proposal → List Change → Option (List Edit) → Type 0
AreEdits held proposal changes (Some edits) = AllZip (IsEdit held proposal) changes edits
AreEdits held proposal changes None =
    (change : Change) × Contains changes change × (range_of held proposal change ≡ None)

-- how many columns the number of its last line takes
abbrev pub number_columns : SafeSource → ℕ
number_columns source =
    length (decimal ((listing_of source).display_offset + length (listed_lines (listing_of source))))

-- how many columns of its text a line may take in a row of so many, behind its number and its sign; 0 is any
-- number of both
abbrev pub line_columns : ℕ → SafeSource → ℕ
line_columns columns source =
    if columns == 0 then 0 else max 1 (aside_columns columns - (number_columns source + 3))

-- how changed lines are shown: with tab stops as in pictures, and cut where a row has no room for them
abbrev pub view_in : Room → SafeSource → View
view_in room source = record {
  tab_width = TAB_WIDTH;
  width = line_columns room.columns source;
  char_set = room.char_set;
}

-- rows show edits of a source as it is shown; or there are none, as the edits are refused
abbrev pub AreRows : Room → SafeSource → List Edit → Option (List ℕ) → Type 0
AreRows room source edits (Some rows) = IsSuggestion Char (view_in room source)
    (listing_of source).display_offset (listing_of source).text edits rows
AreRows room source edits None = (bad : BadEdit) × Refuses Char (listing_of source).text edits bad

-- ---- the text of a way

-- rows can be shown: there are some, and they fit
abbrev pub are_shown : ℕ → List ℕ → Bool
are_shown columns rows = not (length rows == 0) && fits columns rows

-- rows below why they are proposed, if that is told
unfoldable pub way_text : ℕ → List ℕ → List ℕ → List ℕ
way_text columns why rows = if length why == 0 then rows else wrapped columns why ++ 10 ∷ rows

-- the text of a way; none where the file doesn't have its changes, they are refused, or their rows can't be
-- shown
pub data IsWayDrawn (room : Room) (held : HeldFile) (source : SafeSource) (proposal : Proposal) (changes : List Change)
    : Option (List ℕ) → Type 0 where
  not_there : AreEdits held proposal changes None
      → IsWayDrawn room held source proposal changes None
  refused : (edits : List Edit) → AreEdits held proposal changes (Some edits) → AreRows room source edits None
      → IsWayDrawn room held source proposal changes None
  not_shown : (edits : List Edit) (rows : List ℕ) → AreEdits held proposal changes (Some edits)
      → AreRows room source edits (Some rows) → are_shown room.columns rows ≡ false
      → IsWayDrawn room held source proposal changes None
  shown : (edits : List Edit) (rows : List ℕ) → AreEdits held proposal changes (Some edits)
      → AreRows room source edits (Some rows) → are_shown room.columns rows ≡ true
      → IsWayDrawn room held source proposal changes
      (Some (way_text room.columns (string_bytes proposal.why) rows))

-- ---- proposals

-- the texts of all ways; none where there is no way, or some way has no text
pub data AreWaysDrawn (room : Room) (held : HeldFile) (source : SafeSource) (proposal : Proposal)
    : Option (Vec (String Global) Global) → Type 0 where
  no_way : proposal.ways.items ≡ [] → AreWaysDrawn room held source proposal None
  way_left : (way : Vec Change Global) → Contains proposal.ways.items way
      → IsWayDrawn room held source proposal way.items None → AreWaysDrawn room held source proposal None
  all_drawn : (texts : Vec (String Global) Global) → proposal.ways.items ≢ []
      → AllZip (λ way text. IsWayDrawn room held source proposal way.items (Some (string_bytes text)))
      proposal.ways.items texts.items → AreWaysDrawn room held source proposal (Some texts)

-- what is drawn of a proposal: a text for each of its ways, in the place of its helps; or nothing, where its
-- file was not read, or has no texts
pub data IsSketched (room : Room) (files : Files) (sources : List SafeSource) (proposal : Proposal)
    : Option Sketch → Type 0 where
  not_read : page_at files sources (string_bytes proposal.file) ≡ None
      → IsSketched room files sources proposal None
  not_drawn : (held : HeldFile) (source : SafeSource)
      → page_at files sources (string_bytes proposal.file) ≡ Some (held, source)
      → AreWaysDrawn room held source proposal None → IsSketched room files sources proposal None
  sketched : (held : HeldFile) (source : SafeSource) (sketch : Sketch)
      → page_at files sources (string_bytes proposal.file) ≡ Some (held, source)
      → sketch.helps ≡ proposal.helps → AreWaysDrawn room held source proposal (Some sketch.texts)
      → IsSketched room files sources proposal (Some sketch)

-- of proposals, in their order
pub data AreSketched (room : Room) (files : Files) (sources : List SafeSource) : List Proposal → List Sketch → Type 0 where
  none_sketched : AreSketched room files sources [] []
  one_sketched_more : {proposals : List Proposal} {sketches : List Sketch}
      → AreSketched room files sources proposals sketches → (proposal : Proposal) (sketch : Option Sketch)
      → IsSketched room files sources proposal sketch
      → AreSketched room files sources (proposals ++ proposal ∷ []) (sketches ++ option_to_list sketch)
