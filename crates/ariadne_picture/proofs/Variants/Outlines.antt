-- Two reports that differ in nothing that a picture reads, apart from their spans, have the same outline
-- wherever the headers of their groups name the same offsets.
use Rattle.std.proofs.Common.{◌≡◌, ℕ, ◌+◌, Bool, List, [], ◌∷◌, Option, Some, None, refl, sym, ap, ◌∙◌, max, map, slice_get, unwrap_or}
use Rattle.std.proofs.Common.{option_and_then, option_map, length, ◌==◌, nat_le, if◌then◌else◌, codes}
use Rattle.std.specs.List.{AllByRecursion, enumerate_from}
use Rattle.std.proofs.lemmas.Option.{slice_get-map}
use Rattle.ariadne_base.specs.Listing.{listed_lines}
use Rattle.ariadne_picture.specs.declared.switches.IndexType.{IndexType}
use Rattle.ariadne_picture.specs.declared.label_info.LabelInfo.{LabelInfo}
use Rattle.ariadne_picture.specs.Report.{ReportFields, World, switches_of}
use Rattle.ariadne_picture.specs.Accept.{text_len, offset_in_chars}
use Rattle.ariadne_picture.specs.Lists.{joined}
use Rattle.ariadne_picture.specs.Groups.{ordered, groups_of, greatest}
use Rattle.ariadne_picture.specs.Pieces.{Piece, Texts, section_rows}
use Rattle.ariadne_picture.specs.Canvas.{texts_of, label_id, is_same_id, same_source, group_id, group_source}
use Rattle.ariadne_picture.specs.Canvas.{header_offset, section_of, groups, number_width, outline, header_pieces}
use Rattle.ariadne_picture.proofs.Lists.Joined.{joined-enumerated_same}
use Rattle.ariadne_picture.proofs.Parts.{number_len, outline-is}

-- lists of which f and g read the same, read alike at each place
same-at : {X Y Z : Type 0} (f : X → Z) (g : Y → Z) (xs : List X) (ys : List Y) → map f xs ≡ map g ys → (k : ℕ)
    → option_map f (slice_get xs k) ≡ option_map g (slice_get ys k)
same-at f g xs ys e k = sym (slice_get-map f xs k) ∙ ap (λ zs. slice_get zs k) e ∙ slice_get-map g ys k

-- the offset that a header names: an own start that lies in its text, or the start of its first label
abbrev pub header_start : Bool → IndexType → List ℕ → ℕ → Option ℕ → Option ℕ
header_start is_own index text start first =
    if is_own then (if nat_le start (text_len index text) then offset_in_chars index text start else None) else first

-- the rows of groups
abbrev rows_of : {S Id : Type 0} → World S Id → ReportFields S → List (List LabelInfo) → List (List Piece)
rows_of w r gs = joined (λ e. section_rows (texts_of r) (number_width w r gs) (section_of w r (length gs) e)) (enumerate_from 0 gs)

module _ {S T Id : Type 0} (w : World S Id) (v : World T Id) (r : ReportFields S) (q : ReportFields T) where
  -- what the outline reads, apart from the offsets of the headers
  pub record ReadTheSame : Type 0 where
    pub texts : texts_of r ≡ texts_of q
    pub label_ids : map (λ label. w.id_of label.span) r.labels ≡ map (λ label. v.id_of label.span) q.labels
    pub ids : w.is_same ≡ v.is_same
    pub names : w.name_of ≡ v.name_of
    pub sources : w.source_of ≡ v.source_of

  -- an offset that both headers of a group name
  abbrev pub NameOneOffset : List LabelInfo → Type 0
  NameOneOffset group = header_offset w r group ≡ header_offset v q group

  module _ (same : ReadTheSame) where
    -- the switches are part of the texts
    same-switches : switches_of r.config ≡ switches_of q.config
    unfolding texts_of
    same-switches = ap (λ (t : Texts). t.switches) same.texts

    -- the ids of the labels are the same at each place
    same-labels : (k : ℕ) → label_id w r k ≡ label_id v q k
    unfolding label_id
    same-labels = same-at (λ label. w.id_of label.span) (λ label. v.id_of label.span) r.labels q.labels same.label_ids

    -- ids are compared by the same test
    same-ids : (a b : Option Id) → is_same_id w r a b ≡ is_same_id v q a b
    unfolding is_same_id
    same-ids (Some a) (Some b) = λ i. same.ids i a b
    same-ids (Some a) None = refl
    same-ids None b = refl

    -- a group's id is that of its first label
    same-group_id : (group : List LabelInfo) → group_id w r group ≡ group_id v q group
    unfolding group_id
    same-group_id [] = refl
    same-group_id (a ∷ group) = same-labels a.position

    -- so it is compared with an id alike
    pub same-own : (group : List LabelInfo) (own : Option Id) → is_same_id w r (group_id w r group) own ≡ is_same_id v q (group_id v q group) own
    same-own group own = same-ids (group_id w r group) own ∙ (λ i. is_same_id v q (same-group_id group i) own)

    -- the same source is held under it
    pub same-group_source : (group : List LabelInfo) → group_source w r group ≡ group_source v q group
    unfolding group_source
    same-group_source group = λ i. unwrap_or (option_and_then (same.sources i) (same-group_id group i)) (record { text = []; display_offset = 0 })

    -- labels are over one source alike
    same-same_source : (j k : ℕ) → same_source w r j k ≡ same_source v q j k
    unfolding same_source
    same-same_source j k = same-ids (label_id w r j) (label_id w r k) ∙ (λ i. is_same_id v q (same-labels j i) (same-labels k i))

    -- so cuts stand at the same places
    same-groups : (infos : List LabelInfo) → groups w r infos ≡ groups v q infos
    unfolding groups
    same-groups infos = λ i. groups_of (λ j k. same-same_source j k i) (ordered infos)

    -- display offsets are read of the same sources
    same-width : (gs : List (List LabelInfo)) → number_width w r gs ≡ number_width v q gs
    unfolding number_width greatest
    same-width [] = refl
    same-width (group ∷ gs) =
        λ i. max (number_len (same-group_source group i).display_offset
        (record { switches = same-switches i; lines = listed_lines (same-group_source group i); labels = group })) (same-width gs i)

    -- a group's part of the picture is of the same source, under the same name
    same-section : (n k : ℕ) (group : List LabelInfo) → NameOneOffset group → section_of w r n (k, group) ≡ section_of v q n (k, group)
    unfolding section_of
    same-section n k group place = λ i. record {
      sheet = record { switches = same-switches i; lines = listed_lines (same-group_source group i); labels = group };
      name = unwrap_or (option_and_then (same.names i) (same-group_id group i)) (codes "<unknown>");
      display_offset = (same-group_source group i).display_offset;
      header_offset = place i;
      is_first = k == 0;
      is_last = k + 1 == n;
    }

    -- the rows of the same groups
    same-rows : (gs : List (List LabelInfo)) → AllByRecursion NameOneOffset gs → rows_of w r gs ≡ rows_of v q gs
    same-rows gs places =
        joined-enumerated_same NameOneOffset
        (λ e. section_rows (texts_of r) (number_width w r gs) (section_of w r (length gs) e))
        (λ e. section_rows (texts_of q) (number_width v q gs) (section_of v q (length gs) e))
        (λ k group place. λ i. section_rows (same.texts i) (same-width gs i) (same-section (length gs) k group place i)) 0 gs places

    -- the outline is the header and the rows of the groups, and both are the same
    pub same-outline : (infos : List LabelInfo) → AllByRecursion NameOneOffset (groups w r infos) → outline w r infos ≡ outline v q infos
    same-outline infos places =
        outline-is w r infos
        ∙ (λ i. header_pieces (same.texts i) ∷ (same-rows (groups w r infos) places ∙ ap (rows_of v q) (same-groups infos)) i)
        ∙ sym (outline-is v q infos)
