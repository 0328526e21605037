-- The offset that a group header names, as it is looked up.
use Rattle.std.proofs.Common.{◌≡◌, ℕ, ◌<◌, ◌≤◌, Bool, true, false, List, length, Option, Some, None, refl, sym, ap, ◌∙◌, arith}
use Rattle.std.proofs.Common.{inl, inr}
use Rattle.std.specs.Prelude.{IfSome, chars, nat_le, if◌then◌else◌, slice_get, option_map}
use Rattle.std.proofs.lemmas.Bool.{cases_Bool, cond_both, le-leb, leb-true}
use Rattle.ariadne_base.specs.Listing.{Listing}
use Rattle.ariadne_picture.proofs.Labels.DrawnLabels.{offset-order}
use Rattle.ariadne_picture.proofs.Variants.Bytes.{start-within}
use Rattle.ariadne_picture.specs.declared.label_info.LabelInfo.{LabelInfo}
use Rattle.ariadne_picture.specs.declared.switches.IndexType.{IndexType}
use Rattle.ariadne_picture.specs.declared.switches.IndexType.TheVariants.{Byte, Char}
use Rattle.ariadne_picture.specs.Accept.{text_len, offset_in_chars}
use Rattle.ariadne_picture.specs.Canvas.{group_id, group_source, header_offset, is_same_id}
use Rattle.ariadne_picture.specs.Report.{ReportFields, World}
use Rattle.ariadne_report.specs.HeaderPlaces.{own_offset}

-- an offset between two characters of a text is no greater than the text
start_fits : (index : IndexType) (text : List ℕ) (start o : ℕ) → offset_in_chars index text start ≡ Some o → o ≤ length text → start ≤ text_len index text
unfolding offset_in_chars text_len
start_fits Char text start o found few = let is : Some start ≡ Some o = found in let same : start ≡ o = cc in omega (arith, same, few)
start_fits Byte text start o found few = (start-within text start o found).0

module _ {S Id : Type 0} (w : World S Id) (r : ReportFields S) (source : Listing) where
  -- an own start that lies inside a character has no location
  pub own_none : None ≡ offset_in_chars r.config.index_type (chars source.text) (w.start_of r.span) → own_offset w r source ≡ None
  unfolding own_offset
  own_none f =
      let none : Option ℕ = None in
      ap (λ (o : Option ℕ). if nat_le (w.start_of r.span) (text_len r.config.index_type (chars source.text)) then o else None) (sym f)
      ∙ cond_both (nat_le (w.start_of r.span) (text_len r.config.index_type (chars source.text))) none none (λ (o : Option ℕ). o ≡ None) (λ _. refl)
      (λ _. refl)

  -- an own start between two characters, or past the source, where the offset of it is at most that
  pub own_past : (o : ℕ) → offset_in_chars r.config.index_type (chars source.text) (w.start_of r.span) ≡ Some o → length (chars source.text) < o
      → own_offset w r source ≡ None
  unfolding own_offset
  own_past o f past =
      let start = w.start_of r.span in
      let t = chars source.text in
      elim (cases_Bool (nat_le start (text_len r.config.index_type t))) [
        | inl few ↦
            let least : start ≤ text_len r.config.index_type t = leb-true start (text_len r.config.index_type t) few in
            let within = (offset-order r.config.index_type t start start o o (omega arith) least f f).1 in
            absurd (omega arith)
        | inr many ↦ ap (λ (b : Bool). if b then offset_in_chars r.config.index_type t start else None) many
      ]

  -- within the source it is the offset
  own_some : (o : ℕ) → offset_in_chars r.config.index_type (chars source.text) (w.start_of r.span) ≡ Some o
      → nat_le (w.start_of r.span) (text_len r.config.index_type (chars source.text)) ≡ true → own_offset w r source ≡ Some o
  unfolding own_offset
  own_some o f few =
      ap (λ (b : Bool). if b then offset_in_chars r.config.index_type (chars source.text) (w.start_of r.span) else None) few ∙ f

  -- so it is where that is no greater than the source
  pub own_found : (o : ℕ) → Some o ≡ offset_in_chars r.config.index_type (chars source.text) (w.start_of r.span) → o ≤ length (chars source.text)
      → Some o ≡ own_offset w r source
  own_found o f few =
      sym (own_some o (sym f) (le-leb _ _ (start_fits r.config.index_type (chars source.text) (w.start_of r.span) o (sym f) few)))

  -- and an own start that is there is no greater
  pub own_within : (o : Option ℕ) → o ≡ own_offset w r source → IfSome o (λ n. n ≤ length (chars source.text))
  unfolding own_offset
  own_within None e = tt
  own_within (Some n) e =
      let start = w.start_of r.span in
      let t = chars source.text in
      elim (cases_Bool (nat_le start (text_len r.config.index_type t))) [
        | inl few ↦
            let found : Some n ≡ offset_in_chars r.config.index_type t start =
            e ∙ ap (λ (b : Bool). if b then offset_in_chars r.config.index_type t start else None) few in
            (offset-order r.config.index_type t start start n n (omega arith) (leb-true start (text_len r.config.index_type t) few) (sym found)
            (sym found)).1
        | inr many ↦
            let none : Some n ≡ None = e ∙ ap (λ (b : Bool). if b then offset_in_chars r.config.index_type t start else None) many in cc
      ]

module _ {S Id : Type 0} (w : World S Id) (r : ReportFields S) (group : List LabelInfo) (id : Id) (source : Listing)
    (named : group_id w r group ≡ Some id) (over : group_source w r group ≡ source) where
  -- where the report's own span is over the group's source, its start
  pub own_header : w.is_same id (w.id_of r.span) ≡ true → header_offset w r group ≡ own_offset w r source
  unfolding header_offset is_same_id own_offset
  own_header e =
      (λ i. if is_same_id w r (named i) (Some (w.id_of r.span))
      then (if nat_le (w.start_of r.span) (text_len r.config.index_type (chars (over i).text))
      then offset_in_chars r.config.index_type (chars (over i).text) (w.start_of r.span) else None)
      else option_map (λ (a : LabelInfo). a.start) (slice_get group 0))
      ∙ ap (λ (b : Bool). if b
      then (if nat_le (w.start_of r.span) (text_len r.config.index_type (chars source.text))
      then offset_in_chars r.config.index_type (chars source.text) (w.start_of r.span) else None)
      else option_map (λ (a : LabelInfo). a.start) (slice_get group 0)) e

  -- else the start of its first label
  pub other_offset : (info : LabelInfo) → slice_get group 0 ≡ Some info → w.is_same id (w.id_of r.span) ≡ false
      → header_offset w r group ≡ Some info.start
  unfolding header_offset is_same_id
  other_offset info first e =
      (λ i. if is_same_id w r (named i) (Some (w.id_of r.span))
      then (if nat_le (w.start_of r.span) (text_len r.config.index_type (chars (over i).text))
      then offset_in_chars r.config.index_type (chars (over i).text) (w.start_of r.span) else None)
      else option_map (λ (a : LabelInfo). a.start) (slice_get group 0))
      ∙ ap (λ (b : Bool). if b
      then (if nat_le (w.start_of r.span) (text_len r.config.index_type (chars source.text))
      then offset_in_chars r.config.index_type (chars source.text) (w.start_of r.span) else None)
      else option_map (λ (a : LabelInfo). a.start) (slice_get group 0)) e
      ∙ ap (option_map (λ (a : LabelInfo). a.start)) first
