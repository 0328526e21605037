-- A group as it is drawn: what its first label tells of it, and its rows, part by part.
use Rattle.std.proofs.Common.{◌≡◌, ℕ, ◌+◌, ◌<◌, ◌≤◌, min, ◌==◌, ◌||◌, List, [], ◌∷◌, Option, Some, None, length, get_or}
use Rattle.std.proofs.Common.{refl, sym, ap, ◌∙◌, subst, arith, inl, inr, Bor}
use Rattle.std.specs.Prelude.{IsSome, chars, codes, nat_lt, option_and_then, slice_get, unwrap_or}
use Rattle.std.specs.Option.{option_copied}
use Rattle.std.proofs.lemmas.Bool.{cases_Bool, or_parts, ltb-false}
use Rattle.std.proofs.lemmas.Option.{slice_get-get_or}
use Rattle.ariadne_base.specs.Lines.{lines_of}
use Rattle.ariadne_base.specs.Listing.{Listing, listed_lines}
use Rattle.ariadne_picture.specs.declared.label_info.LabelInfo.{LabelInfo}
use Rattle.ariadne_picture.specs.declared.verdict.Verdict.TheVariants.{Accepted}
use Rattle.ariadne_picture.specs.Accept.{info_of, offset_in_chars, text_len, verdict, within}
use Rattle.ariadne_picture.specs.Accept.{IsAccepted}
use Rattle.ariadne_picture.specs.Canvas.{group_id, group_source, header_offset, section_of, texts_of}
use Rattle.ariadne_picture.specs.Pieces.{Texts}
use Rattle.ariadne_picture.specs.Report.{ConfigFields, LabelFields, ReportFields, World, switches_of}
use Rattle.ariadne_picture.proofs.Labels.DrawnLabels.{offset-order}
use Rattle.ariadne_layout.specs.Snippets.{snippet_of}
use Rattle.ariadne_report.specs.CacheReads.{AreDrawn}
use Rattle.ariadne_report.proofs.Grouping.{all_at}
use Rattle.ariadne_report.proofs.GroupingSources.{drawn_there, found_source, id_is, label_there, source_is}

-- ---- the first label of a group

module _ {S : Type 0} (config : ConfigFields) (source : Listing) (k : ℕ) (label : LabelFields S) (a : LabelInfo) where
  -- a label that both its ends make starts within its source
  start_within : (o : ℕ) → o ≤ text_len config.index_type (chars source.text) → (x y : Option ℕ)
      → offset_in_chars config.index_type (chars source.text) o ≡ x → within config.label_attach (listed_lines source) k label x y ≡ Accepted a
      → a.start ≤ length (chars source.text)
  unfolding within info_of
  start_within o few (Some n) (Some m) at e =
      let low = (offset-order config.index_type (chars source.text) o o n n (omega arith) few at at).1 in
      let same : info_of config.label_attach (lines_of (chars source.text)) k label n m ≡ a = cc in
      let start : n ≡ a.start = ap (λ (b : LabelInfo). b.start) same in
      omega arith
  start_within o few (Some n) None at e = cc
  start_within o few None (Some m) at e = cc
  start_within o few None None at e = cc

  -- a label that a source accepts starts within it
  accepted_start : (start end : ℕ) → verdict config source k label start end ≡ Accepted a → a.start ≤ length (chars source.text)
  unfolding verdict
  accepted_start start end e =
      let size = text_len config.index_type (chars source.text) in
      elim (cases_Bool (nat_lt size start || nat_lt (size + 1) end)) [
        | inl past ↦ absurd (let f = rw past at e in cc)
        | inr inside ↦
            let low = ltb-false size start (or_parts (nat_lt size start) (nat_lt (size + 1) end) inside).0 in
            start_within start (omega arith) (offset_in_chars config.index_type (chars source.text) start)
            (offset_in_chars config.index_type (chars source.text) (min end size)) refl (rw inside at e)
      ]

-- what has a copy is there
copied_some : (o : Option (Bor Listing)) (source : Listing) → option_copied o ≡ Some source → IsSome o
copied_some None source e = cc
copied_some (Some a) source e = refl

-- a text, or another in place of none
pub copied_or : (o : Option (Bor (List ℕ))) (b : Bor (List ℕ)) → (unwrap_or o b).now ≡ unwrap_or (option_copied o) b.now
copied_or None b = refl
copied_or (Some a) b = refl

module _ {S Id : Type 0} (w : World S Id) (r : ReportFields S) where
  -- the first label of a group, the id that its span names, and the source that is found for it
  pub record IsFirst (labels : List LabelInfo) (info : LabelInfo) (id : Id) (source : Listing) : Type 0 where
    pub first : slice_get labels 0 ≡ Some info
    pub named : group_id w r labels ≡ Some id
    pub over : group_source w r labels ≡ source
    pub starts : info.start ≤ length (chars source.text)

  -- the source of a group is that of its first label
  first_source : (labels : List LabelInfo) (a : LabelInfo) (d : IsAccepted w r a) → slice_get labels 0 ≡ Some a → group_source w r labels ≡ d.source
  first_source [] a d e = cc
  first_source (x ∷ labels) a d e = let same : x ≡ a = cc in ap (λ y. group_source w r (y ∷ labels)) same ∙ source_is w r a labels d

  -- and so is its id
  first_id : (labels : List LabelInfo) (a : LabelInfo) (x : LabelFields S) → slice_get labels 0 ≡ Some a → slice_get r.labels a.position ≡ Some x
      → group_id w r labels ≡ Some (w.id_of x.span)
  unfolding group_id
  first_id [] a x e there = cc
  first_id (b ∷ labels) a x e there = let same : b ≡ a = cc in ap (λ y. group_id w r (y ∷ labels)) same ∙ id_is w r a.position x there

  -- so they are, as the code finds them
  pub first_is : (labels listed : List LabelInfo) (nothing : LabelInfo) → listed ≡ labels → 0 < length labels → AreDrawn w r labels
      → (all : List (LabelFields S)) (x : LabelFields S) → all ≡ r.labels → x ≡ get_or all (get_or listed 0 nothing).position x
      → (id : Id) → id ≡ w.id_of x.span → (o : Option Listing) → o ≡ w.source_of id → (source : Listing) → o ≡ Some source
      → IsFirst labels (get_or listed 0 nothing) id source
  first_is labels listed nothing same some drawn all x are at id is o get source found =
      let info : LabelInfo = get_or listed 0 nothing in
      let info_is : get_or labels 0 nothing ≡ info = ap (λ (ls : List LabelInfo). get_or ls 0 nothing) (sym same) in
      let d : IsAccepted w r info = subst (IsAccepted w r) info_is (all_at (IsAccepted w r) labels 0 nothing some drawn) in
      let low : info.position < length r.labels =
      subst (λ (a : LabelInfo). a.position < length r.labels) info_is
      (all_at (λ (a : LabelInfo). a.position < length r.labels) labels 0 nothing some (drawn_there w r labels drawn)) in
      let there : slice_get r.labels info.position ≡ Some x = label_there w r info.position all x are at low in
      let first : slice_get labels 0 ≡ Some info = slice_get-get_or labels 0 nothing some ∙ ap Some info_is in
      let over : d.source ≡ source = found_source w r info d x there id is o get source found in
      record {
        first = first;
        named = first_id labels info x first there ∙ ap Some (sym is);
        over = first_source labels info d first ∙ over;
        starts =
            subst (λ (s : Listing). info.start ≤ length (chars s.text)) over
            (accepted_start r.config d.source info.position d.label info (w.start_of d.label.span) (w.end_of d.label.span) d.accepted);
      }

  -- a source is found for the first label
  pub first_found : (labels : List LabelInfo) (nothing : LabelInfo) → 0 < length labels → AreDrawn w r labels
      → (all : List (LabelFields S)) (x : LabelFields S) → all ≡ r.labels → x ≡ get_or all (get_or labels 0 nothing).position x
      → (id : Id) → id ≡ w.id_of x.span → (o : Option (Bor Listing)) → option_copied o ≡ w.source_of id → IsSome o
  first_found labels nothing some drawn all x are at id is o get =
      let info : LabelInfo = get_or labels 0 nothing in
      let d : IsAccepted w r info = all_at (IsAccepted w r) labels 0 nothing some drawn in
      let low : info.position < length r.labels =
      all_at (λ (a : LabelInfo). a.position < length r.labels) labels 0 nothing some (drawn_there w r labels drawn) in
      let label : Some d.label ≡ Some x = sym d.there ∙ label_there w r info.position all x are at low in
      let same : x ≡ d.label = cc in
      copied_some o d.source (get ∙ ap w.source_of is ∙ ap (λ (y : LabelFields S). w.source_of (w.id_of y.span)) same ∙ d.is_held)

  -- what a group is called
  pub section_name : (labels : List LabelInfo) (id : Id) → group_id w r labels ≡ Some id → (o : Option (Bor (List ℕ)))
      → option_copied o ≡ w.name_of id → (unknown name : Bor (List ℕ)) → unknown.now ≡ codes "<unknown>" → name ≡ unwrap_or o unknown
      → name.now ≡ unwrap_or (option_and_then w.name_of (group_id w r labels)) (codes "<unknown>")
  section_name labels id named o e unknown name none is =
      ap (λ (b : Bor (List ℕ)). b.now) is ∙ copied_or o unknown ∙ (λ i. unwrap_or (e i) (none i))
      ∙ ap (λ i. unwrap_or (option_and_then w.name_of i) (codes "<unknown>")) (sym named)

  -- a group within the picture has the report's switches
  pub section_switches : (n k : ℕ) (labels : List LabelInfo) → (section_of w r n (k, labels)).sheet.switches ≡ switches_of r.config
  unfolding section_of
  section_switches n k labels = refl

  -- its own labels
  pub section_labels : (n k : ℕ) (labels : List LabelInfo) → (section_of w r n (k, labels)).sheet.labels ≡ labels
  unfolding section_of
  section_labels n k labels = refl

  -- and the lines of its source
  pub section_lines : (n k : ℕ) (labels : List LabelInfo) → (section_of w r n (k, labels)).sheet.lines ≡ listed_lines (group_source w r labels)
  unfolding section_of
  section_lines n k labels = refl

  -- a snippet of its texts, its source and its labels is that of the group within the picture
  pub section_is : (n k : ℕ) (labels : List LabelInfo) (texts : Texts) (source : Listing) (name : List ℕ) (offset : Option ℕ)
      → texts ≡ texts_of r → source ≡ group_source w r labels
      → name ≡ unwrap_or (option_and_then w.name_of (group_id w r labels)) (codes "<unknown>") → offset ≡ header_offset w r labels
      → snippet_of texts source name labels offset (k == 0) (k + 1 == n) ≡ record { texts = texts_of r; section = section_of w r n (k, labels) }
  unfolding section_of texts_of
  section_is n k labels texts source name offset t s m o = λ i. snippet_of (t i) (s i) (m i) labels (o i) (k == 0) (k + 1 == n)
