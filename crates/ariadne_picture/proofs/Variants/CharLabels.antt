-- Each label that is drawn is accepted as the very same one in the report whose offsets are in characters,
-- so a report whose offsets count bytes draws as that one.
use Rattle.std.proofs.Common.{◌≡◌, ℕ, ◌+◌, ◌≤◌, min, nat_lt, ◌||◌, List, Option, Some, None, length, chars}
use Rattle.std.proofs.Common.{refl, sym, ap, ◌∙◌, subst, arith, slice_get, unwrap_or}
use Rattle.std.proofs.lemmas.Bool.{cond_both, or_parts, ltb-false, le-ltb}
use Rattle.ariadne_base.specs.Listing.{Listing, listed_lines}
use Rattle.ariadne_picture.specs.declared.switches.IndexType.{IndexType}
use Rattle.ariadne_picture.specs.declared.switches.IndexType.TheVariants.{Char}
use Rattle.ariadne_picture.specs.declared.verdict.Verdict.TheVariants.{Accepted, PastSource}
use Rattle.ariadne_picture.specs.declared.label_info.LabelInfo.{LabelInfo}
use Rattle.ariadne_picture.specs.Report.{ConfigFields, LabelFields, ReportFields, World, HaveOneSource}
use Rattle.ariadne_picture.specs.Accept.{text_len, offset_in_chars, info_of, within, verdict, verdict_in, IsAccepted, AreAccepted}
use Rattle.ariadne_picture.specs.Variants.{text_of, in_chars, char_world, verdict_at, char_report, BytesDrawAsCharacters}
use Rattle.ariadne_picture.proofs.Lists.ListFacts.{all-weaker}
use Rattle.ariadne_picture.proofs.Labels.DrawnLabels.{offset-order}
use Rattle.ariadne_picture.proofs.Variants.Bytes.{same-canvas}

-- ---- one label

-- what a label's ends are in characters of its source, and the info that it has over them
record IsOver {S : Type 0} (config : ConfigFields) (source : Listing) (k : ℕ) (label : LabelFields S) (start end : ℕ) (a : LabelInfo)
    : Type 0 where
  start_is : offset_in_chars config.index_type (chars source.text) start ≡ Some a.start
  end_is : offset_in_chars config.index_type (chars source.text) (min end (text_len config.index_type (chars source.text))) ≡ Some a.end
  starts : a.start ≤ length (chars source.text)
  ends : a.end ≤ length (chars source.text)
  is : info_of config.label_attach (listed_lines source) k label a.start a.end ≡ a

-- an offset that lies in a text lies in it in characters too
in-text : (index : IndexType) (text : List ℕ) (o n : ℕ) → o ≤ text_len index text → offset_in_chars index text o ≡ Some n → n ≤ length text
in-text index text o n low e = (offset-order index text o o n n (omega arith) low e e).1

-- what is accepted is so: both its ends are offsets of the source
accepted-over : {S : Type 0} (config : ConfigFields) (source : Listing) (k : ℕ) (label : LabelFields S) (start end : ℕ) (a : LabelInfo)
    → verdict config source k label start end ≡ Accepted a → IsOver config source k label start end a
unfolding verdict within info_of
accepted-over {S} config source k label start end a =
    let size = text_len config.index_type (chars source.text) in
    cond_both (nat_lt size start || nat_lt (size + 1) end) PastSource
    (within config.label_attach (listed_lines source) k label (at start) (at (min end size)))
    (λ v. v ≡ Accepted a → IsOver config source k label start end a) (λ _ e. cc)
    (λ off. let low = ltb-false size start (or_parts (nat_lt size start) (nat_lt (size + 1) end) off).0 in
    both (at start) (at (min end size)) refl refl (λ n. in-text _ _ start n low) (λ n. in-text _ _ (min end size) n (omega arith)))
  where
    at : ℕ → Option ℕ
    at o = offset_in_chars config.index_type (chars source.text) o

    both : (x y : Option ℕ) → at start ≡ x → at (min end (text_len config.index_type (chars source.text))) ≡ y
        → ((n : ℕ) → x ≡ Some n → n ≤ length (chars source.text)) → ((n : ℕ) → y ≡ Some n → n ≤ length (chars source.text))
        → within config.label_attach (listed_lines source) k label x y ≡ Accepted a → IsOver config source k label start end a
    both None y u v f g e = cc
    both (Some n) None u v f g e = cc
    both (Some n) (Some m) u v f g e =
        let same : info_of config.label_attach (listed_lines source) k label n m ≡ a = cc in
        subst (IsOver config source k label start end) same (record { start_is = u; end_is = v; starts = f n refl; ends = g m refl; is = refl })

-- where offsets count characters it is accepted by its ends, since they lie in the source
over-accepted : {S : Type 0} (config : ConfigFields) (source : Listing) (k : ℕ) (label : LabelFields S) (start end : ℕ) (a : LabelInfo)
    → IsOver config source k label start end a → verdict (record config { index_type = Char }) source k label a.start a.end ≡ Accepted a
unfolding verdict within text_len offset_in_chars
over-accepted config source k label start end a over =
    let size : ℕ = length (chars source.text) in
    let starts = over.starts in
    let ends = over.ends in
    let end : min a.end size ≡ a.end = omega arith in
    rw (le-ltb size a.start starts, le-ltb (size + 1) a.end (omega arith), end) (ap Accepted over.is)

-- and it has the position that it was judged at
pub accepted-position : {S : Type 0} (config : ConfigFields) (source : Listing) (k : ℕ) (label : LabelFields S) (start end : ℕ) (a : LabelInfo)
    → verdict config source k label start end ≡ Accepted a → a.position ≡ k
unfolding info_of
accepted-position config source k label start end a e = sym (ap (λ b. b.position) (accepted-over config source k label start end a e).is)

-- ---- all labels, by their numbers

module _ {S Id : Type 0} (w : World S Id) (r : ReportFields S) where
  -- a label is accepted as it is in the report in characters
  abbrev IsKept : LabelInfo → Type 0
  IsKept a = verdict_at (char_world w r) (char_report w r) a.position ≡ Some (Accepted a)

  -- an accepted label is so: there it has the ends that it was accepted with
  one-kept : (k : ℕ) (label : LabelFields S) (source : Listing) (a : LabelInfo) → slice_get r.labels k ≡ Some label
      → w.source_of (w.id_of label.span) ≡ Some source → verdict_in w r.config k label source ≡ Accepted a → IsKept a
  unfolding info_of text_of in_chars
  one-kept k label source a there held e =
      let over = accepted-over r.config source k label (w.start_of label.span) (w.end_of label.span) a e in
      let position : a.position ≡ k = sym (ap (λ b. b.position) over.is) in
      let index = r.config.index_type in
      let text : text_of w r label.span ≡ chars source.text = rw held refl in
      let start : (char_world w r).start_of label.span ≡ a.start =
      ap (λ t. unwrap_or (offset_in_chars index t (w.start_of label.span)) (w.start_of label.span)) text
      ∙ ap (λ o. unwrap_or o (w.start_of label.span)) over.start_is in
      let end : (char_world w r).end_of label.span ≡ a.end =
      ap (λ t. unwrap_or (offset_in_chars index t (min (w.end_of label.span) (text_len index t))) (w.end_of label.span)) text
      ∙ ap (λ o. unwrap_or o (w.end_of label.span)) over.end_is in
      let kept : verdict_at (char_world w r) (char_report w r) k ≡ Some (Accepted a) =
      rw (there, held)
      ((λ i. Some (verdict (record r.config { index_type = Char }) source k label (start i) (end i)))
      ∙ ap Some (over-accepted r.config source k label (w.start_of label.span) (w.end_of label.span) a over)) in
      subst (λ n. verdict_at (char_world w r) (char_report w r) n ≡ Some (Accepted a)) (sym position) kept

-- ---- the report

-- bytes draw as characters: each drawn label is accepted, and the canvas is the same where the own start is a boundary
pub bytes-draw : {S Id : Type 0} (w : World S Id) (r : ReportFields S) (infos : List LabelInfo) → AreAccepted w r infos → HaveOneSource w
    → BytesDrawAsCharacters w r infos
bytes-draw w r infos accepted law = record {
  labels = all-weaker (IsAccepted w r) (IsKept w r) infos (λ a d. one-kept w r a.position d.label d.source a d.there d.is_held d.accepted) accepted.each;
  cells = same-canvas w r infos law;
}
