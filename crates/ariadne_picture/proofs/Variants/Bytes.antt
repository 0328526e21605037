-- A report whose offsets count bytes has the canvas of the report with the same offsets in characters,
-- where its own start is a boundary of each source that a header looks it up in.
use Rattle.std.proofs.Common.{◌≡◌, ℕ, zero, suc, ◌+◌, ◌<◌, ◌≤◌, Bool, true, false, List, [], ◌∷◌, ◌++◌, Option, Some, None, is_some, map, length, take, drop, find, refl}
use Rattle.std.proofs.Common.{sym, ap, ◌∙◌, subst, arith, ◌==◌, inl, inr, slice_get, unwrap_or, option_and_then, option_map, chars}
use Rattle.std.specs.List.{range_with_len}
use Rattle.std.proofs.Math.Utf8.{encodes}
use Rattle.std.proofs.lemmas.Bool.{cases_Bool, eqb-true, le-leb, false≢true}
use Rattle.std.proofs.lemmas.List.{length-append, take-append-drop}
use Rattle.std.proofs.lemmas.Str.{encodes-append}
use Rattle.ariadne_base.specs.Listing.{Listing}
use Rattle.ariadne_base.specs.Locations.{byte_len, char_offset, upto}
use Rattle.ariadne_picture.specs.declared.switches.IndexType.{IndexType}
use Rattle.ariadne_picture.specs.declared.switches.IndexType.TheVariants.{Byte, Char}
use Rattle.ariadne_picture.specs.declared.label_info.LabelInfo.{LabelInfo}
use Rattle.ariadne_picture.specs.Report.{ReportFields, World, HaveOneSource}
use Rattle.ariadne_picture.specs.Accept.{text_len, offset_in_chars}
use Rattle.ariadne_picture.specs.Canvas.{palette_of, cell_of, canvas, is_same_id, group_id, group_source, header_offset, groups, texts_of}
use Rattle.ariadne_picture.specs.Variants.{text_of, in_chars, char_world, char_report, OwnStartIsBoundary}
use Rattle.ariadne_picture.proofs.Lists.ListFacts.{all-weaker, none≢some}
use Rattle.ariadne_picture.proofs.Variants.Outlines.{header_start, ReadTheSame, same-own, same-group_source, same-outline}

-- ---- offsets

-- what is found passes the test
found-passes : {X : Type 0} (test : X → Bool) (xs : List X) (x : X) → find test xs ≡ Some x → test x ≡ true
found-passes test [] x e = absurd (none≢some x e)
found-passes test (y ∷ ys) x e = elim (cases_Bool (test y)) [
  | inl on ↦ let found : find test (y ∷ ys) ≡ Some y = rw on in let same : y ≡ x = cc in subst (λ z. test z ≡ true) same on
  | inr off ↦ let later : find test (y ∷ ys) ≡ find test ys = rw off in found-passes test ys x (sym later ∙ e)
]

-- what is found among numbers is one of them
upto-finds : (test : ℕ → Bool) (a n k : ℕ) → find test (range_with_len a n) ≡ Some k → k < a + n
upto-finds test a zero k e = absurd (none≢some k e)
upto-finds test a (suc n) k e = elim (cases_Bool (test a)) [
  | inl on ↦ let found : find test (range_with_len a (suc n)) ≡ Some a = rw on in let same : a ≡ k = cc in omega arith
  | inr off ↦
      let later : find test (range_with_len a (suc n)) ≡ find test (range_with_len (a + 1) n) = rw off in
      let below = upto-finds test (a + 1) n k (sym later ∙ e) in
      omega arith
]

-- something that is there
is_some-it : {X : Type 0} (x : Option X) → is_some x ≡ true → (it : X) × (x ≡ Some it)
is_some-it None e = absurd (false≢true e)
is_some-it (Some it) e = (it, refl)

-- a part of a text has no more bytes than the text
part-bytes : (n : ℕ) (text : List ℕ) → byte_len (take n text) ≤ byte_len text
part-bytes n text =
    let parts = ap length (encodes-append (take n text) (drop n text)) ∙ length-append (encodes (take n text)) (encodes (drop n text)) in
    let whole : byte_len (take n text ++ drop n text) ≡ byte_len text = ap byte_len (take-append-drop n text) in
    omega arith

-- an offset in bytes that lies inside no character is no greater than the text: it is the bytes of a part of it
pub start-within : (text : List ℕ) (start in_chars : ℕ) → char_offset text start ≡ Some in_chars
    → (start ≤ byte_len text) × (in_chars ≤ length text)
unfolding char_offset
start-within text start n found =
    let passes = found-passes (λ n. byte_len (take n text) == start) (upto (suc (length text))) n found in
    let same = eqb-true (byte_len (take n text)) start passes in
    let part = part-bytes n text in
    let low = upto-finds (λ n. byte_len (take n text) == start) 0 (suc (length text)) n found in
    (omega arith, omega arith)

-- so a header that looks for it names the same as one that counts characters
same-start : (is_own : Bool) (index : IndexType) (text : List ℕ) (start in_chars : ℕ) (first : Option ℕ)
    → (is_own ≡ true → offset_in_chars index text start ≡ Some in_chars)
    → header_start is_own index text start first ≡ header_start is_own Char text in_chars first
unfolding offset_in_chars text_len
same-start true Char text start n first own = let is : Some start ≡ Some n = own refl in let same : start ≡ n = cc in rw same refl
same-start true Byte text start n first own =
    let is : char_offset text start ≡ Some n = own refl in
    let within = start-within text start n is in
    rw (le-leb start (byte_len text) within.0, le-leb n (length text) within.1) is
same-start false index text start n first own = refl

-- ---- the report

module _ {S Id : Type 0} (w : World S Id) (r : ReportFields S) where
  -- the offsets and what they count are no part of what an outline reads
  read-alike : ReadTheSame w (char_world w r) r (char_report w r)
  unfolding texts_of
  read-alike = record {
    texts = refl;
    label_ids = refl;
    ids = refl;
    names = refl;
    sources = refl;
  }

  -- whether a group is over the source of the report's own span
  abbrev is_own : List LabelInfo → Bool
  is_own group = is_same_id w r (group_id w r group) (Some (w.id_of r.span))

  -- the characters of a source, or of none
  abbrev chars_of : Option Listing → List ℕ
  chars_of held = chars (unwrap_or held (record { text = []; display_offset = 0 })).text

  module _ (law : (p q : Id) → w.is_same p q ≡ true → w.source_of p ≡ w.source_of q) where
    -- an id that is the same as the report's own holds the same source
    own-source : (id : Option Id) → is_same_id w r id (Some (w.id_of r.span)) ≡ true → option_and_then w.source_of id ≡ w.source_of (w.id_of r.span)
    unfolding is_same_id
    own-source None e = absurd (false≢true e)
    own-source (Some p) e = law p (w.id_of r.span) e

    -- so the text of a group over that source is that of the report's own span
    own-text : (group : List LabelInfo) → is_own group ≡ true → text_of w r r.span ≡ chars (group_source w r group).text
    unfolding text_of group_source
    own-text group own = rw (own-source (group_id w r group) own) (text-held (w.source_of (w.id_of r.span)))
      where
        text-held : (held : Option Listing) → chars (unwrap_or (option_map (λ (s : Listing). s.text) held) []) ≡ chars_of held
        text-held None = refl
        text-held (Some source) = refl

    -- where the own start lies inside no character, it is that one of the group's source too
    boundary-start : (group : List LabelInfo) → is_own group ≡ true → is_some (in_chars w r r.span (w.start_of r.span)) ≡ true
        → offset_in_chars r.config.index_type (chars (group_source w r group).text) (w.start_of r.span)
        ≡ Some (unwrap_or (in_chars w r r.span (w.start_of r.span)) (w.start_of r.span))
    unfolding in_chars
    boundary-start group own there =
        let it = is_some-it (offset_in_chars r.config.index_type (text_of w r r.span) (w.start_of r.span)) there in
        rw it.1 (sym (ap (λ text. offset_in_chars r.config.index_type text (w.start_of r.span)) (own-text group own)) ∙ it.1)

    -- so both headers name the own start there, and elsewhere the start of the first label
    same-header : (group : List LabelInfo) → (is_own group ≡ true → is_some (in_chars w r r.span (w.start_of r.span)) ≡ true)
        → header_offset w r group ≡ header_offset (char_world w r) (char_report w r) group
    unfolding header_offset
    same-header group boundary =
        let text = chars (group_source w r group).text in
        let own_start : ℕ = unwrap_or (in_chars w r r.span (w.start_of r.span)) (w.start_of r.span) in
        let first : Option ℕ = option_map (λ (a : LabelInfo). a.start) (slice_get group 0) in
        let own = same-own w (char_world w r) r (char_report w r) read-alike group (Some (w.id_of r.span)) in
        let source = same-group_source w (char_world w r) r (char_report w r) read-alike group in
        same-start (is_own group) r.config.index_type text (w.start_of r.span) own_start first (λ own. boundary-start group own (boundary own))
        ∙ (λ i. header_start (own i) Char (chars (source i).text) own_start first)

  -- the pieces are the same, and the labels have their colours
  pub same-canvas : (infos : List LabelInfo) → HaveOneSource w → OwnStartIsBoundary w r infos
      → canvas w r infos ≡ canvas (char_world w r) (char_report w r) infos
  unfolding canvas
  same-canvas infos law boundaries =
      let headers = all-weaker _ _ (groups w r infos) (same-header law) boundaries in
      let outlines = same-outline w (char_world w r) r (char_report w r) read-alike infos headers in
      λ i. map (map (cell_of (palette_of r))) (outlines i)
