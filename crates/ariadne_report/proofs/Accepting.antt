-- What judging a label computes, over plain variables.
use Rattle.std.proofs.Common.{◌≡◌, ℕ, ◌+◌, ◌-◌, ◌/◌, ◌<◌, ◌≤◌, Bool, true, false, ◌||◌, List, length, min, refl, sym, ◌∙◌, ap, arith, ℤ, ◌⊎◌}
use Rattle.std.proofs.Common.{subst, Bor, Option, Some, None, inl, inr}
use Rattle.std.specs.Prelude.{nat_lt, is_some, IfSome, option_copied, chars}
use Rattle.std.proofs.lemmas.Bool.Decides.{nat_tests}
use Rattle.ariadne_base.specs.Locations.{line_at, column_at}
use Rattle.ariadne_base.specs.Ranges.{last_offset}
use Rattle.ariadne_base.specs.Table.{LineExtent, location_of}
use Rattle.ariadne_base.specs.Listing.{Listing, listed_lines}
use Rattle.ariadne_picture.specs.declared.switches.IndexType.{IndexType}
use Rattle.ariadne_picture.specs.declared.switches.LabelAttach.{LabelAttach}
use Rattle.ariadne_picture.specs.declared.verdict.Verdict.TheVariants.{Accepted, PastSource, CutsCharacter}
use Rattle.ariadne_picture.specs.declared.label_info.LabelInfo.{LabelInfo}
use Rattle.ariadne_picture.specs.Report.{ConfigFields, LabelFields}
use Rattle.ariadne_picture.specs.Accept.{text_len, offset_in_chars, attach_offset, info_of, within, verdict}
use Rattle.ariadne_picture.proofs.Labels.DrawnLabels.{offset-order}
use Rattle.ariadne_report.proofs.Locating.{line_begins, place_column, place_line, place_number}

-- halfway between two offsets, in a form that does not overflow
pub halfway : (a b : ℕ) → a ≤ b → a + (b - a) / 2 ≡ (a + b) / 2
halfway a b h = omega arith

-- ---- one label

-- an accepted label from its parts
pub info_is : {S : Type 0} (attach : LabelAttach) (ls : List (List ℕ)) (k : ℕ) (label : LabelFields S) (start end last : ℕ)
    (r : LineExtent) (n c m d a t : ℕ) (order priority : ℤ) (has_message : Bool)
    → (r, n, c) ≡ location_of length ls start → last ≡ last_offset start end → m ≡ line_at length ls last → d ≡ column_at length ls last
    → a ≡ attach_offset attach start end → t ≡ a - r.offset
    → order ≡ label.order → priority ≡ label.priority → has_message ≡ is_some label.message
    → record {
      position = k;
      start = start;
      end = end;
      start_line = n;
      start_place = c;
      end_line = m;
      end_place = d;
      attach = t;
      order = order;
      priority = priority;
      has_message = has_message;
    }
    ≡ info_of attach ls k label start end
unfolding info_of
info_is attach ls k label start end last r n c m d a t order priority has_message p l q v e u f g h =
    let e1 = place_number length ls start r n c p in
    let e2 = place_column length ls start r n c p in
    let e3 = q ∙ ap (line_at length ls) l in
    let e4 = v ∙ ap (column_at length ls) l in
    let e5 = line_begins ls r (line_at length ls start) (place_line length ls start r n c p) in
    rw (e1, e2, e3, e4, u, e5, e, f, g, h) refl

-- ---- verdicts

-- the test of the two ends finds one that is past the source
past_test : (n start end : ℕ) → (n < start) ⊎ (n + 1 < end) → (nat_lt n start || nat_lt (n + 1) end) ≡ true
past_test n start end h = grind (arith, nat_tests)

-- it finds none
within_test : (n start end : ℕ) → start ≤ n → end ≤ n + 1 → (nat_lt n start || nat_lt (n + 1) end) ≡ false
within_test n start end h k = grind (arith, nat_tests)

-- a label from start to end, where offsets count as the index type says, and the source is so long in them
module _ {S : Type 0} (config : ConfigFields) (source : Listing) (k : ℕ) (label : LabelFields S) (start end : ℕ) (index : IndexType) (size first last : ℕ)
    (counts : index ≡ config.index_type) (sized : size ≡ text_len config.index_type (chars source.text)) (starts : first ≡ start) (ends : last ≡ end) where
  -- the source in characters
  abbrev text : List ℕ
  text = chars source.text

  -- an end is past the source
  pub verdict_past : (size < first) ⊎ (1 < last - size) → PastSource ≡ verdict config source k label start end
  unfolding verdict
  verdict_past (inl h) = let e = sized in let test = past_test (text_len config.index_type text) start end (inl (omega arith)) in rw test refl
  verdict_past (inr h) = let e = sized in let test = past_test (text_len config.index_type text) start end (inr (omega arith)) in rw test refl

  module _ (low : first ≤ size) (high : last - size ≤ 1) where
    -- none is, so both ends in characters decide
    verdict_inside : within config.label_attach (listed_lines source) k label (offset_in_chars index text first)
        (offset_in_chars index text (min last size)) ≡ verdict config source k label start end
    unfolding verdict
    verdict_inside =
        let e = sized in
        let test = within_test (text_len config.index_type text) start end (omega arith) (omega arith) in
        rw (test, ← starts, ← ends, ← e, ← counts) refl

    -- its start lies inside a character
    pub verdict_cut_start : None ≡ offset_in_chars index text first → CutsCharacter ≡ verdict config source k label start end
    unfolding within
    verdict_cut_start none =
        ap (λ o. within config.label_attach (listed_lines source) k label o (offset_in_chars index text (min last size))) none ∙ verdict_inside

    module _ (n : ℕ) (some : Some n ≡ offset_in_chars index text first) (stop : ℕ) (stops : stop ≡ min last size) where
      -- its start is behind whole characters, so its end decides
      verdict_by_end : (o : Option ℕ) → o ≡ offset_in_chars index text stop
          → within config.label_attach (listed_lines source) k label (Some n) o ≡ verdict config source k label start end
      verdict_by_end o is =
          ap (λ o. within config.label_attach (listed_lines source) k label (Some n) o) (is ∙ ap (offset_in_chars index text) stops)
          ∙ ap (λ o. within config.label_attach (listed_lines source) k label o (offset_in_chars index text (min last size))) some ∙ verdict_inside

      -- its end lies inside a character
      pub verdict_cut_end : None ≡ offset_in_chars index text stop → CutsCharacter ≡ verdict config source k label start end
      unfolding within
      verdict_cut_end none = verdict_by_end None none

      -- and so is its end
      module _ (m : ℕ) (also : Some m ≡ offset_in_chars index text stop) where
        -- the label is accepted
        pub verdict_accepted : (attach : LabelAttach) (info : LabelInfo) → attach ≡ config.label_attach
            → info ≡ info_of attach (listed_lines source) k label n m → Accepted info ≡ verdict config source k label start end
        unfolding within
        verdict_accepted attach info same is =
            ap Accepted (is ∙ ap (λ a. info_of a (listed_lines source) k label n m) same) ∙ verdict_by_end (Some m) also

        -- then they are in order, and behind characters of the source
        pub ends_in_order : start ≤ end → (n ≤ m) × (m ≤ length text)
        ends_in_order forward =
            let e : size ≡ text_len index text = sized ∙ ap (λ i. text_len i text) (sym counts) in
            offset-order index text first stop n m (omega (arith, e)) (omega (arith, e)) (sym some) (sym also)

-- ---- results of calls

-- a fact of a value that is there
pub some_holds : {A : Type 0} (P : A → Type 0) (o : Option A) (v : A) → o ≡ Some v → IfSome o P → P v
some_holds P o v e h = subst (λ x. IfSome x P) e h

-- what a reference points to is there where the reference is
pub is_some-copied : {A : Type 0} (o : Option (Bor A)) (m : Option A) → option_copied o ≡ m → is_some o ≡ is_some m
is_some-copied None m e = ap is_some e
is_some-copied (Some x) m e = ap is_some e
