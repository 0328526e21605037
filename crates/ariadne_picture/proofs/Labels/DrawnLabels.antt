-- Each drawn label lies in the lines of its group's sheet, and no two have one number.
use Rattle.std.proofs.Common.{◌≢◌, map, ◌≡◌, ℕ, zero, suc, ◌+◌, ◌<◌, ◌≤◌, min, Bool, true, false, not, ◌||◌, List, [], ◌∷◌, ◌++◌, Option, Some}
use Rattle.std.proofs.Common.{None, length, take, slice_get, refl, sym, ap, ◌∙◌, subst, arith, ◌==◌, nat_lt, inl, inr, chars, unwrap_or}
use Rattle.std.proofs.Common.{option_and_then, find, is_some}
use Rattle.std.specs.List.{AllByRecursion, range_with_len, enumerate_from}
use Rattle.std.proofs.lemmas.Bool.{cond_both, cases_Bool, cases_lt, cases_eq, true≢false, eqb-true, eq-eqb, or_parts}
use Rattle.std.proofs.lemmas.Bool.{ltb-false, not-false}
use Rattle.std.proofs.lemmas.List.{length-append}
use Rattle.std.proofs.lemmas.Str.{encodes-append}
use Rattle.std.proofs.Math.Utf8.{encodes}
use Rattle.ariadne_base.specs.Locations.{byte_len, char_offset}
use Rattle.ariadne_base.specs.Lines.{lines_of}
use Rattle.ariadne_base.specs.Listing.{Listing, listed_lines}
use Rattle.ariadne_base.proofs.LineLaws.{lines_length, some_line}
use Rattle.ariadne_picture.specs.declared.switches.IndexType.{IndexType}
use Rattle.ariadne_picture.specs.declared.switches.IndexType.TheVariants.{Byte, Char}
use Rattle.ariadne_picture.specs.declared.switches.LabelAttach.{LabelAttach}
use Rattle.ariadne_picture.specs.declared.verdict.Verdict.TheVariants.{Accepted, PastSource}
use Rattle.ariadne_picture.specs.declared.label_info.LabelInfo.{LabelInfo}
use Rattle.ariadne_picture.specs.Report.{AreForward, ConfigFields, LabelFields, ReportFields, World}
use Rattle.ariadne_picture.specs.Accept.{text_len, offset_in_chars, info_of, within, verdict, IsAccepted, AreAccepted}
use Rattle.ariadne_picture.specs.Lists.{joined}
use Rattle.ariadne_picture.specs.Groups.{ordered, is_cut, HasNoCut, AreCut, groups_of}
use Rattle.ariadne_picture.specs.Pieces.{Section}
use Rattle.ariadne_picture.specs.Canvas.{section_of, sections, label_id, is_same_id, same_source, group_id, group_source, groups}
use Rattle.ariadne_picture.proofs.Lists.Elements.{all-from, increasing-from}
use Rattle.ariadne_picture.proofs.Lists.ListFacts.{Increasing, none≢some, all-at, all-in_order}
use Rattle.ariadne_picture.proofs.Labels.Cutting.{together, groups-exist}
use Rattle.ariadne_picture.proofs.Labels.LabelPlaces.{IsPlaced, info-placed}
use Rattle.ariadne_picture.specs.Canvas.{sheet_of}

-- ---- offsets in characters

-- the first number of a range that passes a test
record FirstOf (p : ℕ → Bool) (a n k : ℕ) : Type 0 where
  passes : p k ≡ true
  above : a ≤ k
  below : k < a + n
  first : (j : ℕ) → a ≤ j → j < k → p j ≡ false

first-of : (p : ℕ → Bool) (a n k : ℕ) → find p (range_with_len a n) ≡ Some k → FirstOf p a n k
first-of p a zero k e = absurd (none≢some k e)
first-of p a (suc n) k e = elim (cases_Bool (p a)) [
  | inl on ↦ let found : find p (a ∷ range_with_len (a + 1) n) ≡ Some a = rw on in let same : a ≡ k = cc in
      record { passes = subst (λ z. p z ≡ true) same on; above = omega arith; below = omega arith; first = λ j low high. absurd (omega arith) }
  | inr off ↦
      let found : find p (a ∷ range_with_len (a + 1) n) ≡ find p (range_with_len (a + 1) n) = rw off in
      let r : FirstOf p (a + 1) n k = first-of p (a + 1) n k (sym found ∙ e) in
      let up = r.above in
      let down = r.below in
      record {
        passes = r.passes;
        above = omega arith;
        below = omega arith;
        first = λ j low high. elim (cases_eq j a) [ inl same ↦ subst (λ z. p z ≡ false) (sym same) off | inr other ↦ r.first j (omega arith) high ];
      }
]

-- more characters have no fewer bytes
bytes-grow : (t : List ℕ) (i j : ℕ) → i ≤ j → byte_len (take i t) ≤ byte_len (take j t)
bytes-grow t zero j h = omega arith
bytes-grow t (suc i) zero h = absurd (omega arith)
bytes-grow [] (suc i) (suc j) h = omega arith
bytes-grow (c ∷ t) (suc i) (suc j) h =
    let more = bytes-grow t i j (omega arith) in
    let left = ap length (encodes-append (c ∷ []) (take i t)) ∙ length-append (encodes (c ∷ [])) (encodes (take i t)) in
    let right = ap length (encodes-append (c ∷ []) (take j t)) ∙ length-append (encodes (c ∷ [])) (encodes (take j t)) in
    omega arith

-- a later offset has no fewer characters before it
pub offset-order : (index : IndexType) (t : List ℕ) (b c n m : ℕ) → b ≤ c → c ≤ text_len index t → offset_in_chars index t b ≡ Some n
    → offset_in_chars index t c ≡ Some m → (n ≤ m) × (m ≤ length t)
unfolding offset_in_chars text_len char_offset
offset-order Char t b c n m h j e f = let x : b ≡ n = cc in let y : c ≡ m = cc in (omega arith, omega arith)
offset-order Byte t b c n m h j e f =
    let first : FirstOf (λ k. byte_len (take k t) == b) 0 (suc (length t)) n = first-of (λ k. byte_len (take k t) == b) 0 (suc (length t)) n e in
    let second : FirstOf (λ k. byte_len (take k t) == c) 0 (suc (length t)) m = first-of (λ k. byte_len (take k t) == c) 0 (suc (length t)) m f in
    let few = second.below in
    let x : byte_len (take n t) ≡ b = eqb-true (byte_len (take n t)) b first.passes in
    let y : byte_len (take m t) ≡ c = eqb-true (byte_len (take m t)) c second.passes in
    elim (cases_lt m n) [
      | inl less ↦
          let grow = bytes-grow t m n (omega arith) in
          let same : byte_len (take m t) ≡ b = omega arith in
          absurd (true≢false (sym (eq-eqb (byte_len (take m t)) b same) ∙ first.first m (omega arith) less))
      | inr more ↦ (more, omega arith)
    ]

-- ---- one label

-- what its source accepts as a label has both ends in it
record IsOver {S : Type 0} (attach : LabelAttach) (text : List ℕ) (k : ℕ) (label : LabelFields S) (a : LabelInfo) : Type 0 where
  start : ℕ
  end : ℕ
  rises : start ≤ end
  within_text : end ≤ length text
  is : info_of attach (lines_of text) k label start end ≡ a

-- where its span starts no later than it ends
verdict-over : {S : Type 0} (config : ConfigFields) (source : Listing) (k : ℕ) (label : LabelFields S) (start end : ℕ) (a : LabelInfo) → start ≤ end
    → verdict config source k label start end ≡ Accepted a → IsOver config.label_attach (chars source.text) k label a
unfolding verdict within
verdict-over {S} config source k label start end a forward =
    let text = chars source.text in
    let size = text_len config.index_type text in
    cond_both (nat_lt size start || nat_lt (size + 1) end) PastSource
    (within config.label_attach (listed_lines source) k label (offset_in_chars config.index_type text start)
    (offset_in_chars config.index_type text (min end size)))
    (λ v. v ≡ Accepted a → IsOver config.label_attach (chars source.text) k label a) (λ _ e. absurd (cc))
    (λ off. let two = or_parts (nat_lt size start) (nat_lt (size + 1) end) off in
    let low = ltb-false size start two.0 in
    both start (min end size) (omega arith) (omega arith) (offset_in_chars config.index_type text start)
    (offset_in_chars config.index_type text (min end size)) refl refl)
  where
    both : (b c : ℕ) → b ≤ c → c ≤ text_len config.index_type (chars source.text) → (x y : Option ℕ)
        → offset_in_chars config.index_type (chars source.text) b ≡ x → offset_in_chars config.index_type (chars source.text) c ≡ y
        → within config.label_attach (listed_lines source) k label x y ≡ Accepted a → IsOver config.label_attach (chars source.text) k label a
    both b c h j None y e f is = absurd (cc)
    both b c h j (Some n) None e f is = absurd (cc)
    both b c h j (Some n) (Some m) e f is =
        let two = offset-order config.index_type (chars source.text) b c n m h j e f in
        record { start = n; end = m; rises = two.0; within_text = two.1; is = cc }

-- so it lies in the lines of that source
over-placed : {S : Type 0} (attach : LabelAttach) (text : List ℕ) (k : ℕ) (label : LabelFields S) (a : LabelInfo) → IsOver attach text k label a
    → IsPlaced (lines_of text) a
over-placed attach text k label a over =
    let high = over.within_text in
    let all = lines_length text in
    subst (IsPlaced (lines_of text)) over.is (info-placed attach (lines_of text) k label over.start over.end (some_line text) over.rises (omega arith))

-- ---- all labels of a report

module _ {S Id : Type 0} (w : World S Id) (r : ReportFields S) where
  -- a label that is drawn lies in the lines of its source
  drawn-placed : AreForward w r → (a : LabelInfo) (d : IsAccepted w r a) → IsPlaced (listed_lines d.source) a
  drawn-placed forward a d =
      over-placed r.config.label_attach (chars d.source.text) a.position d.label a
      (verdict-over r.config d.source a.position d.label (w.start_of d.label.span) (w.end_of d.label.span) a
      (all-at (λ label. w.start_of label.span ≤ w.end_of label.span) r.labels a.position d.label d.there forward) d.accepted)

  -- no two of them have one number
  pub drawn-numbers : (infos : List LabelInfo) → AreAccepted w r infos → Increasing (λ (a b : LabelInfo). a.position ≢ b.position) infos
  drawn-numbers infos accepted = increasing-from (λ (a b : LabelInfo). a.position ≢ b.position) infos accepted.none_twice

-- ---- groups

-- what holds of each label of groups holds of each of each group
all-groups : (P : LabelInfo → Type 0) (gs : List (List LabelInfo)) → AllByRecursion P (together gs) → AllByRecursion (AllByRecursion P) gs
unfolding joined
all-groups P [] a = tt
all-groups P (group ∷ gs) a = (first group (together gs) a, all-groups P gs (rest group (together gs) a))
  where
    first : (xs ys : List LabelInfo) → AllByRecursion P (xs ++ ys) → AllByRecursion P xs
    first [] ys a = tt
    first (x ∷ xs) ys a = (a.0, first xs ys a.1)

    rest : (xs ys : List LabelInfo) → AllByRecursion P (xs ++ ys) → AllByRecursion P ys
    rest [] ys a = a
    rest (x ∷ xs) ys a = rest xs ys a.1

-- no cut stands inside a group
group-uncut : (same : ℕ → ℕ → Bool) (gs : List (List LabelInfo)) (k : ℕ) (a : LabelInfo) (group : List LabelInfo) → AreCut same gs
    → slice_get gs k ≡ Some (a ∷ group) → HasNoCut same a group
group-uncut same [] k a group c e = absurd (none≢some (a ∷ group) e)
group-uncut same ([] ∷ gs) k a group c e = absurd c
group-uncut same ((b ∷ g) ∷ []) zero a group c e =
    let one : b ≡ a = cc in let two : g ≡ group = cc in subst (HasNoCut same a) two (subst (λ x. HasNoCut same x g) one c)
group-uncut same ((b ∷ g) ∷ []) (suc k) a group c e = absurd (none≢some (a ∷ group) e)
group-uncut same ((b ∷ g) ∷ [] ∷ gs) k a group c e = absurd c
group-uncut same ((b ∷ g) ∷ (d ∷ next) ∷ gs) zero a group c e =
    let one : b ≡ a = cc in let two : g ≡ group = cc in subst (HasNoCut same a) two (subst (λ x. HasNoCut same x g) one c.0)
group-uncut same ((b ∷ g) ∷ (d ∷ next) ∷ gs) (suc k) a group c e = group-uncut same ((d ∷ next) ∷ gs) k a group c.2 e

-- no group is empty
group-some : (same : ℕ → ℕ → Bool) (gs : List (List LabelInfo)) (k : ℕ) → AreCut same gs → slice_get gs k ≡ Some [] → ⊥
group-some same [] k c e = none≢some [] e
group-some same ([] ∷ gs) k c e = c
group-some same ((b ∷ g) ∷ []) zero c e = cc
group-some same ((b ∷ g) ∷ []) (suc k) c e = none≢some [] e
group-some same ((b ∷ g) ∷ [] ∷ gs) k c e = c
group-some same ((b ∷ g) ∷ (d ∷ next) ∷ gs) zero c e = cc
group-some same ((b ∷ g) ∷ (d ∷ next) ∷ gs) (suc k) c e = group-some same ((d ∷ next) ∷ gs) k c.2 e

module _ {S Id : Type 0} (w : World S Id) (r : ReportFields S) where
  -- the id of a drawn label
  drawn-id : (a : LabelInfo) (d : IsAccepted w r a) → label_id w r a.position ≡ Some (w.id_of d.label.span)
  unfolding label_id
  drawn-id a d = let e = d.there in rw e

  -- the labels of groups of drawn labels are drawn
  groups-drawn : (infos : List LabelInfo) → AreAccepted w r infos → AllByRecursion (AllByRecursion (IsAccepted w r)) (groups w r infos)
  unfolding groups ordered
  groups-drawn infos accepted =
      let exist = groups-exist (same_source w r) (ordered infos) in
      all-groups (IsAccepted w r) (groups_of (same_source w r) (ordered infos))
      (subst (AllByRecursion (IsAccepted w r)) (sym exist.joins)
      (all-in_order (IsAccepted w r) (λ a b. Rattle.std.specs.Prelude.int_lt a.order b.order) infos accepted.each))

  -- so the source of a group is held
  group-held : (group : List LabelInfo) → (group ≡ [] → ⊥) → AllByRecursion (IsAccepted w r) group
      → is_some (option_and_then w.source_of (group_id w r group)) ≡ true
  unfolding group_id
  group-held [] some all = absurd (some refl)
  group-held (a ∷ group) some all = ap is_some (ap (option_and_then w.source_of) (drawn-id a all.0) ∙ all.0.is_held)

  pub groups-held : (infos : List LabelInfo) → AreAccepted w r infos
      → AllByRecursion (λ group. is_some (option_and_then w.source_of (group_id w r group)) ≡ true) (groups w r infos)
  unfolding groups
  groups-held infos accepted =
      let exist = groups-exist (same_source w r) (ordered infos) in
      let drawn = groups-drawn infos accepted in
      all-from _ (groups w r infos) (λ k group e.
      group-held group (λ none. group-some (same_source w r) (groups w r infos) k exist.cut (e ∙ ap Some none))
      (all-at (AllByRecursion (IsAccepted w r)) (groups w r infos) k group e drawn))

module _ {S Id : Type 0} (w : World S Id) (r : ReportFields S) (law : (p q : Id) → w.is_same p q ≡ true → w.source_of p ≡ w.source_of q)
    (forward : AreForward w r) where
  -- two drawn labels without a cut between them are over one source
  one-source : (a b : LabelInfo) (d : IsAccepted w r a) (e : IsAccepted w r b) → is_cut (same_source w r) a b ≡ false → d.source ≡ e.source
  unfolding is_cut same_source is_same_id
  one-source a b d e uncut =
      let two = or_parts (not (is_same_id w r (label_id w r a.position) (label_id w r b.position))) (nat_lt b.end_line a.end_line) uncut in
      let same : is_same_id w r (label_id w r a.position) (label_id w r b.position) ≡ true = not-false
      (is_same_id w r (label_id w r a.position) (label_id w r b.position)) two.0 in
      let ids : w.is_same (w.id_of d.label.span) (w.id_of e.label.span) ≡ true = rw (drawn-id w r a d, drawn-id w r b e) at same in
      let sources = law (w.id_of d.label.span) (w.id_of e.label.span) ids in
      let p = d.is_held in
      let q = e.is_held in
      cc

  -- so all labels of a group lie in the lines of the first one's source
  group-placed : (a : LabelInfo) (group : List LabelInfo) (source : Listing) (d : IsAccepted w r a) → d.source ≡ source
      → AllByRecursion (IsAccepted w r) group → HasNoCut (same_source w r) a group → AllByRecursion (IsPlaced (listed_lines source)) (a ∷ group)
  group-placed a [] source d e all uncut = (subst (λ s. IsPlaced (listed_lines s) a) e (drawn-placed w r forward a d), tt)
  group-placed a (b ∷ group) source d e all uncut = (
    subst (λ s. IsPlaced (listed_lines s) a) e (drawn-placed w r forward a d),
    group-placed b group source all.0 (sym (one-source a b d all.0 uncut.0) ∙ e) all.1 uncut.1,
  )

  -- that of the sheet
  sheet-placed : (group : List LabelInfo) → AllByRecursion (IsAccepted w r) group
      → ((a : LabelInfo) (rest : List LabelInfo) → group ≡ a ∷ rest → HasNoCut (same_source w r) a rest)
      → AllByRecursion (IsPlaced (sheet_of w r group).lines) group
  unfolding group_source group_id
  sheet-placed [] all uncut = tt
  sheet-placed (a ∷ group) all uncut =
      let d : IsAccepted w r a = all.0 in
      let held : option_and_then w.source_of (label_id w r a.position) ≡ Some d.source = ap (option_and_then w.source_of) (drawn-id w r a d) ∙ d.is_held in
      let is : unwrap_or (option_and_then w.source_of (label_id w r a.position)) (record { text = []; display_offset = 0 }) ≡ d.source = ap
      (λ o. unwrap_or o (record { text = []; display_offset = 0 })) held in
      subst (λ s. AllByRecursion (IsPlaced (listed_lines s)) (a ∷ group)) (sym is) (group-placed a group d.source d refl all.1 (uncut a group refl))

  -- each label of each group of drawn labels lies in the lines of the group's sheet
  groups-placed : (infos : List LabelInfo) → AreAccepted w r infos → (k : ℕ) (group : List LabelInfo) → slice_get (groups w r infos) k ≡ Some group
      → AllByRecursion (IsPlaced (sheet_of w r group).lines) group
  unfolding groups ordered
  groups-placed infos accepted k group e =
      let exist = groups-exist (same_source w r) (ordered infos) in
      let each : AllByRecursion (AllByRecursion (IsAccepted w r)) (groups_of (same_source w r) (ordered infos)) = groups-drawn w r infos accepted in
      sheet-placed group (all-at (AllByRecursion (IsAccepted w r)) (groups_of (same_source w r) (ordered infos)) k group e each)
      (λ a rest same. group-uncut (same_source w r) (groups_of (same_source w r) (ordered infos)) k a rest exist.cut (e ∙ ap Some same))

  -- the sections of the picture are those groups
  pub sections-placed : (infos : List LabelInfo) → AreAccepted w r infos → (g : ℕ) (s : Section) → slice_get (sections w r infos) g ≡ Some s
      → AllByRecursion (IsPlaced s.sheet.lines) s.sheet.labels
  unfolding sections section_of
  sections-placed infos accepted g s e =
      let gs = groups w r infos in
      let k = section-group (section_of w r (length gs)) gs 0 g s e in
      let group : List LabelInfo = k.0 in
      let there : slice_get gs g ≡ Some group = k.1 in
      subst (λ (u : Section). AllByRecursion (IsPlaced u.sheet.lines) u.sheet.labels) (sym k.2) (groups-placed infos accepted g group there)
    where
      section-group : (f : ℕ × List LabelInfo → Section) (gs : List (List LabelInfo)) (a g : ℕ) (s : Section)
          → slice_get (map f (enumerate_from a gs)) g ≡ Some s → (group : List LabelInfo) × (slice_get gs g ≡ Some group) × (s ≡ f (a + g, group))
      section-group f [] a g s e = absurd (none≢some s e)
      section-group f (group ∷ gs) a zero s e =
          let same : f (a, group) ≡ s = cc in let z : a ≡ a + 0 = omega arith in (group, refl, sym same ∙ ap (λ n. f (n, group)) z)
      section-group f (group ∷ gs) a (suc g) s e =
          let more = section-group f gs (a + 1) g s e in let z : a + 1 + g ≡ a + suc g = omega arith in
          (more.0, more.1, more.2 ∙ ap (λ n. f (n, more.0)) z)
