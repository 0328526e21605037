-- The groups of labels in order: the first group, by where the next cut stands, and the groups of the rest.
use Rattle.std.specs.Prelude.{int_lt}
use Rattle.std.specs.Prelude.{slice_get}
use Rattle.std.proofs.Common.{◌≡◌, ℕ, zero, suc, ◌+◌, ◌-◌, ◌<◌, ◌≤◌, Bool, true, false, List, [], ◌∷◌, ◌++◌, Some, refl, sym, ap, ◌∙◌, length, map, take, drop, get_or, arith, subst}
use Rattle.std.proofs.Common.{append_assoc}
use Rattle.std.proofs.lemmas.Bool.{cond_both, cond-false}
use Rattle.std.proofs.lemmas.List.{append-nil, get_or-drop, get_or_default, drop_all}
use Rattle.std.proofs.lemmas.List.Folds.{drop_split}
use Rattle.std.proofs.Math.ListN.{length-drop}
use Rattle.std.proofs.Math.Seq.{drop-cons, take-suc}
use Rattle.std.specs.List.{slice_range, AllByRecursion}
use Rattle.ariadne_picture.specs.Canvas.{same_source}
use Rattle.ariadne_picture.specs.Groups.{ordered}
use Rattle.ariadne_picture.specs.Groups.{ahead, groups_of, is_cut, HasNoCut, AreCut}
use Rattle.ariadne_picture.specs.Lists.{in_order}
use Rattle.ariadne_picture.specs.Lists.{joined}
use Rattle.ariadne_picture.proofs.Labels.Cutting.{groups-exist}
use Rattle.ariadne_picture.proofs.Lists.ListFacts.{all-in_order}
use Rattle.ariadne_picture.specs.declared.label_info.LabelInfo.{LabelInfo}
use Rattle.ariadne_picture.specs.Report.{ReportFields, World}
use Rattle.ariadne_picture.specs.Accept.{IsAccepted}
use Rattle.ariadne_layout.proofs.Listing.{put-back}
use Rattle.ariadne_report.specs.CacheReads.{AreDrawn}
use Rattle.ariadne_report.specs.DrawnGroups.{AreGroups}

-- ---- ranges of a list

module _ {X : Type 0} (xs : List X) where
  -- a range with the item behind it
  pub range_more : (start m : ℕ) (x : X) → start ≤ m → m < length xs → x ≡ get_or xs m x → slice_range xs start (m + 1) ≡ slice_range xs start m ++ x ∷ []
  range_more start m x low high e =
      let n : m + 1 - start ≡ suc (m - start) = omega arith in
      let place : start + (m - start) ≡ m = omega arith in
      let few : m - start < length (drop start xs) = omega (arith, length-drop start xs) in
      let at : get_or (drop start xs) (m - start) x ≡ x = get_or-drop start xs (m - start) x ∙ ap (λ k. get_or xs k x) place ∙ sym e in
      ap (λ k. take k (drop start xs)) n ∙ take-suc (drop start xs) (m - start) x few ∙ ap (λ y. take (m - start) (drop start xs) ++ y ∷ []) at

  -- what stands from an item on
  pub drop_from : (m : ℕ) (x : X) → m < length xs → x ≡ get_or xs m x → drop m xs ≡ x ∷ drop (suc m) xs
  drop_from m x high e = drop-cons xs m x high ∙ ap (λ y. y ∷ drop (suc m) xs) (sym e)

-- ---- groups

module _ (same : ℕ → ℕ → Bool) where
  -- no cut stands between two of these labels
  abbrev pub NoCuts : List LabelInfo → Type 0
  NoCuts [] = Unit {0}
  NoCuts (a ∷ group) = HasNoCut same a group

  -- a cut stands behind the label x, in front of these, if there are any
  abbrev pub CutBehind : LabelInfo → List LabelInfo → Type 0
  CutBehind x [] = Unit {0}
  CutBehind x (y ∷ rest) = is_cut same x y ≡ true

  -- a label that no cut parts from the last one joins it
  pub more : (p : List LabelInfo) (x y : LabelInfo) → NoCuts (p ++ x ∷ []) → is_cut same x y ≡ false → NoCuts ((p ++ x ∷ []) ++ y ∷ [])
  more [] x y h e = (e, tt)
  more (a ∷ []) x y h e = (h.0, (e, tt))
  more (a ∷ b ∷ p) x y h e = (h.0, more (b ∷ p) x y h.1 e)

  -- a label in front of a cut is a group of its own
  cut_ahead : (x y : LabelInfo) (gs : List (List LabelInfo)) → is_cut same x y ≡ true → ahead same x (ahead same y gs) ≡ (x ∷ []) ∷ ahead same y gs
  unfolding ahead
  cut_ahead x y [] e = rw e refl
  cut_ahead x y ([] ∷ gs) e = rw e refl
  cut_ahead x y ((b ∷ g) ∷ gs) e =
      cond_both (is_cut same y b) ((y ∷ []) ∷ (b ∷ g) ∷ gs) ((y ∷ b ∷ g) ∷ gs) (λ z. ahead same x z ≡ (x ∷ []) ∷ z) (λ _. rw e refl) (λ _. rw e refl)

  -- labels without a cut, in front of one, are the first group
  pub first_group : (p : List LabelInfo) (x : LabelInfo) (rest : List LabelInfo) → NoCuts (p ++ x ∷ []) → CutBehind x rest
      → groups_of same ((p ++ x ∷ []) ++ rest) ≡ (p ++ x ∷ []) ∷ groups_of same rest
  unfolding groups_of ahead
  first_group [] x [] h e = refl
  first_group [] x (y ∷ rest) h e = cut_ahead x y (groups_of same rest) e
  first_group (a ∷ []) x rest h e =
      ap (ahead same a) (first_group [] x rest h.1 e)
      ∙ cond-false (is_cut same a x) ((a ∷ []) ∷ (x ∷ []) ∷ groups_of same rest) ((a ∷ x ∷ []) ∷ groups_of same rest) h.0
  first_group (a ∷ b ∷ p) x rest h e =
      ap (ahead same a) (first_group (b ∷ p) x rest h.1 e)
      ∙ cond-false (is_cut same a b) ((a ∷ []) ∷ (b ∷ (p ++ x ∷ [])) ∷ groups_of same rest) ((a ∷ b ∷ (p ++ x ∷ [])) ∷ groups_of same rest) h.0

  module _ (infos : List LabelInfo) where
    -- one label has no cut
    pub start_uncut : (start : ℕ) (x : LabelInfo) → start < length infos → x ≡ get_or infos start x → NoCuts (slice_range infos start (start + 1))
    start_uncut start x high e =
        let none : slice_range infos start start ≡ [] = let z : start - start ≡ 0 = omega arith in ap (λ k. take k (drop start infos)) z in
        subst NoCuts (sym (range_more infos start start x (omega arith) high e ∙ ap (λ p. p ++ x ∷ []) none)) tt

    -- a range without cuts goes on over two neighbours, m and the one behind
    pub range_uncut : (start m end : ℕ) (x y : LabelInfo) → end ≡ m + 1 → start ≤ m → end < length infos → x ≡ get_or infos m x → y ≡ get_or infos end y
        → is_cut same x y ≡ false → NoCuts (slice_range infos start end) → NoCuts (slice_range infos start (end + 1))
    range_uncut start m end x y next low high ex ey e h =
        let before = ap (slice_range infos start) next ∙ range_more infos start m x low (omega arith) ex in
        let behind = range_more infos start end y (omega arith) high ey ∙ ap (λ p. p ++ y ∷ []) before in
        subst NoCuts (sym behind) (more (slice_range infos start m) x y (subst NoCuts before h) e)

    -- the groups from `start` on, where the range up to m has no cut and a cut stands behind, or nothing
    pub groups_from : (start m end : ℕ) (x : LabelInfo) → end ≡ m + 1 → start ≤ m → end ≤ length infos → x ≡ get_or infos m x
        → NoCuts (slice_range infos start end) → CutBehind x (drop end infos)
        → groups_of same (drop start infos) ≡ slice_range infos start end ∷ groups_of same (drop end infos)
    groups_from start m end x next low high ex h cut =
        let before = ap (slice_range infos start) next ∙ range_more infos start m x low (omega arith) ex in
        let split = drop_split infos start end (omega arith) in
        ap (groups_of same) (split ∙ ap (λ p. p ++ drop end infos) before)
        ∙ first_group (slice_range infos start m) x (drop end infos) (subst NoCuts before h) cut
        ∙ ap (λ p. p ∷ groups_of same (drop end infos)) (sym before)

    -- a cut stands in front of the label at `end`
    pub cut_behind : (end : ℕ) (x y : LabelInfo) → end < length infos → y ≡ get_or infos end y → is_cut same x y ≡ true → CutBehind x (drop end infos)
    cut_behind end x y high ey e = subst (CutBehind x) (sym (drop_from infos end y high ey)) e

    -- nothing stands behind the last
    pub none_behind : (end : ℕ) (x : LabelInfo) → length infos ≤ end → CutBehind x (drop end infos)
    none_behind end x past = subst (CutBehind x) (sym (drop_all end infos past)) tt

  -- the same, where the labels are looked up with a label in place of none
  module _ (infos : List LabelInfo) (start end : ℕ) (d : LabelInfo) (after : start < end) (uncut : NoCuts (slice_range infos start end)) where
    -- a range goes on where no cut stands
    pub goes_on : (b : Bool) → end < length infos → b ≡ is_cut same (get_or infos (end - 1) d) (get_or infos end d) → b ≡ false
        → NoCuts (slice_range infos start (end + 1))
    goes_on b high e f =
        let x = get_or infos (end - 1) d in
        let y = get_or infos end d in
        range_uncut infos start (end - 1) end x y (omega arith) (omega arith) high (get_or_default infos (end - 1) d x (omega arith))
        (get_or_default infos end d y high) (sym e ∙ f) uncut

    -- it ends where a cut stands
    pub ends_at_cut : (b : Bool) → end < length infos → b ≡ is_cut same (get_or infos (end - 1) d) (get_or infos end d) → b ≡ true
        → groups_of same (drop start infos) ≡ slice_range infos start end ∷ groups_of same (drop end infos)
    ends_at_cut b high e f =
        let x = get_or infos (end - 1) d in
        let y = get_or infos end d in
        groups_from infos start (end - 1) end x (omega arith) (omega arith) (omega arith) (get_or_default infos (end - 1) d x (omega arith)) uncut
        (cut_behind infos end x y high (get_or_default infos end d y high) (sym e ∙ f))

    -- and at the last label
    pub ends_at_last : end ≤ length infos → length infos ≤ end
        → groups_of same (drop start infos) ≡ slice_range infos start end ∷ groups_of same (drop end infos)
    ends_at_last high past =
        let x = get_or infos (end - 1) d in
        groups_from infos start (end - 1) end x (omega arith) (omega arith) high (get_or_default infos (end - 1) d x (omega arith)) uncut
        (none_behind infos end x past)

  -- the last group ends at the last label
  pub ends_last : (infos : List LabelInfo) (start end : ℕ) → start < end → end ≤ length infos → length infos ≤ end → NoCuts (slice_range infos start end)
      → groups_of same (drop start infos) ≡ slice_range infos start end ∷ groups_of same (drop end infos)
  ends_last [] start end after high past uncut = absurd (none start end after high)
    where
      none : (start end : ℕ) → start < end → end ≤ 0 → ⊥
      none start end a b = omega arith
  ends_last (a ∷ infos) start end after high past uncut = ends_at_last (a ∷ infos) start end a after uncut high past

  -- one label has no cut
  pub one_uncut : (infos : List LabelInfo) (start : ℕ) → start < length infos → NoCuts (slice_range infos start (start + 1))
  one_uncut [] start high = absurd (none start high)
    where
      none : (start : ℕ) → start < 0 → ⊥
      none start a = omega arith
  one_uncut (a ∷ infos) start high =
      let x = get_or (a ∷ infos) start a in
      start_uncut (a ∷ infos) start x high (get_or_default (a ∷ infos) start a x high)

  -- the first of groups has no cut
  pub cut_first : (g : List LabelInfo) (gs : List (List LabelInfo)) → AreCut same (g ∷ gs) → NoCuts g
  cut_first [] gs h = tt
  cut_first (a ∷ g) [] h = h
  cut_first (a ∷ g) ([] ∷ gs) h = absurd h
  cut_first (a ∷ g) ((b ∷ next) ∷ gs) h = h.0

  -- the first of groups is one by itself
  pub whole_first : (g : List LabelInfo) (gs : List (List LabelInfo)) → AreCut same (g ∷ gs) → AreCut same (g ∷ [])
  whole_first [] gs h = empty gs h
    where
      empty : (gs : List (List LabelInfo)) → AreCut same ([] ∷ gs) → ⊥
      empty gs h = h
  whole_first (a ∷ g) gs h = cut_first (a ∷ g) gs h

  -- groups that are cut are so without the first
  behind_first : (g : List LabelInfo) (gs : List (List LabelInfo)) → AreCut same (g ∷ gs) → AreCut same gs
  behind_first [] gs h = absurd (empty gs h)
    where
      empty : (gs : List (List LabelInfo)) → AreCut same ([] ∷ gs) → ⊥
      empty gs h = h
  behind_first (a ∷ g) [] h = tt
  behind_first (a ∷ g) ([] ∷ gs) h = absurd h
  behind_first (a ∷ g) ((b ∷ next) ∷ gs) h = h.2

  -- a group has a label
  pub some_label : (g : List LabelInfo) → AreCut same (g ∷ []) → 0 < length g
  some_label [] h = absurd h
  some_label (a ∷ g) h = omega arith

  -- ---- one group after another

  module _ (infos : List LabelInfo) where
    -- one group more is cut off
    pub one_cut : (start end : ℕ) (old new : List (List LabelInfo))
        → groups_of same (drop start infos) ≡ slice_range infos start end ∷ groups_of same (drop end infos)
        → new ≡ old ++ slice_range infos start end ∷ [] → old ++ groups_of same (drop start infos) ≡ groups_of same infos
        → new ++ groups_of same (drop end infos) ≡ groups_of same infos
    one_cut start end old new cut more so_far =
        let rest = groups_of same (drop end infos) in
        ap (λ gs. gs ++ rest) more ∙ append_assoc old (slice_range infos start end ∷ []) rest ∙ ap (λ gs. old ++ gs) (sym cut) ∙ so_far

    -- no label is left
    pub all_cut : (start : ℕ) (gs : List (List LabelInfo)) → length infos ≤ start → gs ++ groups_of same (drop start infos) ≡ groups_of same infos
        → gs ≡ groups_of same infos
    unfolding groups_of
    all_cut start gs past so_far =
        sym (append-nil gs) ∙ ap (λ xs. gs ++ groups_of same xs) (sym (drop_all start infos past)) ∙ so_far

-- ---- each of some items

-- the first and the others
pub all_split : {X : Type 0} (P : X → Type 0) (xs ys : List X) → AllByRecursion P (xs ++ ys) → AllByRecursion P xs × AllByRecursion P ys
all_split P [] ys a = (tt, a)
all_split P (x ∷ xs) ys a = let rest = all_split P xs ys a.1 in ((a.0, rest.0), rest.1)

-- the one at place k
pub all_at : {X : Type 0} (P : X → Type 0) (xs : List X) (k : ℕ) (d : X) → k < length xs → AllByRecursion P xs → P (get_or xs k d)
all_at P [] k d h a = absurd (none k h)
  where
    none : (k : ℕ) → k < 0 → ⊥
    none k h = omega arith
all_at P (x ∷ xs) zero d h a = a.0
all_at P (x ∷ xs) (suc k) d h a = all_at P xs k d (omega arith) a.1

-- ---- what is made of the items of a list

module _ {X Y : Type 0} (f : X → Y) where
  none_below : (k : ℕ) → k < 0 → ⊥
  none_below k h = omega arith

  -- at place k
  pub mapped_at : (xs : List X) (k : ℕ) (d : X) → k < length xs → slice_get (map f xs) k ≡ Some (f (get_or xs k d))
  mapped_at [] k d h = absurd (none_below k h)
  mapped_at (x ∷ xs) zero d h = refl
  mapped_at (x ∷ xs) (suc k) d h = mapped_at xs k d (omega arith)

  -- there is such an item
  pub some_mapped : (xs : List X) (k : ℕ) → k < length xs → (y : Y) × (slice_get (map f xs) k ≡ Some y)
  some_mapped [] k h = absurd (none_below k h)
  some_mapped (x ∷ xs) zero h = (f x, refl)
  some_mapped (x ∷ xs) (suc k) h = some_mapped xs k (omega arith)

  -- from place k on
  pub mapped_from : (xs : List X) (k : ℕ) (d : X) → k < length xs → drop k (map f xs) ≡ f (get_or xs k d) ∷ drop (suc k) (map f xs)
  mapped_from [] k d h = absurd (none_below k h)
  mapped_from (x ∷ xs) zero d h = refl
  mapped_from (x ∷ xs) (suc k) d h = mapped_from xs k d (omega arith)

  -- what holds of each holds of that at place k
  pub all_mapped : (P : Y → Type 0) (xs : List X) (k : ℕ) (d : X) → k < length xs → AllByRecursion P (map f xs) → P (f (get_or xs k d))
  all_mapped P [] k d h a = absurd (none_below k h)
  all_mapped P (x ∷ xs) zero d h a = a.0
  all_mapped P (x ∷ xs) (suc k) d h a = all_mapped P xs k d (omega arith) a.1

-- ---- the groups of labels that are drawn

-- they are groups that are drawn
pub groups_drawn : {S Id : Type 0} (w : World S Id) (r : ReportFields S) (gs : List (List LabelInfo)) → AreDrawn w r (joined (λ g. g) gs)
    → AreCut (same_source w r) gs → AreGroups w r gs
unfolding joined
groups_drawn w r [] d h = tt
groups_drawn w r (g ∷ gs) d h =
    let parts = all_split (IsAccepted w r) g (joined (λ g. g) gs) d in
    (record { drawn = parts.0; whole = whole_first (same_source w r) g gs h }, groups_drawn w r gs parts.1 (behind_first (same_source w r) g gs h))

-- ---- the labels in order

-- a list of labels that was put in order in place
pub sorted_is : (old lent new : List LabelInfo) (n : ℕ) → n ≡ length old → lent ≡ old → new ≡ in_order (λ a b. int_lt a.order b.order) lent
    → take n (new ++ drop (length new) old) ≡ ordered old
unfolding ordered
sorted_is old lent new n long same put = put-back (λ a b. int_lt a.order b.order) old lent new n long same put

-- labels that are drawn are so in any order
pub sorted_drawn : {S Id : Type 0} (w : World S Id) (r : ReportFields S) (infos sorted : List LabelInfo) → sorted ≡ ordered infos → AreDrawn w r infos
    → AreDrawn w r sorted
unfolding ordered
sorted_drawn w r infos sorted e drawn =
    subst (AreDrawn w r) (sym e) (all-in_order (IsAccepted w r) (λ (a b : LabelInfo). int_lt a.order b.order) infos drawn)

-- so their groups are those of labels that are drawn
pub sorted_groups : {S Id : Type 0} (w : World S Id) (r : ReportFields S) (sorted : List LabelInfo) (gs : List (List LabelInfo))
    → gs ≡ groups_of (same_source w r) sorted → AreDrawn w r sorted → AreGroups w r gs
sorted_groups w r sorted gs e drawn =
    let exist = groups-exist (same_source w r) sorted in
    subst (AreGroups w r) (sym e)
    (groups_drawn w r (groups_of (same_source w r) sorted) (subst (AreDrawn w r) (sym exist.joins) drawn) exist.cut)
