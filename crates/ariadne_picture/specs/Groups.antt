-- The groups of a picture: the drawn labels in order, cut wherever the source changes or a label
-- ends on an earlier line than the one before it. Each group shows the lines from its first to its
-- last.
use Rattle.std.specs.Prelude.{ℕ, ◌+◌, ◌≡◌, max, Bool, true, false, not, ◌||◌, nat_lt}
use Rattle.std.specs.Prelude.{int_lt, if◌then◌else◌, cond, List, [], ◌∷◌, map}
use Rattle.ariadne_picture.specs.declared.label_info.LabelInfo.{LabelInfo}
use Rattle.ariadne_picture.specs.Lists.{in_order, joined}

-- the labels by their order; those of one order stay as they stand
unfoldable pub ordered : List LabelInfo → List LabelInfo
ordered infos = in_order (λ a b. int_lt a.order b.order) infos

-- `same_source j k` tells whether the labels with the numbers j and k are over the same source
module _ (same_source : ℕ → ℕ → Bool) where
  -- whether a cut stands between two neighbours
  unfoldable pub is_cut : LabelInfo → LabelInfo → Bool
  is_cut a b = not (same_source a.position b.position) || nat_lt b.end_line a.end_line

  -- ---- which lists are the groups: a condition on the whole list

  -- no cut stands inside a group that begins with a
  abbrev pub HasNoCut : LabelInfo → List LabelInfo → Type 0
  HasNoCut a [] = Unit {0}
  HasNoCut a (b ∷ group) = (is_cut a b ≡ false) × HasNoCut b group

  -- the last label of a group that begins with a
  unfoldable pub last_of : LabelInfo → List LabelInfo → LabelInfo
  last_of a [] = a
  last_of a (b ∷ group) = last_of b group

  -- no group is empty, no cut stands inside one, and one stands between each two
  abbrev pub AreCut : List (List LabelInfo) → Type 0
  AreCut [] = Unit {0}
  AreCut ([] ∷ groups) = ⊥
  AreCut ((a ∷ group) ∷ []) = HasNoCut a group
  AreCut ((a ∷ group) ∷ [] ∷ groups) = ⊥
  AreCut ((a ∷ group) ∷ (b ∷ next) ∷ groups) =
      HasNoCut a group × (is_cut (last_of a group) b ≡ true) × AreCut ((b ∷ next) ∷ groups)

  -- the groups join to the labels
  pub record AreGroupsOf (infos : List LabelInfo) (groups : List (List LabelInfo)) : Type 0 where
    pub joins : joined (λ group. group) groups ≡ infos
    pub cut : AreCut groups

  -- ---- the only such list

  -- a label in front of groups: in the first one, or in one of its own
  unfoldable pub ahead : LabelInfo → List (List LabelInfo) → List (List LabelInfo)
  ahead a [] = (a ∷ []) ∷ []
  ahead a ([] ∷ groups) = (a ∷ []) ∷ groups
  ahead a ((b ∷ group) ∷ groups) =
      cond (is_cut a b) ((a ∷ []) ∷ (b ∷ group) ∷ groups) ((a ∷ b ∷ group) ∷ groups)

  -- the labels cut into groups
  unfoldable pub groups_of : List LabelInfo → List (List LabelInfo)
  groups_of [] = []
  groups_of (a ∷ infos) = ahead a (groups_of infos)

-- ---- the lines of a group

-- the greatest of some numbers, or 0
unfoldable pub greatest : List ℕ → ℕ
greatest [] = 0
greatest (n ∷ ns) = max n (greatest ns)

-- the least of numbers that are at most b
unfoldable pub least_below : ℕ → List ℕ → ℕ
least_below b [] = b
least_below b (n ∷ ns) = if nat_lt n (least_below b ns) then n else least_below b ns

-- the last line of a group
unfoldable pub group_end_line : List LabelInfo → ℕ
group_end_line group = greatest (map (λ a. a.end_line) group)

-- its first line
unfoldable pub group_start_line : List LabelInfo → ℕ
group_start_line group = least_below (group_end_line group) (map (λ a. a.start_line) group)

-- a line's number as it is printed: from 1, with the source's display offset
unfoldable pub printed_number : ℕ → ℕ → ℕ
printed_number display_offset l = l + 1 + display_offset
