-- The groups of a list of labels are the only list of groups that joins to it with a cut between each two and none inside.
use Rattle.std.proofs.Common.{◌≡◌, ℕ, Bool, false, List, [], ◌∷◌, ◌++◌, refl, sym, ap, ◌∙◌}
use Rattle.std.proofs.lemmas.Bool.{cond_both, cond-false}
use Rattle.ariadne_picture.specs.declared.label_info.LabelInfo.{LabelInfo}
use Rattle.ariadne_picture.specs.Lists.{joined}
use Rattle.ariadne_picture.specs.Groups.{is_cut, last_of, AreCut, AreGroupsOf, ahead, groups_of}

-- the labels of groups, joined
abbrev pub together : List (List LabelInfo) → List LabelInfo
together groups = joined (λ group. group) groups

module _ (same_source : ℕ → ℕ → Bool) where
  -- a label ahead of groups stands ahead of what they join to
  ahead-joins : (a : LabelInfo) (groups : List (List LabelInfo)) → together (ahead same_source a groups) ≡ a ∷ together groups
  unfolding joined ahead
  ahead-joins a [] = refl
  ahead-joins a ([] ∷ groups) = refl
  ahead-joins a ((b ∷ group) ∷ groups) =
      cond_both (is_cut same_source a b) ((a ∷ []) ∷ (b ∷ group) ∷ groups) ((a ∷ b ∷ group) ∷ groups)
      (λ gs. together gs ≡ a ∷ together ((b ∷ group) ∷ groups)) (λ _. refl) (λ _. refl)

  -- the groups join to the labels
  groups-join : (infos : List LabelInfo) → together (groups_of same_source infos) ≡ infos
  unfolding joined groups_of
  groups-join [] = refl
  groups-join (a ∷ infos) = ahead-joins a (groups_of same_source infos) ∙ ap (λ t. a ∷ t) (groups-join infos)

  -- a label that no cut parts from the first group joins it
  joins-first : (a b : LabelInfo) (group : List LabelInfo) (groups : List (List LabelInfo)) → is_cut same_source a b ≡ false
      → AreCut same_source ((b ∷ group) ∷ groups) → AreCut same_source ((a ∷ b ∷ group) ∷ groups)
  unfolding last_of
  joins-first a b group [] e h = (e, h)
  joins-first a b group ([] ∷ groups) e h = h
  joins-first a b group ((c ∷ next) ∷ groups) e h = ((e, h.0), h.1, h.2)

  -- a label ahead of groups is a group of its own or joins the first
  ahead-cut : (a : LabelInfo) (groups : List (List LabelInfo)) → AreCut same_source groups → AreCut same_source (ahead same_source a groups)
  unfolding ahead last_of
  ahead-cut a [] h = tt
  ahead-cut a ([] ∷ groups) h = absurd (no_empty groups h)
    where
      no_empty : (groups : List (List LabelInfo)) → AreCut same_source ([] ∷ groups) → ⊥
      no_empty groups h = h
  ahead-cut a ((b ∷ group) ∷ groups) h =
      cond_both (is_cut same_source a b) ((a ∷ []) ∷ (b ∷ group) ∷ groups) ((a ∷ b ∷ group) ∷ groups) (AreCut same_source)
      (λ t. (tt, t, h)) (λ f. joins-first a b group groups f h)

  -- the groups are cut where they must be
  groups-cut : (infos : List LabelInfo) → AreCut same_source (groups_of same_source infos)
  unfolding groups_of
  groups-cut [] = tt
  groups-cut (a ∷ infos) = ahead-cut a (groups_of same_source infos) (groups-cut infos)

  -- every list of labels has its groups
  pub groups-exist : (infos : List LabelInfo) → AreGroupsOf same_source infos (groups_of same_source infos)
  groups-exist infos = record { joins = groups-join infos; cut = groups-cut infos }

  -- the groups behind the first are cut too
  behind : (a : LabelInfo) (group : List LabelInfo) (groups : List (List LabelInfo)) → AreCut same_source ((a ∷ group) ∷ groups)
      → AreCut same_source groups
  behind a group [] h = tt
  behind a group ([] ∷ groups) h = absurd h
  behind a group ((b ∷ next) ∷ groups) h = h.2

  -- the first group without its first label is cut from the rest as before
  without-first : (a b : LabelInfo) (group : List LabelInfo) (groups : List (List LabelInfo)) → AreCut same_source ((a ∷ b ∷ group) ∷ groups)
      → (is_cut same_source a b ≡ false) × AreCut same_source ((b ∷ group) ∷ groups)
  unfolding last_of
  without-first a b group [] h = (h.0, h.1)
  without-first a b group ([] ∷ groups) h = absurd h
  without-first a b group ((c ∷ next) ∷ groups) h = ((h.0).0, ((h.0).1, h.1, h.2))

  -- a group of one label is its label ahead of the groups behind
  one-ahead : (a : LabelInfo) (groups : List (List LabelInfo)) → AreCut same_source ((a ∷ []) ∷ groups) → ahead same_source a groups ≡ (a ∷ [])
      ∷ groups
  unfolding ahead last_of
  one-ahead a [] h = refl
  one-ahead a ([] ∷ groups) h = absurd h
  one-ahead a ((b ∷ group) ∷ groups) h = rw h.1

  -- where the groups behind are those of their labels, so are all with a group in front
  with-group : (a : LabelInfo) (group : List LabelInfo) (groups : List (List LabelInfo)) → AreCut same_source ((a ∷ group) ∷ groups)
      → groups_of same_source (together groups) ≡ groups
      → groups_of same_source (a ∷ (group ++ together groups)) ≡ (a ∷ group) ∷ groups
  unfolding groups_of ahead
  with-group a [] groups h e = ap (ahead same_source a) e ∙ one-ahead a groups h
  with-group a (b ∷ group) groups h e =
      let parts = without-first a b group groups h in
      ap (ahead same_source a) (with-group b group groups parts.1 e)
      ∙ cond-false (is_cut same_source a b) ((a ∷ []) ∷ (b ∷ group) ∷ groups) ((a ∷ b ∷ group) ∷ groups) parts.0

  -- groups that are cut are those of the labels that they join to
  groups-of-joined : (groups : List (List LabelInfo)) → AreCut same_source groups → groups_of same_source (together groups) ≡ groups
  unfolding groups_of joined
  groups-of-joined [] h = refl
  groups-of-joined ([] ∷ groups) h = absurd (no_empty groups h)
    where
      no_empty : (groups : List (List LabelInfo)) → AreCut same_source ([] ∷ groups) → ⊥
      no_empty groups h = h
  groups-of-joined ((a ∷ group) ∷ groups) h = with-group a group groups h (groups-of-joined groups (behind a group groups h))

  -- a list of labels has no other groups
  pub groups-only : (infos : List LabelInfo) (groups : List (List LabelInfo)) → AreGroupsOf same_source infos groups
      → groups ≡ groups_of same_source infos
  groups-only infos groups h = sym (groups-of-joined groups h.cut) ∙ ap (groups_of same_source) h.joins
