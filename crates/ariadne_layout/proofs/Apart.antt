-- Stretches of labels that stand one behind the other.
use Rattle.std.proofs.Common.{◌≡◌, ℕ, ◌+◌, ◌-◌, ◌<◌, ◌≤◌, Bool, true, false, cond, List, [], ◌∷◌, ◌++◌, Option, Some, None, filter, max, length, take, get_or, map, option_map}
use Rattle.std.proofs.Common.{refl, sym, ap, ◌∙◌, arith, inl, inr}
use Rattle.std.proofs.lemmas.Bool.{cond-true, cond-false, cases_lt}
use Rattle.std.proofs.lemmas.List.{append-nil, map-append}
use Rattle.std.proofs.lemmas.List.Elements.{filter_more}
use Rattle.ariadne_picture.specs.declared.label_info.LabelInfo.{LabelInfo}
use Rattle.ariadne_picture.specs.declared.label_info.LineLabel.{LineLabel}
use Rattle.ariadne_picture.specs.Lists.{best}
use Rattle.ariadne_picture.specs.Ranks.{is_inline}
use Rattle.ariadne_picture.specs.Strokes.{holds, is_preferred}
use Rattle.ariadne_layout.specs.declared.stretches.Stretch.{Stretch}
use Rattle.ariadne_layout.specs.Choices.{infos_of, inline_infos, shown_position}
use Rattle.ariadne_layout.specs.Tables.{shown_at}
use Rattle.ariadne_layout.proofs.Choices.{better, best-filter_push, holds_before, holds_inside, holds_behind}
use Rattle.ariadne_layout.proofs.Stretched.{ShowsBelow, label-shown, shows_all, shows_more, shows_none}

-- the stretches show what the labels do, none of which reaches to this place or behind it
pub record Apart (labels : List LabelInfo) (offset place : ℕ) (stretches : List Stretch) : Type 0 where
  pub shows : ShowsBelow (λ k. shown_position labels (offset + k)) place stretches
  pub rest : (k : ℕ) → place ≤ k → shown_position labels (offset + k) ≡ None

-- no labels show nothing
pub apart_none : (offset : ℕ) → Apart [] offset 0 []
unfolding shown_position best
apart_none offset = record { shows = shows_none _; rest = λ k from. refl }

-- at the end they show what the labels do at each place
pub apart_all : (labels : List LabelInfo) (offset place : ℕ) (stretches : List Stretch) (k : ℕ) → Apart labels offset place stretches
    → shown_at stretches k ≡ shown_position labels (offset + k)
unfolding shown_at
apart_all labels offset place stretches k h =
    elim (cases_lt k place) [
      | inl below ↦ shows_all _ place stretches k h.shows below
      | inr from ↦ ap (λ t. shown_at t k) (sym (append-nil stretches)) ∙ h.shows.behind k [] from ∙ sym (h.rest k from)
    ]

-- what a function gives of one of two
map-cond : (b : Bool) (x y : Option LabelInfo) → option_map (λ (a : LabelInfo). a.position) (cond b x y)
    ≡ cond b (option_map (λ (a : LabelInfo). a.position) x) (option_map (λ (a : LabelInfo). a.position) y)
map-cond true x y = refl
map-cond false x y = refl

-- where one more label does not hold an offset, the same is shown there
not_held : (labels : List LabelInfo) (a : LabelInfo) (o : ℕ) → holds a o ≡ false → shown_position (labels ++ a ∷ []) o ≡ shown_position labels o
unfolding shown_position
not_held labels a o out =
    ap (option_map (λ (a : LabelInfo). a.position))
    (best-filter_push is_preferred (λ b. holds b o) labels a ∙ cond-false (holds a o) _ _ out)

-- what is better than none
better_none : (o : Option LabelInfo) (a : LabelInfo) → option_map (λ (a : LabelInfo). a.position) o ≡ None
    → option_map (λ (a : LabelInfo). a.position) (better is_preferred o a) ≡ Some a.position
better_none None a h = refl
better_none (Some b) a h = cc

-- where it does, and no other is shown, it is shown
held_alone : (labels : List LabelInfo) (a : LabelInfo) (o : ℕ) → holds a o ≡ true → shown_position labels o ≡ None
    → shown_position (labels ++ a ∷ []) o ≡ Some a.position
unfolding shown_position
held_alone labels a o inside none =
    ap (option_map (λ (a : LabelInfo). a.position))
    (best-filter_push is_preferred (λ b. holds b o) labels a ∙ cond-true (holds a o) _ _ inside)
    ∙ better_none (label-shown labels o) a none

-- functions that agree below a place are shown by the same stretches
shows_same : (f g : ℕ → Option ℕ) (n : ℕ) (stretches : List Stretch) → ((k : ℕ) → k < n → g k ≡ f k) → ShowsBelow f n stretches → ShowsBelow g n stretches
shows_same f g n stretches same h =
    record { below = λ k more lt. h.below k more lt ∙ sym (same k lt); behind = h.behind }

-- one more label that starts behind the others
pub apart_more : (labels : List LabelInfo) (a : LabelInfo) (offset place start end : ℕ) (stretches : List Stretch) → Apart labels offset place stretches
    → a.start ≡ offset + start → place ≤ start → end ≡ max start (a.end - offset)
    → Apart (labels ++ a ∷ []) offset end ((stretches ++ record { end = start; position = None } ∷ []) ++ record { end = end; position = Some a.position } ∷ [])
apart_more labels a offset place start end stretches h starts from ends =
    let f = λ (k : ℕ). shown_position labels (offset + k) in
    let g = λ (k : ℕ). shown_position (labels ++ a ∷ []) (offset + k) in
    let before : (k : ℕ) → k < start → g k ≡ f k = λ k lt. not_held labels a (offset + k) (holds_before a (offset + k) (omega arith)) in
    let gap = shows_more g place stretches (record { end = start; position = None })
    (shows_same f g place stretches (λ k lt. before k (omega arith)) h.shows) from
    (λ k behind lt. sym (before k lt ∙ h.rest k behind)) in
    record {
      shows = shows_more g start (stretches ++ record { end = start; position = None } ∷ []) (record { end = end; position = Some a.position }) gap (omega arith)
          (λ k behind lt. sym (held_alone labels a (offset + k) (holds_inside a (offset + k) (omega arith) (omega arith)) (h.rest k (omega arith))));
      rest = λ k behind.
          not_held labels a (offset + k) (holds_behind a (offset + k) (omega arith)) ∙ h.rest k (omega arith);
    }

-- one more label of those that lie within the line
pub inline_more : (xs : List LineLabel) (i : ℕ) (d : LineLabel) → i < length xs → is_inline (get_or xs i d).side ≡ true
    → inline_infos (take (i + 1) xs) ≡ inline_infos (take i xs) ++ (get_or xs i d).info ∷ []
unfolding inline_infos infos_of
inline_more xs i d below is =
    let first = filter (λ (x : LineLabel). is_inline x.side) (take i xs) in
    let x = get_or xs i d in
    ap (map (λ (x : LineLabel). x.info))
    (filter_more (λ (x : LineLabel). is_inline x.side) xs i d below ∙ ap (λ t. first ++ t) (cond-true (is_inline x.side) (x ∷ []) [] is))
    ∙ map-append (λ (x : LineLabel). x.info) first (x ∷ [])

-- one that does not
pub inline_same : (xs : List LineLabel) (i : ℕ) (d : LineLabel) → i < length xs → is_inline (get_or xs i d).side ≡ false
    → inline_infos (take (i + 1) xs) ≡ inline_infos (take i xs)
unfolding inline_infos infos_of
inline_same xs i d below is =
    let first = filter (λ (x : LineLabel). is_inline x.side) (take i xs) in
    let x = get_or xs i d in
    ap (map (λ (x : LineLabel). x.info))
    (filter_more (λ (x : LineLabel). is_inline x.side) xs i d below ∙ ap (λ t. first ++ t) (cond-false (is_inline x.side) (x ∷ []) [] is) ∙ append-nil first)
