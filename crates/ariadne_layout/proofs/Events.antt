-- The events of a group: they rise by line, those of a line are its labels, and a line without one has no labels.
use Rattle.std.proofs.Common.{◌≡◌, ◌≢◌, ℕ, ◌+◌, ◌<◌, ◌≤◌, Bool, true, false, not, ◌&&◌, ◌==◌, cond, List, [], ◌∷◌, ◌++◌, length, map, get_or, filter, nat_le, nat_lt}
use Rattle.std.proofs.Common.{refl, sym, ap, ◌∙◌, subst, arith, inl, inr, Some, None, if◌then◌else◌, ◌-◌, take, drop}
use Rattle.std.specs.Prelude.{slice_get, slice_range, is_some, option_to_list}
use Rattle.std.specs.List.{AllByRecursion, enumerate_from, prefix_len}
use Rattle.std.specs.List.Sorted.{ties}
use Rattle.std.proofs.lemmas.Bool.{cond_both, cases_Bool, cases_lt, cases_order, true≢false, ltb-false, lt-ltb, le-ltb, le-leb, lt-leb, eq-eqb, ne_eqb, eqb-true, and_parts, not-true}
use Rattle.std.proofs.lemmas.List.{length-append}
use Rattle.std.proofs.lemmas.List.Elements.{filter-append, filter_agree}
use Rattle.std.proofs.lemmas.List.Sorted.{IsStrictWeakOrder-by_number}
use Rattle.std.proofs.lemmas.List.Sums.{prefix_len_stops}
use Rattle.std.proofs.lemmas.Option.{slice_get-get_or, slice_get_within, get_or_from_slice_get}
use Rattle.ariadne_picture.specs.declared.label_info.LabelInfo.{LabelInfo}
use Rattle.ariadne_picture.specs.declared.label_info.LineLabel.{LineLabel}
use Rattle.ariadne_picture.specs.declared.label_info.Side.TheVariants.{Inline, Starts, Ends}
use Rattle.ariadne_picture.specs.Groups.{group_start_line, group_end_line}
use Rattle.ariadne_picture.specs.Lists.{in_order, joined, best}
use Rattle.ariadne_picture.specs.Ranks.{Sheet, gutter_labels, gutter_label_ends, ends_at, inline_labels, is_on_one_line, is_nearer_margin, is_before, margin_label, is_margin, is_start}
use Rattle.ariadne_picture.specs.Ranks.{line_labels, first_line, is_unlabelled}
use Rattle.ariadne_picture.proofs.Labels.Orders.{best-none}
use Rattle.ariadne_picture.proofs.Lists.Elements.{all-from, all-numbered}
use Rattle.ariadne_picture.proofs.Lists.Joined.{filter-joined, joined-append, joined-joined}
use Rattle.ariadne_picture.proofs.Lists.ListFacts.{none≢some, all-weaker, all-append, all-at, all-filter, all-in_order, all-joined, filter-none, length-in_order, increasing-pairs}
use Rattle.ariadne_picture.proofs.Lists.StableOrder.{in_order-stable}
use Rattle.ariadne_picture.proofs.Rows.RowsThere.{all-gutter-labels, starts-within, ends-within}
use Rattle.ariadne_layout.specs.declared.snippet_labels.Event.{Event}
use Rattle.ariadne_layout.specs.SnippetLabels.{gutter_events, inline_events, events_of, event_label, labels_of, events_at, IsLineEnd}
use Rattle.ariadne_layout.proofs.Ranking.{sheet_of}
use Rattle.ariadne_layout.proofs.Rising.{RisesBy, in_order-rises, below-prefix, part-between, reached, filter-shorter}

-- ---- lists

-- two functions that agree at each element that has a property
joined-alike : {X Y : Type 0} (P : X → Type 0) (f g : X → List Y) → ((x : X) → P x → f x ≡ g x) → (xs : List X) → AllByRecursion P xs
    → joined f xs ≡ joined g xs
unfolding joined
joined-alike P f g e [] a = refl
joined-alike P f g e (x ∷ xs) a = λ i. e x a.0 i ++ joined-alike P f g e xs a.1 i

-- a part of one element for each that passes a test
joined-tested : {X Y : Type 0} (t : X → Bool) (f : X → Y) (n : ℕ) (xs : List X)
    → joined (λ (e : ℕ × X). cond (t e.1) (f e.1 ∷ []) []) (enumerate_from n xs) ≡ map f (filter t xs)
unfolding joined
joined-tested t f n [] = refl
joined-tested t f n (x ∷ xs) =
    elim (t x) as (λ v. cond v (f x ∷ []) [] ++ joined (λ (e : ℕ × _). cond (t e.1) (f e.1 ∷ []) []) (enumerate_from (n + 1) xs)
    ≡ map f (cond v (x ∷ filter t xs) (filter t xs))) [
      | true ↦ ap (λ ys. f x ∷ ys) (joined-tested t f (n + 1) xs)
      | false ↦ joined-tested t f (n + 1) xs
    ]

-- each element of a list stands in it under its number
numbered : {X : Type 0} (xs : List X) → AllByRecursion (λ e. slice_get xs e.0 ≡ Some e.1) (enumerate_from 0 xs)
numbered xs = all-numbered (λ e. slice_get xs e.0 ≡ Some e.1) xs (λ k x e. e)

-- a list of no elements has none
none : {X : Type 0} (xs : List X) → length xs ≡ 0 → xs ≡ []
none [] e = refl
none (x ∷ xs) e = absurd (omega arith)

-- ---- the events rise by line

-- they are put in order
pub events-rise : (labels : List LabelInfo) → RisesBy (λ e. e.line) (events_of labels)
unfolding events_of
events-rise labels =
    in_order-rises (λ e. e.line) (joined gutter_events (enumerate_from 0 (gutter_labels labels)) ++ joined inline_events (enumerate_from 0 labels))

-- ---- the events of a line are its labels

-- of events by line those tie that are on one line
ties-line : (w x : Event) → ties (λ (a b : Event). nat_lt a.line b.line) w x ≡ (x.line == w.line)
ties-line w x = elim (cases_order w.line x.line) [
  | inl e ↦ rw (le-ltb w.line x.line (omega arith), le-ltb x.line w.line (omega arith), eq-eqb x.line w.line (sym e))
  | inr h ↦ elim h [
    | inl l ↦ rw (lt-ltb w.line x.line l, ne_eqb x.line w.line (omega arith))
    | inr l ↦ rw (lt-ltb x.line w.line l, le-ltb w.line x.line (omega arith), ne_eqb x.line w.line (omega arith))
  ]
]

-- so the events of a line stand as before they were put in order
kept-order : (l : ℕ) (xs : List Event)
    → filter (λ e. e.line == l) (in_order (λ a b. nat_lt a.line b.line) xs) ≡ filter (λ e. e.line == l) xs
kept-order l xs =
    let less : Event → Event → Bool = λ a b. nat_lt a.line b.line in
    let w : Event = record { line = l; index = 0; side = Inline } in
    let same : (x : Event) → ties less w x ≡ (x.line == l) = λ x. ties-line w x in
    sym (filter_agree (ties less w) (λ e. e.line == l) same (in_order less xs))
    ∙ in_order-stable less (IsStrictWeakOrder-by_number (λ (e : Event). e.line)) xs w ∙ filter_agree (ties less w) (λ e. e.line == l) same xs

module _ (labels : List LabelInfo) (l : ℕ) where
  -- whether an event is on the line
  abbrev on_line : Event → Bool
  on_line e = e.line == l

  -- the label of an event, as a list
  abbrev own : Event → List LineLabel
  own e = option_to_list (event_label labels e.side e.index)

  -- of gutter label i those of its two ends that are on the line
  gutter-label-at : (e : ℕ × LabelInfo) → slice_get (gutter_labels labels) e.0 ≡ Some e.1
      → joined own (filter on_line (gutter_events e)) ≡ gutter_label_ends l e.0 e.1
  unfolding joined gutter_label_ends event_label
  gutter-label-at e there =
      let a = e.1 in
      let start : Event = record { line = a.start_line; index = e.0; side = Starts } in
      let end : Event = record { line = a.end_line; index = e.0; side = Ends } in
      let first : LineLabel = record { info = a; side = Starts; gutter_column = e.0; place = a.start_place } in
      let last : LineLabel = record { info = a; side = Ends; gutter_column = e.0; place = a.end_place } in
      let is_first : own start ≡ first ∷ [] = rw there refl in
      let is_last : own end ≡ last ∷ [] = rw there refl in
      elim (a.start_line == l) as (λ v. joined own (cond v (start ∷ filter on_line (end ∷ [])) (filter on_line (end ∷ [])))
      ≡ cond v (first ∷ []) [] ++ (if a.end_line == l then last ∷ [] else [])) [
        | true ↦ elim (a.end_line == l) as (λ v. joined own (start ∷ cond v (end ∷ []) []) ≡ (first ∷ []) ++ cond v (last ∷ []) []) [
          | true ↦ λ i. is_first i ++ (is_last i ++ [])
          | false ↦ λ i. is_first i ++ []
        ]
        | false ↦ elim (a.end_line == l) as (λ v. joined own (cond v (end ∷ []) []) ≡ cond v (last ∷ []) []) [
          | true ↦ λ i. is_last i ++ []
          | false ↦ refl
        ]
      ]

  -- so the events of gutter labels are the ends at the line
  gutter-at : joined own (filter on_line (joined gutter_events (enumerate_from 0 (gutter_labels labels)))) ≡ ends_at labels l
  unfolding ends_at
  gutter-at =
      ap (joined own) (filter-joined on_line gutter_events (enumerate_from 0 (gutter_labels labels)))
      ∙ joined-joined own (λ (e : ℕ × LabelInfo). filter on_line (gutter_events e)) (enumerate_from 0 (gutter_labels labels))
      ∙ joined-alike (λ (e : ℕ × LabelInfo). slice_get (gutter_labels labels) e.0 ≡ Some e.1) (λ e. joined own (filter on_line (gutter_events e)))
      (λ e. gutter_label_ends l e.0 e.1) gutter-label-at (enumerate_from 0 (gutter_labels labels)) (numbered (gutter_labels labels))

  -- a label within the line as it stands there
  abbrev inline_label : LabelInfo → LineLabel
  inline_label a = record { info = a; side = Inline; gutter_column = 0; place = a.attach }

  -- a label of the group, if it lies within the line
  inline-label-at : (e : ℕ × LabelInfo) → slice_get labels e.0 ≡ Some e.1
      → joined own (filter on_line (inline_events e)) ≡ cond (is_on_one_line e.1 && (e.1.start_line == l)) (inline_label e.1 ∷ []) []
  unfolding joined event_label
  inline-label-at e there =
      let a = e.1 in
      let event : Event = record { line = a.start_line; index = e.0; side = Inline } in
      let is_label : own event ≡ inline_label a ∷ [] = rw there refl in
      elim (is_on_one_line a) as (λ v. joined own (filter on_line (cond v (event ∷ []) []))
      ≡ cond (v && (a.start_line == l)) (inline_label a ∷ []) []) [
        | true ↦ elim (a.start_line == l) as (λ v. joined own (cond v (event ∷ []) []) ≡ cond v (inline_label a ∷ []) []) [
          | true ↦ λ i. is_label i ++ []
          | false ↦ refl
        ]
        | false ↦ refl
      ]

  -- so the other events are the labels within the line
  inline-at : joined own (filter on_line (joined inline_events (enumerate_from 0 labels))) ≡ inline_labels labels l
  unfolding inline_labels
  inline-at =
      let test : LabelInfo → Bool = λ a. is_on_one_line a && (a.start_line == l) in
      ap (joined own) (filter-joined on_line inline_events (enumerate_from 0 labels))
      ∙ joined-joined own (λ (e : ℕ × LabelInfo). filter on_line (inline_events e)) (enumerate_from 0 labels)
      ∙ joined-alike (λ (e : ℕ × LabelInfo). slice_get labels e.0 ≡ Some e.1) (λ e. joined own (filter on_line (inline_events e)))
      (λ e. cond (test e.1) (inline_label e.1 ∷ []) []) inline-label-at (enumerate_from 0 labels) (numbered labels)
      ∙ joined-tested test inline_label 0 labels

  -- the labels of the events of a line: the ends of gutter labels, then the labels within it
  pub labels-at : labels_of labels (events_at labels l) ≡ ends_at labels l ++ inline_labels labels l
  unfolding labels_of events_at events_of
  labels-at =
      let ends : List Event = joined gutter_events (enumerate_from 0 (gutter_labels labels)) in
      let inlines : List Event = joined inline_events (enumerate_from 0 labels) in
      ap (joined own) (kept-order l (ends ++ inlines) ∙ filter-append on_line ends inlines)
      ∙ joined-append own (filter on_line ends) (filter on_line inlines) ∙ (λ i. gutter-at i ++ inline-at i)

-- ---- each event has a label

-- the label that an event names is there
abbrev HasLabel : List LabelInfo → Event → Type 0
HasLabel labels e = is_some (event_label labels e.side e.index) ≡ true

-- so it is for both ends of a gutter label
gutter-labelled : (labels : List LabelInfo) (e : ℕ × LabelInfo) → slice_get (gutter_labels labels) e.0 ≡ Some e.1 → AllByRecursion (HasLabel labels) (gutter_events e)
unfolding event_label
gutter-labelled labels e there = (rw there refl, (rw there refl, tt))

-- and for a label within one line
inline-labelled : (labels : List LabelInfo) (e : ℕ × LabelInfo) → slice_get labels e.0 ≡ Some e.1 → AllByRecursion (HasLabel labels) (inline_events e)
unfolding event_label
inline-labelled labels e there =
    cond_both (is_on_one_line e.1) _ [] (AllByRecursion (HasLabel labels)) (λ _. (rw there refl, tt)) (λ _. tt)

-- so it is for each event
pub events-labelled : (labels : List LabelInfo) → AllByRecursion (HasLabel labels) (events_of labels)
unfolding events_of
events-labelled labels =
    let ends : List Event = joined gutter_events (enumerate_from 0 (gutter_labels labels)) in
    let inlines : List Event = joined inline_events (enumerate_from 0 labels) in
    all-in_order (HasLabel labels) (λ a b. nat_lt a.line b.line) (ends ++ inlines)
    (all-append (HasLabel labels) ends inlines
    (all-joined (HasLabel labels) (λ e. slice_get (gutter_labels labels) e.0 ≡ Some e.1) gutter_events (enumerate_from 0 (gutter_labels labels)) (gutter-labelled labels)
    (numbered (gutter_labels labels)))
    (all-joined (HasLabel labels) (λ e. slice_get labels e.0 ≡ Some e.1) inline_events (enumerate_from 0 labels) (inline-labelled labels)
    (numbered labels)))

-- events that have labels give none only if there are none
none-labelled : (labels : List LabelInfo) (events : List Event) → AllByRecursion (HasLabel labels) events → labels_of labels events ≡ [] → events ≡ []
unfolding labels_of joined
none-labelled labels [] a e = refl
none-labelled labels (x ∷ xs) a e = elim (event_label labels x.side x.index) as (λ o. is_some o ≡ true → option_to_list o ++ labels_of labels xs ≡ [] → x ∷ xs ≡ []) [
  | None ↦ λ h _. absurd (true≢false (sym h))
  | Some y ↦ λ _ h. absurd (let few : length (y ∷ labels_of labels xs) ≡ 0 = ap length h in omega arith)
] a.0 e

-- ---- a line without an event has no labels

-- no label has anything at a line that no event is on
pub no_event-unlabelled : (labels : List LabelInfo) (l : ℕ) → events_at labels l ≡ [] → is_unlabelled labels l ≡ true
unfolding is_unlabelled line_labels margin_label labels_of joined best in_order
no_event-unlabelled labels l e =
    let both : ends_at labels l ++ inline_labels labels l ≡ [] = sym (labels-at labels l) ∙ ap (labels_of labels) e in
    let few : length (ends_at labels l) + length (inline_labels labels l) ≡ 0 = sym (length-append (ends_at labels l) (inline_labels labels l)) ∙ ap length both in
    let no_ends : ends_at labels l ≡ [] = none (ends_at labels l) (omega arith) in
    let no_inlines : inline_labels labels l ≡ [] = none (inline_labels labels l) (omega arith) in
    rw (no_ends, no_inlines) refl

-- and no event is on a line where none has
pub unlabelled-no_event : (labels : List LabelInfo) (l : ℕ) → is_unlabelled labels l ≡ true → events_at labels l ≡ []
unfolding is_unlabelled line_labels margin_label events_at
unlabelled-no_event labels l h =
    let t : LineLabel → Bool = λ x. not (is_start x.side && is_margin (margin_label labels l) x) in
    let all : List LineLabel = filter t (ends_at labels l) ++ inline_labels labels l in
    let parts = and_parts (length (line_labels labels l) == 0) (not (is_some (margin_label labels l))) h in
    let few : length all ≡ 0 = sym (length-in_order is_before all) ∙ eqb-true (length (line_labels labels l)) 0 parts.0 in
    let shorter = length-append (filter t (ends_at labels l)) (inline_labels labels l) in
    let no_inlines : inline_labels labels l ≡ [] = none (inline_labels labels l) (omega arith) in
    let no_margin : margin_label labels l ≡ None = is_none (margin_label labels l) (not-true (is_some (margin_label labels l)) parts.1) in
    let no_ends : ends_at labels l ≡ [] = best-none is_nearer_margin (ends_at labels l) no_margin in
    none-labelled labels (events_at labels l) (all-filter (HasLabel labels) (λ e. e.line == l) (events_of labels) (events-labelled labels))
    (labels-at labels l ∙ (λ i. no_ends i ++ no_inlines i))
  where
    is_none : {X : Type 0} (o : Rattle.std.specs.Prelude.Option X) → is_some o ≡ false → o ≡ None
    is_none None e = refl
    is_none (Some x) e = absurd (true≢false e)

-- so the line of an event has some
pub event-labelled : (labels : List LabelInfo) (k : ℕ) (e : Event) → slice_get (events_of labels) k ≡ Some e → is_unlabelled labels e.line ≡ false
unfolding events_at
event-labelled labels k e there = elim (cases_Bool (is_unlabelled labels e.line)) [
  | inr f ↦ f
  | inl t ↦
      let gone = unlabelled-no_event labels e.line t in
      let has = Rattle.ariadne_picture.proofs.Lists.Elements.has-filter (λ x. x.line == e.line) (events_of labels) k e there (eq-eqb e.line e.line refl) in
      absurd (none≢some e (sym (ap (λ xs. slice_get xs has.place) gone) ∙ has.there))
]

-- ---- an event is on a line of its group

-- a line of the group
abbrev IsGroupLine : List LabelInfo → ℕ → Type 0
IsGroupLine labels l = (group_start_line labels ≤ l) × (l ≤ group_end_line labels)

-- a label that ends no earlier than it starts lies within these lines
pub label-lines : (labels : List LabelInfo) → AllByRecursion (λ a. a.start_line ≤ a.end_line) labels
    → AllByRecursion (λ a. IsGroupLine labels a.start_line × IsGroupLine labels a.end_line) labels
label-lines labels up =
    all-from (λ a. IsGroupLine labels a.start_line × IsGroupLine labels a.end_line) labels
    (λ k a e.
    let first = all-at (λ a. group_start_line labels ≤ a.start_line) labels k a e (starts-within labels) in
    let last = all-at (λ a. a.end_line ≤ group_end_line labels) labels k a e (ends-within labels) in
    let rises = all-at (λ a. a.start_line ≤ a.end_line) labels k a e up in
    ((first, omega arith), (omega arith, last)))

-- so each event is on one of them
pub event-lines : (labels : List LabelInfo) → AllByRecursion (λ a. a.start_line ≤ a.end_line) labels
    → AllByRecursion (λ e. (group_start_line labels ≤ e.line) × (e.line ≤ group_end_line labels)) (events_of labels)
unfolding events_of
event-lines labels up =
    let P : Event → Type 0 = λ e. IsGroupLine labels e.line in
    let Q : LabelInfo → Type 0 = λ a. IsGroupLine labels a.start_line × IsGroupLine labels a.end_line in
    let ends : List Event = joined gutter_events (enumerate_from 0 (gutter_labels labels)) in
    let inlines : List Event = joined inline_events (enumerate_from 0 labels) in
    let within = label-lines labels up in
    all-in_order P (λ a b. nat_lt a.line b.line) (ends ++ inlines)
    (all-append P ends inlines
    (all-joined P (λ e. Q e.1) gutter_events (enumerate_from 0 (gutter_labels labels)) (λ e h. (h.0, (h.1, tt)))
    (all-numbered (λ e. Q e.1) (gutter_labels labels) (λ k a e. all-at Q (gutter_labels labels) k a e (all-gutter-labels Q (sheet_of labels) within))))
    (all-joined P (λ e. Q e.1) inline_events (enumerate_from 0 labels)
    (λ e h. cond_both (is_on_one_line e.1) _ [] (AllByRecursion P) (λ _. (h.0, tt)) (λ _. tt))
    (all-numbered (λ e. Q e.1) labels (λ k a e. all-at Q labels k a e within))))

-- ---- the events of one line

-- events on one line, where the next is not on it, are all that follow on it
pub whole-line : (events : List Event) (from end l : ℕ) → from < end → end ≤ length events
    → ((k : ℕ) (e : Event) → from ≤ k → k < end → slice_get events k ≡ Some e → e.line ≡ l)
    → ((e : Event) → slice_get events end ≡ Some e → e.line ≢ l) → IsLineEnd events from end
whole-line events from end l less short on next = record {
  behind = less;
  within = short;
  same_line = λ k a b low high e f. on k b low high f ∙ sym (on from a (omega arith) less e);
  next_line = λ a b e f same. next b f (same ∙ on from a (omega arith) less e);
}

-- ---- the lines are walked

-- how many events are above line l
abbrev pub above : List LabelInfo → ℕ → ℕ
above labels l = length (filter (λ e. nat_lt e.line l) (events_of labels))

-- each event is on the first line of the group or below
from-first : (s : Sheet) → AllByRecursion (λ a. a.start_line ≤ a.end_line) s.labels → AllByRecursion (λ e. first_line s ≤ e.line) (events_of s.labels)
unfolding first_line
from-first s up =
    all-weaker (λ (e : Event). (group_start_line s.labels ≤ e.line) × (e.line ≤ group_end_line s.labels)) (λ e. first_line s ≤ e.line) (events_of s.labels)
    (λ e h. let low = h.0 in omega (arith, low)) (event-lines s.labels up)

-- so none is above it
pub none-above : (s : Sheet) → AllByRecursion (λ a. a.start_line ≤ a.end_line) s.labels → above s.labels (first_line s) ≡ 0
none-above s up =
    ap length (filter-none (λ e. nat_lt e.line (first_line s)) (events_of s.labels)
    (all-weaker (λ (e : Event). first_line s ≤ e.line) (λ e. nat_lt e.line (first_line s) ≡ false) (events_of s.labels)
    (λ e low. le-ltb e.line (first_line s) low) (from-first s up)))

-- and none is on a line above it
pub none-on-line-above : (s : Sheet) (l : ℕ) → AllByRecursion (λ a. a.start_line ≤ a.end_line) s.labels → l < first_line s → events_at s.labels l ≡ []
unfolding events_at
none-on-line-above s l up less =
    filter-none (λ e. e.line == l) (events_of s.labels)
    (all-weaker (λ (e : Event). first_line s ≤ e.line) (λ e. (e.line == l) ≡ false) (events_of s.labels)
    (λ e low. ne_eqb e.line l (omega (arith, low, less))) (from-first s up))

-- at least line l and below the next is line l
at_line : (l n : ℕ) → (nat_le l n && nat_lt n (l + 1)) ≡ (n == l)
at_line l n = elim (cases_order n l) [
  | inl e ↦ rw (le-leb l n (omega arith), lt-ltb n (l + 1) (omega arith), eq-eqb n l e)
  | inr h ↦ elim h [
    | inl less ↦ rw (lt-leb l n less, ne_eqb n l (omega arith))
    | inr more ↦ rw (le-leb l n (omega arith), le-ltb n (l + 1) (omega arith), ne_eqb n l (omega arith))
  ]
]

-- the events of line l are those between the events above it and those above the next line
pub events-between : (labels : List LabelInfo) (l : ℕ) → slice_range (events_of labels) (above labels l) (above labels (l + 1)) ≡ events_at labels l
unfolding events_at
events-between labels l =
    part-between (λ (e : Event). e.line) l (l + 1) (events_of labels) (omega arith) (events-rise labels)
    ∙ filter_agree (λ x. nat_le l x.line && nat_lt x.line (l + 1)) (λ x. x.line == l) (λ x. at_line l x.line) (events_of labels)

-- a later event is on no earlier line
pub later-line : (labels : List LabelInfo) (k j : ℕ) (a b : Event) → k < j → slice_get (events_of labels) k ≡ Some a → slice_get (events_of labels) j ≡ Some b → a.line ≤ b.line
later-line labels k j a b less e f =
    let xs : List Event = events_of labels in
    let pair : (get_or xs k a).line ≤ (get_or xs j a).line =
    increasing-pairs (λ (a b : Event). a.line ≤ b.line) xs (events-rise labels) k j a less (slice_get_within xs j b f) in
    let here : (get_or xs k a).line ≡ a.line = ap (λ (x : Event). x.line) (get_or_from_slice_get xs k a a e) in
    let there : (get_or xs j a).line ≡ b.line = ap (λ (x : Event). x.line) (get_or_from_slice_get xs j b a f) in
    omega arith

-- where k events are above line l and event k is on it, its line's events end where those above the next line do
pub line-end : (labels : List LabelInfo) (l k end : ℕ) (e : Event) → above labels l ≡ k → slice_get (events_of labels) k ≡ Some e → e.line ≡ l
    → IsLineEnd (events_of labels) k end → above labels (l + 1) ≡ end
line-end labels l k end e few there on h =
    let xs : List Event = events_of labels in
    let short = h.within in
    let first = h.behind in
    reached (λ (e : Event). e.line) l (l + 1) end xs e (omega arith) (events-rise labels) short
    (λ j low less.
    let same : (get_or xs j e).line ≡ e.line = h.same_line j e (get_or xs j e) (omega arith) less there (slice_get-get_or xs j e (omega arith)) in
    omega arith)
    (λ more.
    let next : slice_get xs end ≡ Some (get_or xs end e) = slice_get-get_or xs end e more in
    let other = h.next_line e (get_or xs end e) there next in
    let later = later-line labels k end e (get_or xs end e) first there next in
    elim (cases_lt l (get_or xs end e).line) [
      | inl less ↦ omega arith
      | inr same ↦ absurd (other (omega arith))
    ])

-- so they are the events of the line
pub line-events : (labels : List LabelInfo) (l k end : ℕ) (e : Event) → above labels l ≡ k → slice_get (events_of labels) k ≡ Some e → e.line ≡ l
    → IsLineEnd (events_of labels) k end → slice_range (events_of labels) k end ≡ events_at labels l
line-events labels l k end e few there on h =
    (λ i. slice_range (events_of labels) (sym few i) (sym (line-end labels l k end e few there on h) i)) ∙ events-between labels l

-- where k events are above line l, event k is on it or below
pub next-line : (labels : List LabelInfo) (l k : ℕ) (e : Event) → above labels l ≡ k → slice_get (events_of labels) k ≡ Some e → l ≤ e.line
next-line labels l k e few there =
    let xs : List Event = events_of labels in
    let prefix = below-prefix (λ (e : Event). e.line) l xs (events-rise labels) in
    let short = slice_get_within xs k e there in
    let n : prefix_len (λ x. nat_lt x.line l) xs ≡ k = omega arith in
    let past : nat_lt (get_or xs (prefix_len (λ x. nat_lt x.line l) xs) e).line l ≡ false =
    prefix_len_stops (λ x. nat_lt x.line l) xs e (omega arith) in
    let here : get_or xs (prefix_len (λ x. nat_lt x.line l) xs) e ≡ e = ap (λ i. get_or xs i e) n ∙ get_or_from_slice_get xs k e e there in
    ltb-false e.line l (ap (λ (x : Event). nat_lt x.line l) (sym here) ∙ past)

-- and as many are above each line down to it, or down to any line where no event is left
pub still-above : (labels : List LabelInfo) (l m k : ℕ) → above labels l ≡ k → l ≤ m → ((e : Event) → slice_get (events_of labels) k ≡ Some e → m ≤ e.line) → above labels m ≡ k
still-above labels l m k few h next =
    let xs : List Event = events_of labels in
    let d : Event = record { line = 0; index = 0; side = Inline } in
    reached (λ (e : Event). e.line) l m k xs d h (events-rise labels) (subst (λ n. n ≤ length xs) few (filter-shorter (λ e. nat_lt e.line l) xs))
    (λ j low less. absurd (omega arith)) (λ more. next (get_or xs k d) (slice_get-get_or xs k d more))

-- so no event is on a line above that of event k
pub none-between : (labels : List LabelInfo) (l m k : ℕ) → above labels l ≡ k → l ≤ m → ((e : Event) → slice_get (events_of labels) k ≡ Some e → m < e.line) → events_at labels m ≡ []
none-between labels l m k few h next =
    let here : above labels m ≡ k = still-above labels l m k few h (λ e there. let less = next e there in omega arith) in
    let after : above labels (m + 1) ≡ k = still-above labels l (m + 1) k few (omega arith) (λ e there. let less = next e there in omega arith) in
    let zero_len : k - k ≡ 0 = omega arith in
    sym (events-between labels m) ∙ (λ i. slice_range (events_of labels) (here i) (after i)) ∙ ap (λ n. take n (drop k (events_of labels))) zero_len
