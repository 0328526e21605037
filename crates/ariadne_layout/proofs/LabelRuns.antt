-- What two lists of labels show, one behind the other, is the better one of what each shows; and the runs of a line tell it.
use Rattle.std.proofs.Common.{◌≡◌, ℕ, length, get_or, drop, add-one, ◌+◌, ◌-◌, ◌<◌, ◌≤◌, ◌⊎◌, Bool, true, false, cond, List, [], ◌∷◌, ◌++◌, Option, Some, None, filter, option_copied, Bor, min, inl, inr}
use Rattle.std.proofs.Common.{refl, sym, ap, ◌∙◌, subst, arith}
use Rattle.std.specs.Cmp.{IsStrictWeakOrder}
use Rattle.std.specs.Option.{option_or}
use Rattle.std.specs.List.{best_of}
use Rattle.std.proofs.lemmas.Bool.{cond-true, cond-false, cases_Bool, cases_lt, lt-ltb, le-ltb, true≢false}
use Rattle.std.proofs.Math.ListN.{drop_of_length-le}
use Rattle.std.proofs.Math.Seq.{drop-cons}
use Rattle.std.proofs.lemmas.List.{append-nil, append_assoc}
use Rattle.std.proofs.lemmas.List.Elements.{filter-append}
use Rattle.std.proofs.lemmas.List.Sums.{fold-append}
use Rattle.ariadne_picture.specs.declared.label_info.LabelInfo.{LabelInfo}
use Rattle.ariadne_picture.specs.Lists.{best}
use Rattle.ariadne_picture.specs.Strokes.{holds, is_preferred}
use Rattle.ariadne_picture.proofs.Labels.Orders.{preferred}
use Rattle.ariadne_picture.proofs.Lists.ListFacts.{none≢some}
use Rattle.ariadne_layout.specs.declared.choice.Choice.{Choice}
use Rattle.ariadne_layout.specs.declared.label_runs.LabelRun.{LabelRun}
use Rattle.ariadne_layout.specs.Choices.{IsChoice}
use Rattle.ariadne_layout.specs.LabelRuns.{AreLabelRuns, Reach, better_one, seen_at}
use Rattle.ariadne_layout.proofs.Stretched.{choice-shown, label-shown}

-- ---- the best of two lists

module _ {X : Type 0} (beats : X → X → Bool) (o : IsStrictWeakOrder beats) where
  -- of two the second only where it beats the first
  either : X → X → X
  either b x = cond (beats x b) x b

  -- one that beats another beats what that beats
  beats-through : (x y z : X) → beats x y ≡ true → beats y z ≡ true → beats x z ≡ true
  beats-through x y z f g = elim (cases_Bool (beats x z)) [
    | inl t ↦ t
    | inr n ↦ let no : beats x y ≡ false = o.chain x z y n (o.one_way y z g) in absurd (true≢false (sym f ∙ no))
  ]

  -- of three it does not matter which two are compared first
  either_assoc : (a b c : X) → either (either a b) c ≡ either a (either b c)
  unfolding either
  either_assoc a b c = elim (cases_Bool (beats b a)) [
    | inl t ↦ elim (cases_Bool (beats c b)) [
      | inl s ↦ let u = beats-through c b a s t in rw (t, s, u)
      | inr s ↦ rw (t, s, t)
    ]
    | inr t ↦ elim (cases_Bool (beats c b)) [
      | inl s ↦ rw (t, s)
      | inr s ↦ let u = o.chain c b a s t in rw (t, s, t, u)
    ]
  ]

  -- so the best from one element on is the better one of that and the best of those behind it
  best_of_behind : (a b : X) (xs : List X) → best_of beats (either a b) xs ≡ either a (best_of beats b xs)
  unfolding either
  best_of_behind a b [] = refl
  best_of_behind a b (x ∷ xs) = ap (λ t. best_of beats t xs) (either_assoc a b x) ∙ best_of_behind a (either b x) xs

-- the best of two lists is the better one of the best of each
best-both : (xs ys : List LabelInfo) → best is_preferred (xs ++ ys) ≡ better_one (best is_preferred xs) (best is_preferred ys)
unfolding best better_one either
best-both [] ys = refl
best-both (x ∷ xs) [] = ap (best is_preferred) (append-nil (x ∷ xs))
best-both (x ∷ xs) (y ∷ ys) =
    ap Some (fold-append (λ b z. cond (is_preferred z b) z b) x xs (y ∷ ys)
    ∙ best_of_behind is_preferred preferred (best_of is_preferred x xs) y ys)

-- so what two lists of labels show, one behind the other
shown-both : (held : LabelInfo → Bool) (xs ys : List LabelInfo)
    → best is_preferred (filter held (xs ++ ys)) ≡ better_one (best is_preferred (filter held xs)) (best is_preferred (filter held ys))
shown-both held xs ys = ap (best is_preferred) (filter-append held xs ys) ∙ best-both (filter held xs) (filter held ys)

-- ---- runs, from a place on

-- these runs are what is left of others from a place on
pub record Rest (whole : List LabelRun) (place len : ℕ) (rest : List LabelRun) : Type 0 where
  pub reach : Reach place len rest
  pub same : (k : ℕ) → place ≤ k → seen_at whole k ≡ seen_at rest k

-- from the first place on they all are
rest-all : (whole : List LabelRun) (len : ℕ) → Reach 0 len whole → Rest whole 0 len whole
rest-all whole len h = record { reach = h; same = λ k from. refl }

-- a run that ends is none of them
rest-behind : (whole rest : List LabelRun) (place next len : ℕ) (a : LabelRun) → Rest whole place len (a ∷ rest) → a.end ≡ next
    → Rest whole next len rest
unfolding seen_at
rest-behind whole rest place next len a h ends = record {
  reach = subst (λ n. Reach n len rest) ends h.reach.1;
  same = λ k from. let more = h.reach.0 in
      h.same k (omega arith) ∙ cond-false _ (option_copied a.label) (seen_at rest k) (le-ltb k a.end (omega arith));
}

-- through the first one its label is seen
rest-here : (whole rest : List LabelRun) (place len k : ℕ) (a : LabelRun) → Rest whole place len (a ∷ rest) → place ≤ k → k < a.end
    → seen_at whole k ≡ option_copied a.label
unfolding seen_at
rest-here whole rest place len k a h from below =
    h.same k from ∙ cond-true _ (option_copied a.label) (seen_at rest k) (lt-ltb k a.end below)

-- ---- runs, one behind another

-- the runs show what f gives at each place below n, and leave those from n on to the runs that follow
pub record SeenBelow (f : ℕ → Option LabelInfo) (n : ℕ) (runs : List LabelRun) : Type 0 where
  pub below : (k : ℕ) (more : List LabelRun) → k < n → seen_at (runs ++ more) k ≡ f k
  pub behind : (k : ℕ) (more : List LabelRun) → n ≤ k → seen_at (runs ++ more) k ≡ seen_at more k
  pub reach : (len : ℕ) (more : List LabelRun) → Reach n len more → Reach 0 len (runs ++ more)

-- no run shows nothing
pub seen-none : (f : ℕ → Option LabelInfo) → SeenBelow f 0 []
seen-none f = record { below = λ k more h. absurd (omega arith); behind = λ k more h. refl; reach = λ len more h. h }

-- one more run, through which f gives its label
seen-more : (f : ℕ → Option LabelInfo) (n : ℕ) (runs : List LabelRun) (a : LabelRun) → SeenBelow f n runs → n ≤ a.end
    → ((k : ℕ) → n ≤ k → k < a.end → option_copied a.label ≡ f k) → SeenBelow f a.end (runs ++ a ∷ [])
unfolding seen_at
seen-more f n runs a h less same = record {
  below = λ k more lt.
      ap (λ t. seen_at t k) (append_assoc runs (a ∷ []) more)
      ∙ elim (cases_lt k n) [
        | inl before ↦ h.below k (a ∷ more) before
        | inr from ↦ h.behind k (a ∷ more) from ∙ cond-true _ (option_copied a.label) (seen_at more k) (lt-ltb k a.end lt) ∙ same k from lt
      ];
  behind = λ k more from.
      ap (λ t. seen_at t k) (append_assoc runs (a ∷ []) more)
      ∙ h.behind k (a ∷ more) (omega arith) ∙ cond-false _ (option_copied a.label) (seen_at more k) (le-ltb k a.end from);
  reach = λ len more to. subst (Reach 0 len) (sym (append_assoc runs (a ∷ []) more)) (h.reach len (a ∷ more) (less, to));
}

-- so does the run of a choice among some labels
pub runs_choice : (labels : List LabelInfo) (offset place to : ℕ) (choice : Choice) (runs more : List LabelRun) (a : LabelRun)
    → SeenBelow (λ k. label-shown labels (offset + k)) place runs → IsChoice labels (offset + place) (to - place) choice → place < to
    → a.end ≡ place + choice.len → option_copied a.label ≡ option_copied choice.best → more ≡ runs ++ a ∷ []
    → SeenBelow (λ k. label-shown labels (offset + k)) a.end more
runs_choice labels offset place to choice runs more a h choice_is inside end label pushed =
    let f = λ (k : ℕ). label-shown labels (offset + k) in
    subst (SeenBelow f a.end) (sym pushed)
    (seen-more f place runs a h (omega arith)
    (λ k from below.
    let same : (offset + place) + (k - place) ≡ offset + k = omega arith in
    label ∙ choice-shown labels (offset + place) (to - place) choice (k - place) choice_is (omega arith) ∙ ap (label-shown labels) same))

-- ---- two lists of runs, merged

-- what both show at a place
abbrev pub both-at : List LabelRun → List LabelRun → ℕ → Option LabelInfo
both-at first second k = better_one (seen_at first k) (seen_at second k)

-- up to a place both are merged, and from there on these many runs of each are passed
pub record Merging (first second : List LabelRun) (len i j : ℕ) (runs : List LabelRun) : Type 0 where
  pub place : ℕ
  pub left-first : Rest first place len (drop i first)
  pub left-second : Rest second place len (drop j second)
  pub seen : SeenBelow (both-at first second) place runs

-- at first none is
pub merging-none : (first second : List LabelRun) (len : ℕ) → Reach 0 len first → Reach 0 len second → Merging first second len 0 0 []
merging-none first second len f g =
    record { place = 0; left-first = rest-all first len f; left-second = rest-all second len g; seen = seen-none (both-at first second) }

-- the runs that are left begin with this one
left-is : (whole : List LabelRun) (place len i : ℕ) (d : LabelRun) → i < length whole → Rest whole place len (drop i whole)
    → Rest whole place len (get_or whole i d ∷ drop (i + 1) whole)
left-is whole place len i d below h =
    let is : drop i whole ≡ get_or whole i d ∷ drop (i + 1) whole = rw (add-one, drop-cons whole i d) in
    subst (Rest whole place len) is h

-- it does not end before them
left-reaches : (whole : List LabelRun) (place len i : ℕ) (d : LabelRun) → i < length whole → Rest whole place len (drop i whole) → place ≤ (get_or whole i d).end
left-reaches whole place len i d below h = let left = left-is whole place len i d below h in left.reach.0

-- where it ends it is passed
pub left-passed : (whole : List LabelRun) (place next len i : ℕ) (d : LabelRun) → i < length whole → Rest whole place len (drop i whole)
    → (get_or whole i d).end ≡ next → Rest whole next len (drop (i + 1) whole)
left-passed whole place next len i d below h ends =
    rest-behind whole (drop (i + 1) whole) place next len (get_or whole i d) (left-is whole place len i d below h) ends

-- where it goes on it stays
pub left-stays : (whole : List LabelRun) (place next len i : ℕ) (d : LabelRun) → i < length whole → Rest whole place len (drop i whole)
    → place ≤ next → next ≤ (get_or whole i d).end → Rest whole next len (drop i whole)
left-stays whole place next len i d below h on within = record {
  reach =
      let is : drop i whole ≡ get_or whole i d ∷ drop (i + 1) whole = rw (add-one, drop-cons whole i d) in
      let left = left-is whole place len i d below h in
      subst (Reach next len) (sym is) (within, left.reach.1);
  same = λ k from. h.same k (omega arith);
}

-- up to where the first of two runs ends the better one of their labels is seen
pub merging-more : (first second runs more : List LabelRun) (place len i j : ℕ) (d e p : LabelRun) → i < length first → j < length second
    → Rest first place len (drop i first) → Rest second place len (drop j second) → SeenBelow (both-at first second) place runs
    → p.end ≡ min (get_or first i d).end (get_or second j e).end
    → option_copied p.label ≡ better_one (option_copied (get_or first i d).label) (option_copied (get_or second j e).label)
    → more ≡ runs ++ p ∷ [] → (place ≤ p.end) × SeenBelow (both-at first second) p.end more
merging-more first second runs more place len i j d e p below-first below-second f g h ends label is =
    let from-first = left-reaches first place len i d below-first f in
    let from-second = left-reaches second place len j e below-second g in (
      omega arith,
      subst (SeenBelow (both-at first second) p.end) (sym is) (seen-more (both-at first second) place runs p h (omega arith)
          (λ k from below. label
          ∙ (λ m. better_one
          (sym (rest-here first (drop (i + 1) first) place len k (get_or first i d) (left-is first place len i d below-first f) from (omega arith)) m)
          (sym (rest-here second (drop (j + 1) second) place len k (get_or second j e) (left-is second place len j e below-second g) from (omega arith)) m)))),
    )

-- where nothing of one list is left, all places are merged
pub merged-all : (xs ys : List LabelInfo) (offset len i j : ℕ) (first second runs : List LabelRun) → AreLabelRuns xs offset len first
    → AreLabelRuns ys offset len second → Merging first second len i j runs → (length first ≤ i) ⊎ (length second ≤ j)
    → AreLabelRuns (xs ++ ys) offset len runs
merged-all xs ys offset len i j first second runs f g h ends =
    let at-end : h.place ≡ len = elim ends [
      | inl e ↦ subst (Reach h.place len) (drop_of_length-le first e) h.left-first.reach
      | inr e ↦ subst (Reach h.place len) (drop_of_length-le second e) h.left-second.reach
    ] in
    record {
      reach = subst (Reach 0 len) (append-nil runs) (h.seen.reach len [] at-end);
      show = λ k below.
          ap (λ t. seen_at t k) (sym (append-nil runs)) ∙ h.seen.below k [] (omega arith)
          ∙ (λ m. better_one (f.show k below m) (g.show k below m))
          ∙ sym (shown-both (λ a. holds a (offset + k)) xs ys);
    }

-- ---- of two labels the one that is shown

-- the second, where it is preferred
pub better-second : (first second : Option (Bor LabelInfo)) (a b : Bor LabelInfo) → first ≡ Some a → second ≡ Some b
    → is_preferred b.now a.now ≡ true → option_copied second ≡ better_one (option_copied first) (option_copied second)
unfolding better_one
better-second first second a b is-first is-second wins = rw (is-first, is-second, wins)

-- the first, where it is not
pub better-first : (first second : Option (Bor LabelInfo)) (a b : Bor LabelInfo) → first ≡ Some a → second ≡ Some b
    → is_preferred b.now a.now ≡ false → option_copied first ≡ better_one (option_copied first) (option_copied second)
unfolding better_one
better-first first second a b is-first is-second loses = rw (is-first, is-second, loses)

-- the only one, if there is one
pub better-only : (first second : Option (Bor LabelInfo)) → (first ≡ None) ⊎ (second ≡ None)
    → option_copied (option_or first second) ≡ better_one (option_copied first) (option_copied second)
unfolding better_one
better-only None second h = refl
better-only (Some a) None h = refl
better-only (Some a) (Some b) (inl e) = absurd (none≢some a (sym e))
better-only (Some a) (Some b) (inr e) = absurd (none≢some b (sym e))
