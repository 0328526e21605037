-- The verticals of line labels: what is seen at a place once a label stands in front of others, or is passed.
use Rattle.std.proofs.Common.{◌≡◌, ℕ, suc, ◌+◌, ◌<◌, ◌≤◌, ◌==◌, true, false, cond, not, ◌&&◌, inl, inr, List, [], ◌∷◌, ◌++◌, sym, ap, ◌∙◌}
use Rattle.std.proofs.Common.{arith, drop, get_or, IfSome, length, Option, Some, subst, take}
use Rattle.std.proofs.Math.Seq.{drop-cons}
use Rattle.std.specs.List.{find}
use Rattle.std.specs.Option.{IsSome, option_map}
use Rattle.std.specs.Prelude.{reverse}
use Rattle.std.proofs.lemmas.Bool.{and_parts, and_right, cases_Bool, eqb-true}
use Rattle.std.proofs.lemmas.List.{reverse-append, reverse-reverse, take_all, take_more}
use Rattle.ariadne_picture.specs.declared.label_info.LineLabel.{LineLabel}
use Rattle.ariadne_picture.specs.Columns.{Layout}
use Rattle.ariadne_picture.specs.Ranks.{is_margin}
use Rattle.ariadne_picture.specs.Strokes.{has_vertical, vertical_at}
use Rattle.ariadne_layout.specs.declared.verticals.Vertical.{Vertical}
use Rattle.ariadne_layout.specs.Tables.{AreVerticals, seen_vertical, vertical_of}

module _ (margin : Option LineLabel) where
  -- ---- one label

  -- where it has its vertical, that stands at its own place
  at-its-place : (k : ℕ) (x : LineLabel) → has_vertical margin k x ≡ true → x.place ≡ k
  unfolding has_vertical
  at-its-place k x h = eqb-true x.place k (and_parts (x.info.has_message && not (is_margin margin x)) (x.place == k) h).1

  -- it has none elsewhere
  none-elsewhere : (k : ℕ) (x : LineLabel) → (x.place == k) ≡ false → has_vertical margin k x ≡ false
  unfolding has_vertical
  none-elsewhere k x h = and_right (x.info.has_message && not (is_margin margin x)) (x.place == k) h

  -- and none at all, where it has none at its own place
  none-anywhere : (k : ℕ) (x : LineLabel) → has_vertical margin x.place x ≡ false → has_vertical margin k x ≡ false
  none-anywhere k x h = elim (cases_Bool (x.place == k)) [
    | inl t ↦ ap (λ p. has_vertical margin p x) (sym (eqb-true x.place k t)) ∙ h
    | inr f ↦ none-elsewhere k x f
  ]

  -- ---- some labels

  -- the vertical that is seen at place k of the rows of these labels
  abbrev pub first_of : ℕ → List LineLabel → Option Vertical
  first_of k labels = option_map vertical_of (find (has_vertical margin k) labels)

  -- it stands there
  pub first-there : (k : ℕ) (labels : List LineLabel) → IfSome (first_of k labels) (λ v. v.place ≡ k)
  first-there k [] = tt
  first-there k (x ∷ xs) = elim (cases_Bool (has_vertical margin k x)) [
    | inl t ↦ rw (t) (at-its-place k x t)
    | inr f ↦ rw (f) (first-there k xs)
  ]

  -- a label without vertical in front of others shows nothing more
  pub first-silent : (k : ℕ) (x : LineLabel) (xs : List LineLabel) → has_vertical margin x.place x ≡ false → first_of k (x ∷ xs) ≡ first_of k xs
  first-silent k x xs h = rw (none-anywhere k x h)

  -- with one it shows that at its place
  pub first-shown : (k : ℕ) (x : LineLabel) (xs : List LineLabel) → has_vertical margin x.place x ≡ true
      → first_of k (x ∷ xs) ≡ cond (x.place == k) (Some (vertical_of x)) (first_of k xs)
  first-shown k x xs h = elim (cases_Bool (x.place == k)) [
    | inl t ↦
        let here : has_vertical margin k x ≡ true = ap (λ p. has_vertical margin p x) (sym (eqb-true x.place k t)) ∙ h in
        rw (t, here)
    | inr f ↦ rw (f, none-elsewhere k x f)
  ]

  -- so it is seen there
  pub first-seen : (x : LineLabel) (xs : List LineLabel) → has_vertical margin x.place x ≡ true → IsSome (first_of x.place (x ∷ xs))
  first-seen x xs h = rw (h)

  -- once it is passed, what the others show is seen there
  pub first-passed : (k : ℕ) (x : LineLabel) (xs : List LineLabel) → has_vertical margin x.place x ≡ true
      → cond (x.place == k) (first_of x.place xs) (first_of k (x ∷ xs)) ≡ first_of k xs
  first-passed k x xs h = elim (cases_Bool (x.place == k)) [
    | inl t ↦ rw (t) (ap (λ p. first_of p xs) (eqb-true x.place k t))
    | inr f ↦ rw (f, none-elsewhere k x f)
  ]

-- ---- from the rows of a rank to those of the next

-- the labels from a rank on are that label and those from the next rank on
label-here : (labels : List LineLabel) (y : Layout) (r : ℕ) (d : LineLabel) → labels ≡ y.labels → r < length y.labels
    → drop r y.labels ≡ get_or labels r d ∷ drop (r + 1) y.labels
label-here labels y r d e h =
    let next : suc r ≡ r + 1 = omega arith in
    drop-cons y.labels r d h ∙ ap (λ ls. get_or ls r d ∷ drop (suc r) y.labels) (sym e) ∙ ap (λ m. get_or labels r d ∷ drop m y.labels) next

-- what stands at the place of a line label
pub vertical-there : (y : Layout) (r k : ℕ) (o : Option Vertical) → o ≡ option_map vertical_of (vertical_at y r k) → IfSome o (λ v. v.place ≡ k)
unfolding vertical_at
vertical-there y r k o e = subst (λ p. IfSome p (λ (v : Vertical). v.place ≡ k)) (sym e) (first-there y.margin k (drop r y.labels))

-- a label without vertical is passed, and nothing changes
pub passed-silent : (y : Layout) (r : ℕ) (labels : List LineLabel) (d : LineLabel) (held : List Vertical) → labels ≡ y.labels → r < length y.labels
    → has_vertical y.margin (get_or labels r d).place (get_or labels r d) ≡ false → AreVerticals y r held → AreVerticals y (r + 1) held
unfolding vertical_at
passed-silent y r labels d held e h none were k =
    were k ∙ ap (first_of y.margin k) (label-here labels y r d e h) ∙ first-silent y.margin k (get_or labels r d) (drop (r + 1) y.labels) none

-- one with a vertical is passed, and what the later ones show comes in its place
pub passed-shown : (y : Layout) (r : ℕ) (labels : List LineLabel) (d : LineLabel) (old new : List Vertical) (next : Option Vertical)
    → labels ≡ y.labels → r < length y.labels → has_vertical y.margin (get_or labels r d).place (get_or labels r d) ≡ true
    → next ≡ option_map vertical_of (vertical_at y (r + 1) (get_or labels r d).place)
    → (IsSome (seen_vertical old (get_or labels r d).place) → (k : ℕ)
    → seen_vertical new k ≡ cond ((get_or labels r d).place == k) next (seen_vertical old k)) → AreVerticals y r old → AreVerticals y (r + 1) new
unfolding vertical_at
passed-shown y r labels d old new next e h has is changed were k =
    let x : LineLabel = get_or labels r d in
    let xs : List LineLabel = drop (r + 1) y.labels in
    let before : (j : ℕ) → seen_vertical old j ≡ first_of y.margin j (x ∷ xs) = λ j. were j ∙ ap (first_of y.margin j) (label-here labels y r d e h) in
    changed (subst IsSome (sym (before x.place)) (first-seen y.margin x xs has)) k
    ∙ ap (λ o. cond (x.place == k) o (seen_vertical old k)) is ∙ ap (cond (x.place == k) (first_of y.margin x.place xs)) (before k)
    ∙ first-passed y.margin k x xs has

-- ---- from the last label to the first

-- the last n labels
abbrev pub last_labels : List LineLabel → ℕ → List LineLabel
last_labels labels n = reverse (take n (reverse labels))

-- one more is the one in front of them
last-more : (labels : List LineLabel) (n : ℕ) (x : LineLabel) → n < length (reverse labels) → x ≡ get_or (reverse labels) n x
    → last_labels labels (n + 1) ≡ x ∷ last_labels labels n
last-more labels n x low here =
    ap reverse (take_more (reverse labels) n x low ∙ ap (λ y. take n (reverse labels) ++ y ∷ []) (sym here))
    ∙ reverse-append (take n (reverse labels)) (x ∷ [])

-- what is held of the last n labels
abbrev pub AreOfLast : Layout → ℕ → List Vertical → Type 0
AreOfLast y n held = (k : ℕ) → seen_vertical held k ≡ first_of y.margin k (last_labels y.labels n)

-- none is held of none
pub last-none : (y : Layout) (held : List Vertical) → held ≡ [] → AreOfLast y 0 held
unfolding seen_vertical
last-none y held e k = ap (λ vs. seen_vertical vs k) e

-- one without vertical changes nothing
pub last-silent : (y : Layout) (labels : List LineLabel) (n : ℕ) (x : LineLabel) (held : List Vertical) → labels ≡ y.labels
    → n < length (reverse labels) → x ≡ get_or (reverse labels) n x → has_vertical y.margin x.place x ≡ false → AreOfLast y n held
    → AreOfLast y (n + 1) held
last-silent y labels n x held e low here none were k =
    were k ∙ sym (first-silent y.margin k x (last_labels y.labels n) none)
    ∙ sym (ap (first_of y.margin k) (subst (λ ls. last_labels ls (n + 1) ≡ x ∷ last_labels ls n) e (last-more labels n x low here)))

-- one with a vertical shows it at its place
pub last-shown : (y : Layout) (labels : List LineLabel) (n : ℕ) (x : LineLabel) (old new : List Vertical) → labels ≡ y.labels
    → n < length (reverse labels) → x ≡ get_or (reverse labels) n x → has_vertical y.margin x.place x ≡ true
    → ((k : ℕ) → seen_vertical new k ≡ cond (x.place == k) (Some (vertical_of x)) (seen_vertical old k)) → AreOfLast y n old
    → AreOfLast y (n + 1) new
last-shown y labels n x old new e low here has changed were k =
    changed k ∙ ap (cond (x.place == k) (Some (vertical_of x))) (were k) ∙ sym (first-shown y.margin k x (last_labels y.labels n) has)
    ∙ sym (ap (first_of y.margin k) (subst (λ ls. last_labels ls (n + 1) ≡ x ∷ last_labels ls n) e (last-more labels n x low here)))

-- all of them are those of rank 0
pub last-all : (y : Layout) (labels : List LineLabel) (n : ℕ) (held : List Vertical) → labels ≡ y.labels → length (reverse labels) ≤ n
    → AreOfLast y n held → AreVerticals y 0 held
unfolding vertical_at
last-all y labels n held e low were k =
    let all : last_labels y.labels n ≡ y.labels =
    ap (λ ls. last_labels ls n) (sym e) ∙ ap reverse (take_all n (reverse labels) low) ∙ reverse-reverse labels ∙ e in
    were k ∙ ap (first_of y.margin k) all
