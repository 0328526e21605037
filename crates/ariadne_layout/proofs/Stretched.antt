-- Stretches of places that each show one label, and what they show at each place.
use Rattle.std.proofs.Common.{◌≡◌, ℕ, ◌+◌, ◌-◌, ◌<◌, ◌≤◌, Bool, true, false, ◌&&◌, cond, List, [], ◌∷◌, ◌++◌, Option, Some, None, filter, map, nat_lt, option_map, option_copied}
use Rattle.std.proofs.Common.{◌==◌, refl, sym, ap, ◌∙◌, subst, arith, inl, inr, unwrap_or}
use Rattle.std.specs.List.{AllByRecursion, best_of}
use Rattle.std.proofs.lemmas.Bool.{cond-true, cond-false, cases_lt, eq-eqb, lt-ltb, le-ltb}
use Rattle.std.proofs.lemmas.List.{append-nil, append_assoc}
use Rattle.ariadne_picture.specs.declared.label_info.LabelInfo.{LabelInfo}
use Rattle.ariadne_picture.specs.declared.label_info.LineLabel.{LineLabel}
use Rattle.ariadne_picture.specs.declared.switches.Switches.{Switches}
use Rattle.ariadne_picture.specs.Columns.{Layout}
use Rattle.ariadne_picture.specs.Lists.{best}
use Rattle.ariadne_picture.specs.Pieces.{painters, char_paint}
use Rattle.ariadne_picture.specs.Ranks.{is_inline}
use Rattle.ariadne_picture.specs.Strokes.{holds, is_preferred, underlines_at, underline_at, underline_row}
use Rattle.ariadne_picture.specs.Cells.{paint_of}
use Rattle.ariadne_picture.specs.declared.cell.Paint.TheVariants.{Unimportant}
use Rattle.ariadne_layout.specs.declared.choice.Choice.{Choice}
use Rattle.ariadne_layout.specs.declared.stretches.Stretch.{Stretch}
use Rattle.ariadne_layout.specs.declared.label_runs.LabelRun.{LabelRun}
use Rattle.ariadne_layout.specs.Choices.{IsChoice, infos_of, inline_infos, shown_position}
use Rattle.ariadne_layout.specs.LabelRuns.{seen_at}
use Rattle.ariadne_layout.specs.Tables.{shown_at, position_of, position_paint}

-- ---- stretches, one after another

-- the stretches show what f gives at each place below n, and leave the places from n on to those that follow
pub record ShowsBelow (f : ℕ → Option ℕ) (n : ℕ) (stretches : List Stretch) : Type 0 where
  pub below : (k : ℕ) (more : List Stretch) → k < n → shown_at (stretches ++ more) k ≡ f k
  pub behind : (k : ℕ) (more : List Stretch) → n ≤ k → shown_at (stretches ++ more) k ≡ shown_at more k

-- no stretch shows nothing
pub shows_none : (f : ℕ → Option ℕ) → ShowsBelow f 0 []
shows_none f = record { below = λ k more h. absurd (omega arith); behind = λ k more h. refl }

-- one more stretch, through which f gives what it shows
pub shows_more : (f : ℕ → Option ℕ) (n : ℕ) (stretches : List Stretch) (s : Stretch) → ShowsBelow f n stretches → n ≤ s.end
    → ((k : ℕ) → n ≤ k → k < s.end → s.position ≡ f k) → ShowsBelow f s.end (stretches ++ s ∷ [])
unfolding shown_at
shows_more f n stretches s h less same = record {
  below = λ k more lt.
      ap (λ t. shown_at t k) (append_assoc stretches (s ∷ []) more)
      ∙ elim (cases_lt k n) [
        | inl before ↦ h.below k (s ∷ more) before
        | inr from ↦ h.behind k (s ∷ more) from ∙ cond-true _ s.position (shown_at more k) (lt-ltb k s.end lt) ∙ same k from lt
      ];
  behind = λ k more from.
      ap (λ t. shown_at t k) (append_assoc stretches (s ∷ []) more)
      ∙ h.behind k (s ∷ more) (omega arith) ∙ cond-false _ s.position (shown_at more k) (le-ltb k s.end from);
}

-- at the end they show it at each place
pub shows_all : (f : ℕ → Option ℕ) (n : ℕ) (stretches : List Stretch) (k : ℕ) → ShowsBelow f n stretches → k < n → shown_at stretches k ≡ f k
shows_all f n stretches k h lt = ap (λ t. shown_at t k) (sym (append-nil stretches)) ∙ h.below k [] lt

-- ---- what is shown of some labels at an offset

-- tests that agree at each element of a list keep the same of them
filter-same : {X : Type 0} (p q : X → Bool) (xs : List X) → AllByRecursion (λ x. p x ≡ q x) xs → filter p xs ≡ filter q xs
filter-same p q [] h = refl
filter-same p q (x ∷ xs) h = λ i. cond (h.0 i) (x ∷ filter-same p q xs h.1 i) (filter-same p q xs h.1 i)

-- the preferred one of the labels that hold an offset
abbrev pub label-shown : List LabelInfo → ℕ → Option LabelInfo
label-shown labels o = best is_preferred (filter (λ a. holds a o) labels)

-- through the stretch of a choice it is that of the choice
pub choice-shown : (labels : List LabelInfo) (offset len : ℕ) (choice : Choice) (k : ℕ) → IsChoice labels offset len choice → k < choice.len
    → option_copied choice.best ≡ label-shown labels (offset + k)
choice-shown labels offset len choice k h below =
    h.shows
    ∙ ap (best is_preferred) (sym (filter-same (λ a. holds a (offset + k)) (λ a. holds a offset) labels (h.stays k below)))

-- and so is its position
position-shown : (labels : List LabelInfo) (offset len : ℕ) (choice : Choice) (k : ℕ) → IsChoice labels offset len choice → k < choice.len
    → option_map (λ (a : LabelInfo). a.position) (option_copied choice.best) ≡ shown_position labels (offset + k)
unfolding shown_position
position-shown labels offset len choice k h below = ap (option_map (λ (a : LabelInfo). a.position)) (choice-shown labels offset len choice k h below)

-- so a stretch for it shows what they show
pub shows_choice : (labels : List LabelInfo) (offset place to : ℕ) (choice : Choice) (stretches more : List Stretch) (s : Stretch)
    → ShowsBelow (λ k. shown_position labels (offset + k)) place stretches → IsChoice labels (offset + place) (to - place) choice → place < to
    → s.end ≡ place + choice.len → s.position ≡ option_map (λ (a : LabelInfo). a.position) (option_copied choice.best)
    → more ≡ stretches ++ s ∷ [] → ShowsBelow (λ k. shown_position labels (offset + k)) s.end more
shows_choice labels offset place to choice stretches more s h choice_is inside end position pushed =
    let f = λ (k : ℕ). shown_position labels (offset + k) in
    subst (ShowsBelow f s.end) (sym pushed)
    (shows_more f place stretches s h (omega arith)
    (λ k from below.
    let same : (offset + place) + (k - place) ≡ offset + k = omega arith in
    position ∙ position-shown labels (offset + place) (to - place) choice (k - place) choice_is (omega arith) ∙ ap (shown_position labels) same))

-- ---- stretches of runs

-- the stretch of a run
abbrev pub stretch_of : LabelRun → Stretch
stretch_of p = record { end = p.end; position = option_map (λ (a : LabelInfo). a.position) (option_copied p.label) }

-- they show the labels of the runs
pub stretches_shown : (runs : List LabelRun) (k : ℕ) → shown_at (map stretch_of runs) k ≡ option_map (λ (a : LabelInfo). a.position) (seen_at runs k)
unfolding shown_at seen_at
stretches_shown [] k = refl
stretches_shown (p ∷ runs) k =
    elim (nat_lt k p.end) as (λ v. cond v (option_map (λ (a : LabelInfo). a.position) (option_copied p.label)) (shown_at (map stretch_of runs) k)
    ≡ option_map (λ (a : LabelInfo). a.position) (cond v (option_copied p.label) (seen_at runs k))) [
      | true ↦ refl
      | false ↦ stretches_shown runs k
    ]

-- ---- underlines

-- the position of the label whose underline is seen at place k of the row that has underlines
abbrev pub underline_position : Switches → Layout → ℕ → Option ℕ
underline_position s y k = option_map position_of (underline_at s y (underline_row y) k)

-- a filter of what a function gives
filter-map : {X Y : Type 0} (f : X → Y) (p : Y → Bool) (xs : List X) → filter p (map f xs) ≡ map f (filter (λ x. p (f x)) xs)
filter-map f p [] = refl
filter-map f p (x ∷ xs) =
    elim (p (f x)) as (λ v. cond v (f x ∷ filter p (map f xs)) (filter p (map f xs)) ≡ map f (cond v (x ∷ filter (λ y. p (f y)) xs) (filter (λ y. p (f y)) xs))) [
      | true ↦ ap (λ t. f x ∷ t) (filter-map f p xs)
      | false ↦ filter-map f p xs
    ]

-- a filter of a filter
filter-filter : {X : Type 0} (p q : X → Bool) (xs : List X) → filter q (filter p xs) ≡ filter (λ x. p x && q x) xs
filter-filter p q [] = refl
filter-filter p q (x ∷ xs) =
    elim (p x) as (λ v. filter q (cond v (x ∷ filter p xs) (filter p xs)) ≡ cond (v && q x) (x ∷ filter (λ y. p y && q y) xs) (filter (λ y. p y && q y) xs)) [
      | true ↦ (λ i. cond (q x) (x ∷ filter-filter p q xs i) (filter-filter p q xs i))
      | false ↦ filter-filter p q xs
    ]

-- the best of what a function gives
best_of-map : {X Y : Type 0} (f : X → Y) (beats : Y → Y → Bool) (b : X) (xs : List X)
    → best_of beats (f b) (map f xs) ≡ f (best_of (λ x y. beats (f x) (f y)) b xs)
best_of-map f beats b [] = refl
best_of-map f beats b (x ∷ xs) =
    elim (beats (f x) (f b)) as (λ v. best_of beats (cond v (f x) (f b)) (map f xs) ≡ f (best_of (λ y z. beats (f y) (f z)) (cond v x b) xs)) [
      | true ↦ best_of-map f beats x xs
      | false ↦ best_of-map f beats b xs
    ]

-- so it is, where there may be none
best-map : {X Y : Type 0} (f : X → Y) (beats : Y → Y → Bool) (xs : List X)
    → best beats (map f xs) ≡ option_map f (best (λ x y. beats (f x) (f y)) xs)
unfolding best
best-map f beats [] = refl
best-map f beats (x ∷ xs) = ap Some (best_of-map f beats x xs)

-- the position of the label of a line label
position-info : (o : Option LineLabel) → option_map (λ (a : LabelInfo). a.position) (option_map (λ (x : LineLabel). x.info) o) ≡ option_map position_of o
position-info None = refl
position-info (Some x) = refl

-- where underlines are on, the one that is seen is chosen among the labels that lie within the line
pub underline_shown : (s : Switches) (y : Layout) (k : ℕ) → s.underlines ≡ true
    → shown_position (inline_infos y.labels) (y.offset + k) ≡ underline_position s y k
unfolding shown_position inline_infos infos_of underline_at underlines_at
underline_shown s y k on =
    let info = λ (x : LineLabel). x.info in
    let position = option_map (λ (a : LabelInfo). a.position) in
    let beats = λ (a b : LineLabel). is_preferred a.info b.info in
    let inline = filter (λ (x : LineLabel). is_inline x.side) y.labels in
    let held = λ (x : LineLabel). holds x.info (y.offset + k) in
    let seen = best beats (filter (λ x. is_inline x.side && holds x.info (y.offset + k)) y.labels) in
    let here : (underline_row y == underline_row y) ≡ true = eq-eqb (underline_row y) (underline_row y) refl in
    ap (λ t. position (best is_preferred t)) (filter-map info (λ a. holds a (y.offset + k)) inline)
    ∙ ap position (best-map info is_preferred (filter held inline))
    ∙ position-info (best beats (filter held inline))
    ∙ ap (λ t. option_map position_of (best beats t)) (filter-filter (λ x. is_inline x.side) held y.labels)
    ∙ (λ i. option_map position_of (cond (sym on i && sym here i) seen None))

-- where they are off, none is seen
pub underline_unseen : (s : Switches) (y : Layout) (k : ℕ) → s.underlines ≡ false → None ≡ underline_position s y k
unfolding underline_at
underline_unseen s y k off =
    let seen = best (λ a b. is_preferred a.info b.info) (underlines_at y k) in
    (λ i. option_map position_of (cond (sym off i && (underline_row y == underline_row y)) seen None))

-- ---- colours

-- the position of the label that colours character k
abbrev pub painter_position : List LabelInfo → Layout → ℕ → Option ℕ
painter_position multi_line y k = shown_position (painters multi_line y) (y.offset + k)

-- the colour of the label at a position
paint-position : (o : Option LabelInfo)
    → position_paint (option_map (λ (a : LabelInfo). a.position) o) ≡ unwrap_or (option_map paint_of o) Unimportant
unfolding position_paint
paint-position None = refl
paint-position (Some a) = refl

-- a character has the colour of the label that is chosen among those that may colour it
pub paint_shown : (multi_line : List LabelInfo) (y : Layout) (k : ℕ)
    → position_paint (painter_position multi_line y k) ≡ char_paint multi_line y k
unfolding shown_position char_paint
paint_shown multi_line y k = paint-position (best is_preferred (filter (λ a. holds a (y.offset + k)) (painters multi_line y)))
