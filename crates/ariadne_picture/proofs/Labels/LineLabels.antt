-- What the margin label and the line labels of a line are: starts and ends of gutter labels there, each once, and labels within the line.
use Rattle.std.proofs.Common.{◌≡◌, ℕ, ◌+◌, ◌≤◌, ◌≢◌, Bool, true, false, cond, not, ◌&&◌, List, [], ◌∷◌, ◌++◌, Some, refl, sym, ap, ◌∙◌, subst, arith}
use Rattle.std.proofs.Common.{◌==◌, ◌⊎◌, inl, inr, map, if◌then◌else◌}
use Rattle.std.specs.Prelude.{slice_get, filter}
use Rattle.std.specs.List.{AllByRecursion, enumerate_from}
use Rattle.std.proofs.lemmas.Bool.{cond_both, true≢false, eq-eqb, ne_eqb, and_parts, and_left, eqb-true, not-true, not_from_false}
use Rattle.ariadne_picture.specs.declared.label_info.LabelInfo.{LabelInfo}
use Rattle.ariadne_picture.specs.declared.label_info.LineLabel.{LineLabel}
use Rattle.ariadne_picture.specs.declared.label_info.Side.{Side}
use Rattle.ariadne_picture.specs.declared.label_info.Side.TheVariants.{Inline, Starts, Ends}
use Rattle.ariadne_picture.specs.Lists.{in_order, joined, total}
use Rattle.ariadne_picture.specs.Ranks.{Sheet, is_inline, is_start, is_end, span_len, is_on_one_line, multi_line_labels, gutter_labels}
use Rattle.ariadne_picture.specs.Ranks.{gutter_label_ends, ends_at, is_nearer_margin, margin_label, is_of_gutter_label, is_margin, inline_labels}
use Rattle.ariadne_picture.specs.Ranks.{is_before, line_labels}
use Rattle.ariadne_picture.specs.Strokes.{is_at_margin}
use Rattle.ariadne_picture.proofs.Lists.ListFacts.{all-weaker, all-append, all-joined, all-filter, all-kept, all-in_order, all-map, all-every, all-at}
use Rattle.ariadne_picture.proofs.Lists.ListFacts.{all-best, all-enumerated}
use Rattle.ariadne_picture.proofs.Lists.Occurrences.{occurrences, total-append, total-joined, total-in_order, total-filter, total-zero, total-le}
use Rattle.ariadne_picture.proofs.Lists.Occurrences.{numbered-once, total-part, occurrences-kept}
use Rattle.ariadne_picture.proofs.Parts.{is_end_of_gutter_label}

-- ---- a gutter label spans lines

-- a gutter label is kept by the test for labels over several lines
pub multi-line : (s : Sheet) (i : ℕ) (a : LabelInfo) → slice_get (gutter_labels s.labels) i ≡ Some a → is_on_one_line a ≡ false
unfolding gutter_labels multi_line_labels
multi-line s i a e =
    let P : LabelInfo → Type 0 = λ a. is_on_one_line a ≡ false in
    let longs : List LabelInfo = filter (λ a. not (is_on_one_line a)) s.labels in
    all-at P (gutter_labels s.labels) i a e
    (all-filter P (λ a. a.has_message) (multi_line_labels s.labels)
    (all-in_order P (λ a b. Rattle.std.specs.Prelude.nat_lt (span_len b) (span_len a)) longs
    (all-weaker (λ a. not (is_on_one_line a) ≡ true) P longs (λ a t. not-true (is_on_one_line a) t)
    (all-kept (λ a. not (is_on_one_line a)) s.labels))))

-- so its start line is not its end line
pub two-lines : (s : Sheet) (i : ℕ) (a : LabelInfo) → slice_get (gutter_labels s.labels) i ≡ Some a → a.start_line ≢ a.end_line
unfolding is_on_one_line
two-lines s i a e h = true≢false (sym (eq-eqb a.start_line a.end_line h) ∙ multi-line s i a e)

-- ---- the starts and ends of gutter labels at a line

-- a start or end of a gutter label at line l
pub record IsEndAt (s : Sheet) (l : ℕ) (x : LineLabel) : Type 0 where
  pub owned : slice_get (gutter_labels s.labels) x.gutter_column ≡ Some x.info
  pub there : (x.side ≡ Starts) × (x.info.start_line ≡ l) ⊎ (x.side ≡ Ends) × (x.info.end_line ≡ l)

-- both of one gutter label are
pub gutter-label-ends-are : (s : Sheet) (l i : ℕ) (a : LabelInfo) → slice_get (gutter_labels s.labels) i ≡ Some a
    → AllByRecursion (IsEndAt s l) (gutter_label_ends l i a)
unfolding gutter_label_ends
gutter-label-ends-are s l i a e =
    let first : LineLabel = record { info = a; side = Starts; gutter_column = i; place = a.start_place } in
    let last : LineLabel = record { info = a; side = Ends; gutter_column = i; place = a.end_place } in
    let P : List LineLabel → Type 0 = AllByRecursion (IsEndAt s l) in
    all-append (IsEndAt s l) (if a.start_line == l then first ∷ [] else []) (if a.end_line == l then last ∷ [] else [])
    (cond_both (a.start_line == l) (first ∷ []) [] P (λ t. (record { owned = e; there = inl (refl, eqb-true a.start_line l t) }, tt)) (λ _. tt))
    (cond_both (a.end_line == l) (last ∷ []) [] P (λ t. (record { owned = e; there = inr (refl, eqb-true a.end_line l t) }, tt)) (λ _. tt))

-- each start or end at a line is one of a gutter label
pub ends-are : (s : Sheet) (l : ℕ) → AllByRecursion (IsEndAt s l) (ends_at s.labels l)
unfolding ends_at
ends-are s l =
    all-joined (IsEndAt s l) (λ e. slice_get (gutter_labels s.labels) e.0 ≡ Some e.1) (λ e. gutter_label_ends l e.0 e.1) (enumerate_from 0 (gutter_labels s.labels))
    (λ e h. gutter-label-ends-are s l e.0 e.1 h)
    (all-enumerated (gutter_labels s.labels) 0 (gutter_labels s.labels) (λ k. let z : k ≡ 0 + k = omega arith in ap (slice_get (gutter_labels s.labels)) z))

-- the margin label is one of them
pub margin-is : (s : Sheet) (l : ℕ) (x : LineLabel) → margin_label s.labels l ≡ Some x → IsEndAt s l x
unfolding margin_label
margin-is s l x e = all-best (IsEndAt s l) is_nearer_margin (ends_at s.labels l) x e (ends-are s l)

-- an end of gutter label i is one of a, where a is gutter label i
pub same-info : (s : Sheet) (l i : ℕ) (a : LabelInfo) (x : LineLabel) → slice_get (gutter_labels s.labels) i ≡ Some a → IsEndAt s l x → x.gutter_column ≡ i
    → x.info ≡ a
same-info s l i a x e h same =
    let there : slice_get (gutter_labels s.labels) i ≡ Some x.info = subst (λ k. slice_get (gutter_labels s.labels) k ≡ Some x.info) same h.owned in cc

-- ---- each stands once among the line labels

-- a side that is a start or an end, and not both
pub record IsOneSide (is_side : Side → Bool) : Type 0 where
  pub never_inline : is_side Inline ≡ false
  pub one : (is_side Starts ≡ false) ⊎ (is_side Ends ≡ false)

-- a start is such a side
pub starting : IsOneSide is_start
unfolding is_start
starting = record { never_inline = refl; one = inr refl }

-- and so is an end
pub ending : IsOneSide is_end
unfolding is_end
ending = record { never_inline = refl; one = inl refl }

-- a gutter label has each of the two at most once at a line, under its own number
pub gutter-label-ends-once : (is_side : Side → Bool) → IsOneSide is_side → (l i j : ℕ) (a : LabelInfo)
    → occurrences (is_end_of_gutter_label is_side i) (gutter_label_ends l j a) ≤ cond (j == i) 1 0
unfolding gutter_label_ends total
gutter-label-ends-once is_side h l i j a = elim h.one [
  | inl none ↦ cond_both (a.start_line == l) (first ∷ []) []
      (λ ys. occurrences (is_end_of_gutter_label is_side i) (ys ++ (if a.end_line == l then last ∷ [] else [])) ≤ cond (j == i) 1 0)
      (λ _. let more = tail-once in rw none (omega arith)) (λ _. tail-once)
  | inr none ↦ cond_both (a.start_line == l) (first ∷ []) []
      (λ ys. occurrences (is_end_of_gutter_label is_side i) (ys ++ (if a.end_line == l then last ∷ [] else [])) ≤ cond (j == i) 1 0)
      (λ _. cond_both (a.end_line == l) (last ∷ []) [] (λ ys. occurrences (is_end_of_gutter_label is_side i) (first ∷ ys) ≤ cond (j == i) 1 0)
      (λ _. rw none (one-once Starts)) (λ _. one-once Starts))
      (λ _. cond_both (a.end_line == l) (last ∷ []) [] (λ ys. occurrences (is_end_of_gutter_label is_side i) ys ≤ cond (j == i) 1 0)
      (λ _. rw none (omega arith)) (λ _. omega arith))
]
  where
    first : LineLabel
    first = record { info = a; side = Starts; gutter_column = j; place = a.start_place }

    last : LineLabel
    last = record { info = a; side = Ends; gutter_column = j; place = a.end_place }

    one-once : (x : Side) → cond (is_side x && (j == i)) 1 0 + 0 ≤ cond (j == i) 1 0
    one-once x = elim (Rattle.std.proofs.lemmas.Bool.cases_Bool (is_side x)) [
      | inl t ↦ rw t (omega arith)
      | inr f ↦ rw f (omega arith)
    ]

    tail-once : occurrences (is_end_of_gutter_label is_side i) (if a.end_line == l then last ∷ [] else []) ≤ cond (j == i) 1 0
    tail-once =
        cond_both (a.end_line == l) (last ∷ []) [] (λ ys. occurrences (is_end_of_gutter_label is_side i) ys ≤ cond (j == i) 1 0) (λ _. one-once Ends)
        (λ _. omega arith)

-- so each stands at most once among all starts and ends of a line
pub ends-once : (is_side : Side → Bool) → IsOneSide is_side → (s : Sheet) (l i : ℕ) → occurrences (is_end_of_gutter_label is_side i) (ends_at s.labels l) ≤ 1
unfolding ends_at
ends-once is_side h s l i =
    let g : LineLabel → ℕ = λ x. cond (is_end_of_gutter_label is_side i x) 1 0 in
    let f : ℕ × LabelInfo → List LineLabel = λ e. gutter_label_ends l e.0 e.1 in
    let es : List (ℕ × LabelInfo) = enumerate_from 0 (gutter_labels s.labels) in
    let sums : total g (joined f es) ≡ total (λ e. total g (f e)) es = total-joined g f es in
    let each : total (λ e. total g (f e)) es ≤ total (λ (e : ℕ × LabelInfo). cond (e.0 == i) 1 0) es = total-le (λ e. total g (f e))
    (λ e. cond (e.0 == i) 1 0) es (λ e. gutter-label-ends-once is_side h l i e.0 e.1) in
    let once = numbered-once i 0 (gutter_labels s.labels) in
    omega arith

-- a gutter label starts at most once among the line labels of a line, and ends at most once
pub labels-once : (is_side : Side → Bool) → IsOneSide is_side → (s : Sheet) (l i : ℕ)
    → occurrences (is_end_of_gutter_label is_side i) (line_labels s.labels l) ≤ 1
unfolding line_labels inline_labels
labels-once is_side h s l i =
    let g : LineLabel → ℕ = λ x. cond (is_end_of_gutter_label is_side i x) 1 0 in
    let t : LineLabel → Bool = λ x. not (is_start x.side && is_margin (margin_label s.labels l) x) in
    let make : LabelInfo → LineLabel = λ a. record { info = a; side = Inline; gutter_column = 0; place = a.attach } in
    let ins : List LabelInfo = filter (λ a. is_on_one_line a && (a.start_line == l)) s.labels in
    let sort : total g (in_order is_before (filter t (ends_at s.labels l) ++ map make ins)) ≡ total g
    (filter t (ends_at s.labels l) ++ map make ins) = total-in_order g is_before (filter t (ends_at s.labels l) ++ map make ins) in
    let parts : total g (filter t (ends_at s.labels l) ++ map make ins) ≡ total g (filter t (ends_at s.labels l)) + total g (map make ins) = total-append g
    (filter t (ends_at s.labels l)) (map make ins) in
    let kept : total g (filter t (ends_at s.labels l)) ≤ total g (ends_at s.labels l) = total-filter g t (ends_at s.labels l) in
    let none : total g (map make ins) ≡ 0 = total-zero g make ins (λ a. rw h.never_inline) in
    let once : total g (ends_at s.labels l) ≤ 1 = ends-once is_side h s l i in
    omega arith

-- ---- and each does, but a start that is the margin label

-- a gutter label that starts at a line has its start there
pub start-occurs : (l i : ℕ) (a : LabelInfo) → a.start_line ≡ l → 1 ≤ occurrences (is_end_of_gutter_label is_start i) (gutter_label_ends l i a)
unfolding gutter_label_ends is_start total
start-occurs l i a e = rw (eq-eqb a.start_line l e, eq-eqb i i refl) (omega arith)

-- a gutter label that ends at a line has its end there
pub end-occurs : (l i : ℕ) (a : LabelInfo) → a.start_line ≢ l → a.end_line ≡ l
    → 1 ≤ occurrences (is_end_of_gutter_label is_end i) (gutter_label_ends l i a)
unfolding gutter_label_ends is_end total
end-occurs l i a n e = rw (ne_eqb a.start_line l n, eq-eqb a.end_line l e, eq-eqb i i refl) (omega arith)

-- the starts and ends of one gutter label are among those of all
pub among-ends : (is_side : Side → Bool) (s : Sheet) (l i : ℕ) (a : LabelInfo) → slice_get (gutter_labels s.labels) i ≡ Some a
    → 1 ≤ occurrences (is_end_of_gutter_label is_side i) (gutter_label_ends l i a) → 1 ≤ occurrences (is_end_of_gutter_label is_side i) (ends_at s.labels l)
unfolding ends_at
among-ends is_side s l i a e h =
    let g : LineLabel → ℕ = λ x. cond (is_end_of_gutter_label is_side i x) 1 0 in
    let f : ℕ × LabelInfo → List LineLabel = λ e. gutter_label_ends l e.0 e.1 in
    let sums : total g (joined f (enumerate_from 0 (gutter_labels s.labels))) ≡ total (λ e. total g (f e))
    (enumerate_from 0 (gutter_labels s.labels)) = total-joined g f (enumerate_from 0 (gutter_labels s.labels)) in
    let some : total g (gutter_label_ends l (0 + i) a) ≤ total (λ e. total g (f e)) (enumerate_from 0 (gutter_labels s.labels)) = total-part
    (λ e. total g (f e)) 0 i a (gutter_labels s.labels) e in
    let z : 0 + i ≡ i = omega arith in
    let same : total g (gutter_label_ends l (0 + i) a) ≡ total g (gutter_label_ends l i a) = ap (λ k. total g (gutter_label_ends l k a)) z in
    omega arith

-- what the line labels leave out is a start that is the margin label
pub among-labels : (is_side : Side → Bool) (s : Sheet) (l i : ℕ)
    → ((x : LineLabel) → is_end_of_gutter_label is_side i x ≡ true → not (is_start x.side && is_margin (margin_label s.labels l) x) ≡ true)
    → 1 ≤ occurrences (is_end_of_gutter_label is_side i) (ends_at s.labels l) → 1 ≤ occurrences (is_end_of_gutter_label is_side i) (line_labels s.labels l)
unfolding line_labels
among-labels is_side s l i k h =
    let g : LineLabel → ℕ = λ x. cond (is_end_of_gutter_label is_side i x) 1 0 in
    let t : LineLabel → Bool = λ x. not (is_start x.side && is_margin (margin_label s.labels l) x) in
    let sort : total g (in_order is_before (filter t (ends_at s.labels l) ++ inline_labels s.labels l)) ≡ total g
    (filter t (ends_at s.labels l) ++ inline_labels s.labels l) = total-in_order g is_before (filter t (ends_at s.labels l) ++ inline_labels s.labels l) in
    let parts : total g (filter t (ends_at s.labels l) ++ inline_labels s.labels l) ≡ total g (filter t (ends_at s.labels l)) + total g
    (inline_labels s.labels l) = total-append g (filter t (ends_at s.labels l)) (inline_labels s.labels l) in
    let kept : total g (filter t (ends_at s.labels l)) ≡ total g (ends_at s.labels l) = occurrences-kept (is_end_of_gutter_label is_side i) t (ends_at s.labels l) k in
    omega arith

-- so a start that is not the margin label is kept
pub keeps-start : (s : Sheet) (l i : ℕ) → is_at_margin s l i ≡ false → (x : LineLabel) → is_end_of_gutter_label is_start i x ≡ true
    → not (is_start x.side && is_margin (margin_label s.labels l) x) ≡ true
unfolding is_margin
keeps-start s l i off x h =
    let parts = and_parts (is_start x.side) (x.gutter_column == i) h in
    let none : is_of_gutter_label (margin_label s.labels l) x.gutter_column ≡ false = ap (is_of_gutter_label (margin_label s.labels l))
    (eqb-true x.gutter_column i parts.1) ∙ off in
    rw (parts.0, none) (both (is_inline x.side))
  where
    both : (b : Bool) → not (not b && false) ≡ true
    both true = refl
    both false = refl

-- an end is no start
pub end-no-start : (side : Side) → is_end side ≡ true → is_start side ≡ false
unfolding is_end is_start
end-no-start Inline h = refl
end-no-start Starts h = absurd (true≢false (sym h))
end-no-start Ends h = refl

-- so an end is kept
pub keeps-end : (s : Sheet) (l i : ℕ) (x : LineLabel) → is_end_of_gutter_label is_end i x ≡ true
    → not (is_start x.side && is_margin (margin_label s.labels l) x) ≡ true
keeps-end s l i x h =
    not_from_false (is_start x.side && is_margin (margin_label s.labels l) x)
    (and_left (is_start x.side) (is_margin (margin_label s.labels l) x) (end-no-start x.side (and_parts (is_end x.side) (x.gutter_column == i) h).0))

-- a gutter label that starts at a line is a line label there, unless it is the margin label
pub start-label : (s : Sheet) (i : ℕ) (a : LabelInfo) → slice_get (gutter_labels s.labels) i ≡ Some a → is_at_margin s a.start_line i ≡ false
    → 1 ≤ occurrences (is_end_of_gutter_label is_start i) (line_labels s.labels a.start_line)
start-label s i a e off =
    among-labels is_start s a.start_line i (keeps-start s a.start_line i off)
    (among-ends is_start s a.start_line i a e (start-occurs a.start_line i a refl))

-- a gutter label that ends at a line is a line label there
pub end-label : (s : Sheet) (i : ℕ) (a : LabelInfo) → slice_get (gutter_labels s.labels) i ≡ Some a
    → 1 ≤ occurrences (is_end_of_gutter_label is_end i) (line_labels s.labels a.end_line)
end-label s i a e =
    among-labels is_end s a.end_line i (keeps-end s a.end_line i)
    (among-ends is_end s a.end_line i a e (end-occurs a.end_line i a (two-lines s i a e) refl))

-- ---- a line label is a start or end of a gutter label, or lies within the line

-- the line labels are those kept of the starts and ends, and the labels within the line
pub line-labels-are : (s : Sheet) (l : ℕ) → AllByRecursion (λ x. IsEndAt s l x ⊎ (x.side ≡ Inline)) (line_labels s.labels l)
unfolding line_labels inline_labels
line-labels-are s l =
    let P : LineLabel → Type 0 = λ x. IsEndAt s l x ⊎ (x.side ≡ Inline) in
    let t : LineLabel → Bool = λ x. not (is_start x.side && is_margin (margin_label s.labels l) x) in
    let ins : List LabelInfo = filter (λ a. is_on_one_line a && (a.start_line == l)) s.labels in
    let make : LabelInfo → LineLabel = λ a. record { info = a; side = Inline; gutter_column = 0; place = a.attach } in
    all-in_order P is_before (filter t (ends_at s.labels l) ++ map make ins)
    (all-append P (filter t (ends_at s.labels l)) (map make ins)
    (all-filter P t (ends_at s.labels l) (all-weaker (IsEndAt s l) P (ends_at s.labels l) (λ x h. inl h) (ends-are s l)))
    (all-map P make ins (all-every _ (λ a. inr refl) ins)))
