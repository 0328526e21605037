-- An accepted label ends no earlier than it starts, and so does each label of each group of accepted labels.
use Rattle.std.proofs.Common.{◌≡◌, ℕ, zero, suc, ◌+◌, ◌-◌, ◌≤◌, max, min, Bool, true, List, [], ◌∷◌, ◌++◌, Option, Some, None, length, sym, subst}
use Rattle.std.proofs.Common.{arith, filter, nat_le, unwrap_or, slice_get, All, chars, ◌||◌, nat_lt, inl, inr}
use Rattle.std.specs.List.{AllByRecursion, last_or, range_with_len}
use Rattle.std.proofs.lemmas.Bool.{cond_both, cases_Bool, le-leb, leb-true}
use Rattle.std.proofs.lemmas.List.Elements.{All-from_recursion, recursion_from_All}
use Rattle.ariadne_base.specs.Locations.{line_offset, line_at}
use Rattle.ariadne_base.specs.Listing.{Listing, listed_lines}
use Rattle.ariadne_picture.specs.declared.switches.LabelAttach.{LabelAttach}
use Rattle.ariadne_picture.specs.declared.label_info.LabelInfo.{LabelInfo}
use Rattle.ariadne_picture.specs.Report.{ConfigFields, LabelFields, ReportFields, World}
use Rattle.ariadne_picture.specs.declared.verdict.Verdict.TheVariants.{Accepted, PastSource}
use Rattle.ariadne_picture.specs.Accept.{text_len, offset_in_chars, info_of, within, verdict, IsAccepted, AreAccepted}
use Rattle.ariadne_picture.specs.Lists.{joined}
use Rattle.ariadne_picture.specs.Groups.{ordered, groups_of}
use Rattle.ariadne_picture.specs.Ranks.{Sheet, span_len, is_on_one_line, multi_line_labels, gutter_labels}
use Rattle.ariadne_picture.specs.Bars.{EndsNoEarlier, IsGutterLabel}
use Rattle.ariadne_picture.proofs.Lists.ListFacts.{all-weaker, all-filter, all-in_order, all-at}
use Rattle.ariadne_picture.proofs.Labels.Cutting.{together, groups-exist}

-- ---- a later offset lies in no earlier line

-- the last number that passes a test is no greater than the last that passes a weaker one
last-grows : (p q : ℕ → Bool) → ((n : ℕ) → p n ≡ true → q n ≡ true) → (a n : ℕ) (x y : Option ℕ) → unwrap_or x 0 ≤ unwrap_or y 0 → unwrap_or x 0 ≤ a
    → unwrap_or (last_or x (filter p (range_with_len a n))) 0 ≤ unwrap_or (last_or y (filter q (range_with_len a n))) 0
last-grows p q f a zero x y h low = h
last-grows p q f a (suc n) x y h low = elim (cases_Bool (p a)) [
  | inl t ↦ rw (t, f a t) (last-grows p q f (a + 1) n (Some a) (Some a) (omega arith) (omega arith))
  | inr s ↦ elim (cases_Bool (q a)) [
    | inl t ↦ rw (s, t) (last-grows p q f (a + 1) n x (Some a) low (omega arith))
    | inr t ↦ rw (s, t) (last-grows p q f (a + 1) n x y h (omega arith))
  ]
]

-- a later offset lies in the same line or a later one
pub line-grows : (size : List ℕ → ℕ) (ls : List (List ℕ)) (o p : ℕ) → o ≤ p → line_at size ls o ≤ line_at size ls p
unfolding line_at
line-grows size ls o p h =
    last-grows (λ n. nat_le (line_offset size ls n) o) (λ n. nat_le (line_offset size ls n) p)
    (λ n t. le-leb (line_offset size ls n) p (let below = leb-true (line_offset size ls n) o t in omega arith)) 0 (length ls) None None (omega arith)
    (omega arith)

-- ---- one label

-- a label's last offset is no earlier than its start
info-rises : {S : Type 0} (attach : LabelAttach) (ls : List (List ℕ)) (k : ℕ) (label : LabelFields S) (start end : ℕ)
    → EndsNoEarlier (info_of attach ls k label start end)
unfolding info_of
info-rises attach ls k label start end = line-grows length ls start (max (end - 1) start) (omega arith)

-- each of these ends no earlier than it starts
abbrev AllRise : List LabelInfo → Type 0
AllRise infos = AllByRecursion EndsNoEarlier infos

-- nor is that of a label whose ends lie inside no character
within-rises : {S : Type 0} (attach : LabelAttach) (ls : List (List ℕ)) (k : ℕ) (label : LabelFields S) (start end : Option ℕ) (a : LabelInfo)
    → within attach ls k label start end ≡ Accepted a → EndsNoEarlier a
unfolding within
within-rises attach ls k label (Some start) (Some end) a e =
    let same : info_of attach ls k label start end ≡ a = cc in subst EndsNoEarlier same (info-rises attach ls k label start end)
within-rises attach ls k label (Some start) None a e = absurd (cc)
within-rises attach ls k label None end a e = absurd (cc)

-- nor is that of a label that its source accepts
verdict-rises : {S : Type 0} (config : ConfigFields) (source : Listing) (k : ℕ) (label : LabelFields S) (start end : ℕ) (a : LabelInfo)
    → verdict config source k label start end ≡ Accepted a → EndsNoEarlier a
unfolding verdict
verdict-rises config source k label start end a =
    let text = chars source.text in
    let size = text_len config.index_type text in
    cond_both (nat_lt size start || nat_lt (size + 1) end) PastSource
    (within config.label_attach (listed_lines source) k label (offset_in_chars config.index_type text start)
    (offset_in_chars config.index_type text (min end size)))
    (λ v. v ≡ Accepted a → EndsNoEarlier a) (λ _ e. absurd (cc))
    (λ _. within-rises config.label_attach (listed_lines source) k label (offset_in_chars config.index_type text start)
    (offset_in_chars config.index_type text (min end size)) a)

-- so each label that is accepted ends no earlier than it starts
pub drawn-rise : {S Id : Type 0} (w : World S Id) (r : ReportFields S) (infos : List LabelInfo) → AreAccepted w r infos → All EndsNoEarlier infos
drawn-rise w r infos accepted =
    All-from_recursion EndsNoEarlier infos
    (all-weaker (IsAccepted w r) EndsNoEarlier infos
    (λ a d. verdict-rises r.config d.source a.position d.label (w.start_of d.label.span) (w.end_of d.label.span) a d.accepted) accepted.each)

-- ---- groups and gutter labels

-- what holds of each label holds of each of a group, which is a part of them
all-first : (xs ys : List LabelInfo) → AllRise (xs ++ ys) → AllRise xs
all-first [] ys a = tt
all-first (x ∷ xs) ys a = (a.0, all-first xs ys a.1)

-- and of each of the rest
all-rest : (xs ys : List LabelInfo) → AllRise (xs ++ ys) → AllRise ys
all-rest [] ys a = a
all-rest (x ∷ xs) ys a = all-rest xs ys a.1

-- what holds of each label that groups join to holds of each label of each group
all-group : (groups : List (List LabelInfo)) → AllRise (together groups) → AllByRecursion AllRise groups
unfolding joined
all-group [] a = tt
all-group (group ∷ groups) a = (all-first group (together groups) a, all-group groups (all-rest group (together groups) a))

-- each label of each group of labels that end no earlier than they start does so
groups-rise : (same_source : ℕ → ℕ → Bool) (infos : List LabelInfo) → All EndsNoEarlier infos
    → AllByRecursion AllRise (groups_of same_source (ordered infos))
unfolding ordered
groups-rise same_source infos h =
    all-group (groups_of same_source (ordered infos))
    (subst AllRise (sym (groups-exist same_source (ordered infos)).joins)
    (all-in_order EndsNoEarlier (λ a b. Rattle.std.specs.Prelude.int_lt a.order b.order) infos (recursion_from_All EndsNoEarlier infos h)))

-- and so does each gutter label of such a group
gutter-labels-rise : (s : Sheet) → AllRise s.labels → AllRise (gutter_labels s.labels)
unfolding gutter_labels multi_line_labels
gutter-labels-rise s h =
    all-filter EndsNoEarlier (λ a. a.has_message) (multi_line_labels s.labels)
    (all-in_order EndsNoEarlier (λ a b. nat_lt (span_len b) (span_len a)) (filter (λ a. Rattle.std.specs.Prelude.not (is_on_one_line a)) s.labels)
    (all-filter EndsNoEarlier (λ a. Rattle.std.specs.Prelude.not (is_on_one_line a)) s.labels h))

-- what owns a column of a group of labels that end no earlier than they start is a gutter label in the full sense
pub group-gutter-label : (same_source : ℕ → ℕ → Bool) (infos : List LabelInfo) (k : ℕ) (s : Sheet) (i : ℕ) (a : LabelInfo) → All EndsNoEarlier infos
    → slice_get (groups_of same_source (ordered infos)) k ≡ Some s.labels → slice_get (gutter_labels s.labels) i ≡ Some a → IsGutterLabel s i a
group-gutter-label same_source infos k s i a h here e = record {
  owned = e;
  rises =
      all-at EndsNoEarlier (gutter_labels s.labels) i a e (gutter-labels-rise s
      (all-at AllRise (groups_of same_source (ordered infos)) k s.labels here (groups-rise same_source infos h)));
}
