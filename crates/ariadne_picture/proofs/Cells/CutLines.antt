-- The parts of a line that are shown where it is cut: what strokes lead to is seen, letters are whole, and the line takes no
-- more columns than are asked for, unless the places that strokes lead to take more.
use Rattle.std.proofs.Common.{◌≡◌, ℕ, zero, suc, ◌+◌, ◌-◌, ◌<◌, ◌≤◌, ◌⊎◌, ◌↔◌, Bool, true, false, List, [], ◌∷◌, ◌++◌, map, length, Some, refl}
use Rattle.std.proofs.Common.{sym, ap, ◌∙◌, subst, arith, inl, inr, filter}
use Rattle.std.specs.Prelude.{slice_get, option_map, option_to_list, unwrap_or, ◌&&◌, ◌||◌, ◌==◌, nat_le, nat_lt, if◌then◌else◌}
use Rattle.std.specs.List.{list_all, prefix_len, range_with_len}
use Rattle.std.specs.Str.{drop_trailing_whitespace}
use Rattle.std.proofs.lemmas.Bool.{cases_Bool, cases_lt, cond_both, cond-true, cond-false, le-leb, lt-leb, lt-ltb, le-ltb, leb-true, true≢false, and_left}
use Rattle.std.proofs.lemmas.List.{get_or_past}
use Rattle.std.proofs.lemmas.List.FromFn.{get_or-map-range_with_len, length-map-range_with_len}
use Rattle.std.proofs.lemmas.Option.{slice_get-map, unwrap_or-slice_get}
use Rattle.ariadne_base.specs.Locations.{upto, line_offset, line_text}
use Rattle.ariadne_picture.specs.declared.label_info.LineLabel.{LineLabel}
use Rattle.ariadne_picture.specs.declared.switches.Switches.{Switches}
use Rattle.ariadne_picture.specs.declared.sight.Part.{Part}
use Rattle.ariadne_picture.specs.declared.sight.Sight.{Sight}
use Rattle.ariadne_picture.specs.declared.sight.Sight.TheVariants.{Seen, Marked, Unseen}
use Rattle.ariadne_picture.specs.Ranks.{Sheet, is_inline, margin_label, line_labels}
use Rattle.ariadne_picture.specs.Columns.{is_in, sight_in, goes_on, letter_start, letter_end, cut_columns}
use Rattle.ariadne_picture.specs.Columns.{widened_part, widened, fits_with, context, place_part, span_part, needed_labels, or_begin}
use Rattle.ariadne_picture.specs.Columns.{needed_parts, parts_of, is_too_wide, sights_of, layout_of, shown, sight_of}
use Rattle.ariadne_picture.proofs.Lists.ListFacts.{none≢some}
use Rattle.ariadne_picture.proofs.Lists.Elements.{both-true, list_any-true}

-- ---- letters

-- the letter of a place begins at most there
letter-low : (t : ℕ) (text : List ℕ) (k : ℕ) → letter_start t text k ≤ k
unfolding letter_start
letter-low t text zero = omega arith
letter-low t text (suc k) =
    let rest = letter-low t text k in
    cond_both (goes_on t text (suc k)) (letter_start t text k) (suc k) (λ n. n ≤ suc k) (λ _. omega (arith, rest)) (λ _. omega arith)

-- it begins at no place that goes on
starts-no-rest : (t : ℕ) (text : List ℕ) (a k : ℕ) → letter_start t text a ≡ suc k → goes_on t text (suc k) ≡ false
unfolding letter_start
starts-no-rest t text zero k e = absurd (omega (arith, e))
starts-no-rest t text (suc a) k e = elim (cases_Bool (goes_on t text (suc a))) [
  | inl on ↦ starts-no-rest t text a k (sym (cond-true (goes_on t text (suc a)) (letter_start t text a) (suc a) on) ∙ e)
  | inr off ↦
      let same : suc a ≡ suc k = sym (cond-false (goes_on t text (suc a)) (letter_start t text a) (suc a) off) ∙ e in
      ap (goes_on t text) (sym same) ∙ off
]

-- the first number of a range that doesn't pass
prefix-stop : (test : ℕ → Bool) (a n : ℕ) → prefix_len test (range_with_len a n) < n
    → test (a + prefix_len test (range_with_len a n)) ≡ false
prefix-stop test a zero less = absurd (omega (arith, less))
prefix-stop test a (suc n) less = elim (cases_Bool (test a)) [
  | inl on ↦
      let more : prefix_len test (a ∷ range_with_len (a + 1) n) ≡ 1 + prefix_len test (range_with_len (a + 1) n) = cond-true (test a) _ 0 on in
      let z : a + prefix_len test (a ∷ range_with_len (a + 1) n) ≡ a + 1 + prefix_len test (range_with_len (a + 1) n) = omega (arith, more) in
      ap test z ∙ prefix-stop test (a + 1) n (omega (arith, less, more))
  | inr off ↦
      let none : prefix_len test (a ∷ range_with_len (a + 1) n) ≡ 0 = cond-false (test a) (1 + prefix_len test (range_with_len (a + 1) n)) 0 off in
      let z : a + prefix_len test (a ∷ range_with_len (a + 1) n) ≡ a = omega (arith, none) in
      ap test z ∙ off
]

-- past the text no place goes on
past-no-rest : (t : ℕ) (text : List ℕ) (k : ℕ) → length text ≤ k → goes_on t text k ≡ false
unfolding goes_on
past-no-rest t text k past = and_left _ _ (le-ltb _ _ past)

letter-high : (t : ℕ) (text : List ℕ) (k : ℕ) → k ≤ letter_end t text k
unfolding letter_end
letter-high t text k = omega arith

-- nor does it end right before one that goes on
ends-no-rest : (t : ℕ) (text : List ℕ) (b : ℕ) → goes_on t text (letter_end t text b) ≡ false
unfolding letter_end
ends-no-rest t text b = elim (cases_lt n (length text - b)) [
  | inl less ↦ prefix-stop (goes_on t text) b (length text - b) less
  | inr past ↦ past-no-rest t text (b + n) (omega (arith, past))
]
  where
    n : ℕ
    n = prefix_len (goes_on t text) (range_with_len b (length text - b))

-- so a part has a place that goes on where it has the place before it
abbrev has : Part → ℕ → Bool
has p k = nat_le p.from k && nat_lt k p.to

module _ (t : ℕ) (text : List ℕ) (k : ℕ) (on : goes_on t text (suc k) ≡ true) where
  low-same : (a : ℕ) → nat_le (letter_start t text a) k ≡ nat_le (letter_start t text a) (suc k)
  low-same a = elim (cases_lt k from) [
    | inl less ↦ elim (cases_lt (suc k) from) [
      | inl more ↦ lt-leb from k less ∙ sym (lt-leb from (suc k) more)
      | inr same ↦
          let is : from ≡ suc k = omega (arith, less, same) in
          absurd (true≢false (sym on ∙ starts-no-rest t text a k is))
    ]
    | inr low ↦ le-leb from k low ∙ sym (le-leb from (suc k) (omega (arith, low)))
  ]
    where
      from : ℕ
      from = letter_start t text a

  high-same : (b : ℕ) → nat_lt k (letter_end t text b) ≡ nat_lt (suc k) (letter_end t text b)
  high-same b = elim (cases_lt k to) [
    | inl less ↦ elim (cases_lt (suc k) to) [
      | inl more ↦ lt-ltb k to less ∙ sym (lt-ltb (suc k) to more)
      | inr same ↦
          let is : to ≡ suc k = omega (arith, less, same) in
          absurd (true≢false (sym on ∙ ap (goes_on t text) (sym is) ∙ ends-no-rest t text b))
    ]
    | inr past ↦ le-ltb k to past ∙ sym (le-ltb (suc k) to (omega (arith, past)))
  ]
    where
      to : ℕ
      to = letter_end t text b

  in-same : (n : ℕ) (parts : List Part) → is_in (widened t text n parts) k ≡ is_in (widened t text n parts) (suc k)
  unfolding is_in widened widened_part
  in-same n [] = refl
  in-same n (p ∷ parts) = λ i. (low-same (p.from - n) i && high-same (p.to + n) i) || in-same n parts i

-- ---- a place that is in one of some parts is seen, also where there is more on either side

in-one : (parts : List Part) (k j : ℕ) (p : Part) → slice_get parts j ≡ Some p → p.from ≤ k → k < p.to → is_in parts k ≡ true
unfolding is_in
in-one parts k j p there low high =
    list_any-true (λ (p : Part). has p k) parts j p there (both-true _ _ (le-leb _ _ low) (lt-ltb _ _ high))

-- what is in a part is seen
in-seen : (parts : List Part) (k : ℕ) → is_in parts k ≡ true → sight_in parts k ≡ Seen
unfolding sight_in
in-seen parts k on = cond-true (is_in parts k) Seen _ on

-- and nothing else
seen-in : (parts : List Part) (k : ℕ) → sight_in parts k ≡ Seen → is_in parts k ≡ true
unfolding sight_in
seen-in parts k e = elim (cases_Bool (is_in parts k)) [
  | inl on ↦ on
  | inr off ↦ elim (cases_Bool next) [
    | inl on ↦ let h : Seen ≡ Marked = sym e ∙ cond-false (is_in parts k) Seen (if_next) off ∙ cond-true next Marked Unseen on in cc
    | inr none ↦ let h : Seen ≡ Unseen = sym e ∙ cond-false (is_in parts k) Seen (if_next) off ∙ cond-false next Marked Unseen none in cc
  ]
]
  where
    next : Bool
    next = is_in parts (k + 1) || (nat_lt 0 k && is_in parts (k - 1) && list_all (λ (p : Part). nat_le p.to k) parts)

    if_next : Sight
    if_next = if next then Marked else Unseen

-- a place of a part is in it where it is widened
wide-in : (t : ℕ) (text : List ℕ) (n : ℕ) (parts : List Part) (k j : ℕ) (p : Part) → slice_get parts j ≡ Some p → p.from ≤ k → k < p.to
    → is_in (widened t text n parts) k ≡ true
unfolding widened widened_part
wide-in t text n parts k j p there low high =
    let wide : Part → Part = widened_part t text n in
    let there_wide : slice_get (map wide parts) j ≡ Some (wide p) = slice_get-map wide parts j ∙ ap (option_map wide) there in
    let from = letter-low t text (p.from - n) in
    let to = letter-high t text (p.to + n) in
    in-one (map wide parts) k j (wide p) there_wide (omega (arith, low, from)) (omega (arith, high, to))

-- the part of a label has its place
pub record HasPart (parts : List Part) (k : ℕ) : Type 0 where
  pub number : ℕ
  pub part : Part
  pub there : slice_get parts number ≡ Some part
  pub low : part.from ≤ k
  pub high : k < part.to

-- parts that have one are no others
begun : (parts : List Part) (k : ℕ) → HasPart parts k → HasPart (or_begin parts) k
unfolding or_begin
begun [] k h = absurd (none≢some h.part h.there)
begun (p ∷ parts) k h = h

by-place : (labels : List LineLabel) (j : ℕ) (x : LineLabel) → slice_get labels j ≡ Some x → HasPart (map place_part labels) x.place
unfolding place_part
by-place labels j x there = record {
  number = j;
  part = place_part x;
  there = slice_get-map place_part labels j ∙ ap (option_map place_part) there;
  low = omega arith;
  high = omega arith;
}

span-has : (o : ℕ) (x : LineLabel) → ((span_part o x).from ≤ x.place) × (x.place < (span_part o x).to)
unfolding span_part place_part
span-has o x =
    cond_both (is_inline x.side) _ (place_part x) (λ (p : Part). (p.from ≤ x.place) × (x.place < p.to)) (λ _. (omega arith, omega arith))
    (λ _. (omega arith, omega arith))

by-span : (o : ℕ) (labels : List LineLabel) (j : ℕ) (x : LineLabel) → slice_get labels j ≡ Some x → HasPart (map (span_part o) labels) x.place
by-span o labels j x there = record {
  number = j;
  part = span_part o x;
  there = slice_get-map (span_part o) labels j ∙ ap (option_map (span_part o)) there;
  low = (span-has o x).0;
  high = (span-has o x).1;
}

-- a label with a message is one that the line is cut round
kept-at : (labels : List LineLabel) (j : ℕ) (x : LineLabel) → slice_get labels j ≡ Some x → x.info.has_message ≡ true
    → (i : ℕ) × (slice_get (filter (λ (x : LineLabel). x.info.has_message) labels) i ≡ Some x)
kept-at [] j x there told = absurd (none≢some x there)
kept-at (y ∷ ys) zero x there told =
    let same : y ≡ x = cc in
    let on : y.info.has_message ≡ true = ap (λ (x : LineLabel). x.info.has_message) same ∙ told in
    (0, ap (λ zs. slice_get zs 0) (cond-true y.info.has_message (y ∷ filter (λ (x : LineLabel). x.info.has_message) ys) _ on) ∙ ap Some same)
kept-at (y ∷ ys) (suc j) x there told =
    let rest = kept-at ys j x there told in
    elim (cases_Bool y.info.has_message) [
      | inl on ↦ (suc rest.0, ap (λ zs. slice_get zs (suc rest.0)) (cond-true y.info.has_message (y ∷ filter (λ (x : LineLabel). x.info.has_message) ys) _ on) ∙ rest.1)
      | inr off ↦ (rest.0, ap (λ zs. slice_get zs rest.0) (cond-false y.info.has_message (y ∷ filter (λ (x : LineLabel). x.info.has_message) ys) _ off) ∙ rest.1)
    ]

needed-at : (labels : List LineLabel) (j : ℕ) (x : LineLabel) → slice_get labels j ≡ Some x → x.info.has_message ≡ true
    → (i : ℕ) × (slice_get (needed_labels labels) i ≡ Some x)
unfolding needed_labels
needed-at labels j x there told =
    cond_both (length (filter (λ (x : LineLabel). x.info.has_message) labels) == 0) labels (filter (λ (x : LineLabel). x.info.has_message) labels)
    (λ xs. (i : ℕ) × (slice_get xs i ≡ Some x)) (λ _. (j, there)) (λ _. kept-at labels j x there told)

module _ (switches : Switches) (o : ℕ) (labels : List LineLabel) (text : List ℕ) where
  abbrev t : ℕ
  t = switches.tab_width

  abbrev spans : List Part
  spans = or_begin (map (span_part o) (needed_labels labels))

  abbrev places : List Part
  places = or_begin (map place_part (needed_labels labels))

  -- the parts that are needed have the place of each label with a message
  needed-has : (j : ℕ) (x : LineLabel) → slice_get labels j ≡ Some x → x.info.has_message ≡ true
      → HasPart (needed_parts switches o labels text) x.place
  unfolding needed_parts
  needed-has j x there told =
      let at = needed-at labels j x there told in
      cond_both (fits_with switches text spans 0) spans places (λ parts. HasPart parts x.place)
      (λ _. begun _ x.place (by-span o (needed_labels labels) at.0 x at.1)) (λ _. begun _ x.place (by-place (needed_labels labels) at.0 x at.1))

  -- so it is seen
  place-seen : (j : ℕ) (x : LineLabel) → slice_get labels j ≡ Some x → x.info.has_message ≡ true
      → sight_in (parts_of switches o labels text) x.place ≡ Seen
  unfolding parts_of
  place-seen j x there told =
      let needed = needed_parts switches o labels text in
      let h = needed-has j x there told in
      in-seen _ x.place (wide-in t text (context switches text needed) needed x.place h.number h.part h.there h.low h.high)

  -- ---- what a line has a list of

  abbrev listed : List Sight
  listed = map (sight_in (parts_of switches o labels text)) (upto (length text))

  -- what is seen of a place is told by the parts, if the line is cut, or past its text by none
  look : (k : ℕ) (P : Sight → Type 0) → P Seen → (is_too_wide switches text ≡ true → k < length text → P (sight_in (parts_of switches o labels text) k))
      → P (unwrap_or (slice_get (sights_of switches o labels text) k) Seen)
  unfolding sights_of
  look k P whole cut =
      cond_both (is_too_wide switches text) listed [] (λ sights. P (unwrap_or (slice_get sights k) Seen)) (λ on. elim (cases_lt k (length text)) [
        | inl few ↦
            let z : 0 + k ≡ k = omega arith in
            subst P
            (sym (unwrap_or-slice_get listed k Seen
            ∙ get_or-map-range_with_len (sight_in (parts_of switches o labels text)) 0 (length text) k k Seen few z)) (cut on few)
        | inr past ↦
            let size = length-map-range_with_len (sight_in (parts_of switches o labels text)) 0 (length text) in
            subst P (sym (unwrap_or-slice_get listed k Seen ∙ get_or_past listed k Seen (omega (arith, past, size)))) whole
      ]) (λ _. whole)

-- ---- the laws

abbrev all_labels : Sheet → ℕ → List LineLabel
all_labels s l = option_to_list (margin_label s.labels l) ++ line_labels s.labels l

abbrev shown_line : Sheet → ℕ → List ℕ
shown_line s l = drop_trailing_whitespace (line_text s.lines l)

-- what strokes of a line label lead to is seen
pub label-seen : (s : Sheet) (l j : ℕ) (x : LineLabel) → slice_get (all_labels s l) j ≡ Some x → x.info.has_message ≡ true
    → sight_of (layout_of s l) x.place ≡ Seen
unfolding sight_of layout_of
label-seen s l j x there told =
    let o = line_offset length s.lines l in
    look s.switches o (all_labels s l) (shown_line s l) x.place (λ sight. sight ≡ Seen) refl
    (λ _ _. place-seen s.switches o (all_labels s l) (shown_line s l) j x there told)

-- letters are seen whole
letter-same : (switches : Switches) (o : ℕ) (labels : List LineLabel) (text : List ℕ) (k : ℕ) → goes_on switches.tab_width text (suc k) ≡ true
    → (sight_in (parts_of switches o labels text) k ≡ Seen) ↔ (sight_in (parts_of switches o labels text) (suc k) ≡ Seen)
unfolding parts_of
letter-same switches o labels text k on =
    let needed = needed_parts switches o labels text in
    let n = context switches text needed in
    let same = in-same switches.tab_width text k on n needed in
    (λ e. in-seen _ (suc k) (sym same ∙ seen-in _ k e), λ e. in-seen _ k (same ∙ seen-in _ (suc k) e))

-- a place that goes on is one of the text
rest-within : (t : ℕ) (text : List ℕ) (k : ℕ) → goes_on t text k ≡ true → k < length text
rest-within t text k on = elim (cases_lt k (length text)) [
  | inl few ↦ few
  | inr past ↦ absurd (true≢false (sym on ∙ past-no-rest t text k past))
]

pub letters-whole : (s : Sheet) (l k : ℕ) → goes_on s.switches.tab_width (shown (layout_of s l)) (k + 1) ≡ true
    → (sight_of (layout_of s l) k ≡ Seen) ↔ (sight_of (layout_of s l) (k + 1) ≡ Seen)
unfolding sight_of layout_of shown sights_of
letters-whole s l k on = subst (λ m. (at k ≡ Seen) ↔ (at m ≡ Seen)) next whole
  where
    text : List ℕ
    text = shown_line s l

    o : ℕ
    o = line_offset length s.lines l

    at : ℕ → Sight
    at k = unwrap_or (slice_get (sights_of s.switches o (all_labels s l) text) k) Seen

    next : suc k ≡ k + 1
    next = omega arith

    goes : goes_on s.switches.tab_width text (suc k) ≡ true
    goes = ap (goes_on s.switches.tab_width text) next ∙ on

    few : suc k < length text
    few = rest-within s.switches.tab_width text (suc k) goes

    parts : List Part
    parts = parts_of s.switches o (all_labels s l) text

    whole : (at k ≡ Seen) ↔ (at (suc k) ≡ Seen)
    whole =
        cond_both (is_too_wide s.switches text) (map (sight_in parts) (upto (length text))) []
        (λ sights. (unwrap_or (slice_get sights k) Seen ≡ Seen) ↔ (unwrap_or (slice_get sights (suc k)) Seen ≡ Seen))
        (λ _.
        let z : 0 + k ≡ k = omega arith in
        let y : 0 + suc k ≡ suc k = omega arith in
        let one = unwrap_or-slice_get (map (sight_in parts) (upto (length text))) k Seen
        ∙ get_or-map-range_with_len (sight_in parts) 0 (length text) k k Seen (omega (arith, few)) z in
        let two = unwrap_or-slice_get (map (sight_in parts) (upto (length text))) (suc k) Seen
        ∙ get_or-map-range_with_len (sight_in parts) 0 (length text) (suc k) (suc k) Seen few y in
        let same = letter-same s.switches o (all_labels s l) text k goes in
        (λ e. two ∙ same.0 (sym one ∙ e), λ e. one ∙ same.1 (sym two ∙ e))) (λ _. (λ _. refl, λ _. refl))

-- where no width is asked for no line is cut
pub whole-seen : (s : Sheet) (l k : ℕ) → s.switches.width ≡ 0 → sight_of (layout_of s l) k ≡ Seen
unfolding sight_of layout_of is_too_wide
whole-seen s l k none =
    look s.switches (line_offset length s.lines l) (all_labels s l) (shown_line s l) k (λ sight. sight ≡ Seen) refl
    (λ cut _. absurd (true≢false (sym cut ∙ and_left _ _ (le-ltb 0 s.switches.width (omega (arith, none))))))

-- ---- it fits

-- a number of a range before the first that fails passes
prefix-pass : (test : ℕ → Bool) (a n j : ℕ) → j < prefix_len test (range_with_len a n) → test (a + j) ≡ true
prefix-pass test a zero j less = absurd (omega arith)
prefix-pass test a (suc n) j less = elim (cases_Bool (test a)) [
  | inr off ↦
      let none : prefix_len test (a ∷ range_with_len (a + 1) n) ≡ 0 = cond-false (test a) (1 + prefix_len test (range_with_len (a + 1) n)) 0 off in
      absurd (omega (arith, less, none))
  | inl on ↦ by-number j less on (λ i few. prefix-pass test (a + 1) n i few)
]
  where
    by-number : (j : ℕ) → j < prefix_len test (a ∷ range_with_len (a + 1) n) → test a ≡ true
        → ((i : ℕ) → i < prefix_len test (range_with_len (a + 1) n) → test (a + 1 + i) ≡ true) → test (a + j) ≡ true
    by-number zero less on rest = let z : a + 0 ≡ a = omega arith in ap test z ∙ on
    by-number (suc j) less on rest =
        let more : prefix_len test (a ∷ range_with_len (a + 1) n) ≡ 1 + prefix_len test (range_with_len (a + 1) n) =
        cond-true (test a) (1 + prefix_len test (range_with_len (a + 1) n)) 0 on in
        let z : a + suc j ≡ a + 1 + j = omega arith in
        ap test z ∙ rest j (omega (arith, less, more))

-- a line fits with the places that are shown on either side, or none is
fits-or-none : (switches : Switches) (text : List ℕ) (parts : List Part)
    → (fits_with switches text parts (context switches text parts) ≡ true) ⊎ (context switches text parts ≡ 0)
unfolding context
fits-or-none switches text parts = elim (cases_lt 0 count) [
  | inl some ↦ let z : 0 + (count - 1) ≡ count - 1 = omega arith in inl (ap test (sym z) ∙ prefix-pass test 0 (length text) (count - 1) (omega (arith, some)))
  | inr none ↦ inr (omega (arith, none))
]
  where
    test : ℕ → Bool
    test = fits_with switches text parts

    count : ℕ
    count = prefix_len test (upto (length text))

-- a cut line fits, or it shows the letters that strokes lead to and no other
module _ (switches : Switches) (o : ℕ) (labels : List LineLabel) (text : List ℕ) where
  abbrev needed_here : List Part
  needed_here = needed_parts switches o labels text

  abbrev spans_here : List Part
  spans_here = or_begin (map (span_part o) (needed_labels labels))

  abbrev places_here : List Part
  places_here = or_begin (map place_part (needed_labels labels))

  needed-fits : (fits_with switches text needed_here 0 ≡ true) ⊎ (needed_here ≡ places_here)
  unfolding needed_parts
  needed-fits = elim (cases_Bool (fits_with switches text spans_here 0)) [
    | inl on ↦ inl (ap (λ parts. fits_with switches text parts 0) (cond-true (fits_with switches text spans_here 0) spans_here places_here on) ∙ on)
    | inr off ↦ inr (cond-false (fits_with switches text spans_here 0) spans_here places_here off)
  ]

  fits-le : (n : ℕ) → fits_with switches text needed_here n ≡ true
      → cut_columns switches text (widened switches.tab_width text n needed_here) ≤ switches.width
  unfolding fits_with
  fits-le n on = leb-true _ _ on

  pub cut-fits : (cut_columns switches text (parts_of switches o labels text) ≤ switches.width)
      ⊎ (parts_of switches o labels text ≡ widened switches.tab_width text 0 places_here)
  unfolding parts_of
  cut-fits = elim (fits-or-none switches text needed_here) [
    | inl good ↦ inl (fits-le (context switches text needed_here) good)
    | inr none ↦ elim needed-fits [
      | inl good ↦
          inl (subst (λ n. cut_columns switches text (widened switches.tab_width text n needed_here) ≤ switches.width) (sym none) (fits-le 0 good))
      | inr places ↦ inr (λ i. widened switches.tab_width text (none i) (places i))
    ]
  ]
