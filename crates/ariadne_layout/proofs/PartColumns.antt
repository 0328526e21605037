-- The columns of a line of which parts are shown that stand apart: those of a mark before each part, of the part's places, and of a mark behind the last.
use Rattle.std.proofs.Common.{◌≡◌, ◌∙◌, ℕ, zero, suc, ◌+◌, ◌-◌, ◌<◌, ◌≤◌, min, List, [], ◌∷◌, length, get_or, slice_get, Option, Some, None, take, refl, sym, ap, arith, inl, inr}
use Rattle.std.specs.Prelude.{◌&&◌, IfSome, nat_le, nat_lt}
use Rattle.std.specs.Option.{is_some}
use Rattle.std.proofs.lemmas.Bool.{cases_lt, cond-true, cond-false, le-leb, lt-leb, lt-ltb, le-ltb, and_from, and_left, and_right}
use Rattle.std.proofs.lemmas.List.{take_all}
use Rattle.std.proofs.lemmas.Option.{slice_get_within, get_or_from_slice_get}
use Rattle.ariadne_picture.specs.declared.sight.Part.{Part}
use Rattle.ariadne_picture.specs.declared.sight.Sight.{Sight}
use Rattle.ariadne_picture.specs.declared.sight.Sight.TheVariants.{Seen, Marked, Unseen}
use Rattle.ariadne_picture.specs.declared.switches.CharSet.{CharSet}
use Rattle.ariadne_picture.specs.declared.switches.Switches.{Switches}
use Rattle.ariadne_picture.specs.Columns.{columns_of, cut_columns, mark_columns, sight_in, whole_column, whole_width}
use Rattle.ariadne_picture.specs.Lists.{total}
use Rattle.ariadne_picture.proofs.Cells.LineColumns.{total-upto_more}
use Rattle.ariadne_layout.specs.Cuts.{AreApart, cut_column, end_of, mark_before, mark_behind}
use Rattle.ariadne_layout.specs.Tables.{AreWholeColumns, column_in}
use Rattle.ariadne_layout.proofs.PartSights.{end-low, end-more, marked-before, marked-behind, part-from, seen-within, unseen-before, unseen-behind, unseen-none}
use Rattle.ariadne_layout.proofs.PlaceColumns.{total-upto_grows, whole_column-more}

-- ---- one place more

-- the first place begins at the first column
pub cut-first : (s : Switches) (text : List ℕ) (parts : List Part) → cut_column s text parts 0 ≡ 0
unfolding cut_column total
cut-first s text parts = refl

-- all places have those of the text
pub cut-all : (s : Switches) (text : List ℕ) (parts : List Part) → cut_columns s text parts ≡ cut_column s text parts (length text)
unfolding cut_column cut_columns
cut-all s text parts = refl

-- a place has its columns by what is seen of it
pub cut-more : (s : Switches) (text : List ℕ) (parts : List Part) (k : ℕ) (sight : Sight) → sight_in parts k ≡ sight
    → cut_column s text parts (k + 1) ≡ cut_column s text parts k + columns_of s.char_set sight (whole_width s.tab_width text k)
unfolding cut_column
cut-more s text parts k sight is =
    total-upto_more (λ j. columns_of s.char_set (sight_in parts j) (whole_width s.tab_width text j)) k
    ∙ ap (λ x. cut_column s text parts k + columns_of s.char_set x (whole_width s.tab_width text k)) is

-- later places begin no earlier
pub cut-grows : (s : Switches) (text : List ℕ) (parts : List Part) (a b : ℕ) → a ≤ b → cut_column s text parts a ≤ cut_column s text parts b
unfolding cut_column
cut-grows s text parts a b up =
    let e : a + (b - a) ≡ b = omega (arith, up) in
    let grown = total-upto_grows (λ j. columns_of s.char_set (sight_in parts j) (whole_width s.tab_width text j)) a (b - a) in
    let all = ap (cut_column s text parts) e in
    omega (arith, grown, all)

-- places of which nothing is seen have none
flat : (s : Switches) (text : List ℕ) (parts : List Part) (a d : ℕ) → ((k : ℕ) → a ≤ k → k < a + d → sight_in parts k ≡ Unseen)
    → cut_column s text parts (a + d) ≡ cut_column s text parts a
unfolding columns_of
flat s text parts a zero none = let z : a + 0 ≡ a = omega arith in ap (cut_column s text parts) z
flat s text parts a (suc d) none =
    let e : a + suc d ≡ a + d + 1 = omega arith in
    let more = cut-more s text parts (a + d) Unseen (none (a + d) (omega arith) (omega arith)) in
    let sofar = flat s text parts a d (λ k low high. none k low (omega (arith, high))) in
    ap (cut_column s text parts) e ∙ omega (arith, more, sofar)

flat-to : (s : Switches) (text : List ℕ) (parts : List Part) (a b : ℕ) → a ≤ b → ((k : ℕ) → a ≤ k → k < b → sight_in parts k ≡ Unseen)
    → cut_column s text parts b ≡ cut_column s text parts a
flat-to s text parts a b up none =
    let e : a + (b - a) ≡ b = omega (arith, up) in
    sym (ap (cut_column s text parts) e) ∙ flat s text parts a (b - a) (λ k low high. none k low (omega (arith, high, up)))

-- ---- a part

-- the places before it
pub before-flat : (s : Switches) (text : List ℕ) (parts : List Part) (i : ℕ) (d : Part) (n k : ℕ) → AreApart parts → i < length parts
    → min (end_of 0 (take i parts)) n ≤ k → k < (get_or parts i d).from → k ≤ n
    → cut_column s text parts k ≡ cut_column s text parts (min (end_of 0 (take i parts)) n)
before-flat s text parts i d n k apart below low high within =
    let e = end_of 0 (take i parts) in
    elim (cases_lt n e) [
      | inl past ↦ let is : k ≡ min e n = omega (arith, past, low, within) in ap (cut_column s text parts) is
      | inr before ↦
          flat-to s text parts (min e n) k low
          (λ j from to. unseen-before parts i d j apart below (omega (arith, from, before)) (omega (arith, to, high)))
    ]

-- and the mark
mark-is : (s : Switches) (p : Part) (n : ℕ) → 0 < p.from → p.from ≤ n → mark_before s.char_set p n ≡ mark_columns s.char_set
unfolding mark_before
mark-is s p n some within =
    cond-true (nat_lt 0 p.from && nat_le p.from n) (mark_columns s.char_set) 0 (and_from (nat_lt 0 p.from) _ (lt-ltb 0 p.from some) (le-leb p.from n within))

mark-first : (s : Switches) (p : Part) (n : ℕ) → p.from ≤ 0 → mark_before s.char_set p n ≡ 0
unfolding mark_before
mark-first s p n none =
    cond-false (nat_lt 0 p.from && nat_le p.from n) (mark_columns s.char_set) 0 (and_left (nat_lt 0 p.from) _ (le-ltb 0 p.from none))

mark-past : (s : Switches) (p : Part) (n : ℕ) → n < p.from → mark_before s.char_set p n ≡ 0
unfolding mark_before
mark-past s p n past =
    cond-false (nat_lt 0 p.from && nat_le p.from n) (mark_columns s.char_set) 0 (and_right (nat_lt 0 p.from) _ (lt-leb p.from n past))

pub before-step : (s : Switches) (text : List ℕ) (parts : List Part) (i : ℕ) (d : Part) (n : ℕ) → AreApart parts → i < length parts
    → cut_column s text parts (min (get_or parts i d).from n)
    ≡ cut_column s text parts (min (end_of 0 (take i parts)) n) + mark_before s.char_set (get_or parts i d) n
unfolding columns_of
before-step s text parts i d n apart below =
    let p = get_or parts i d in
    let e = end_of 0 (take i parts) in
    let f = cut_column s text parts in
    let low = end-low parts i d apart below in
    elim (cases_lt n p.from) [
      | inl past ↦
          let none = mark-past s p n past in
          let same = before-flat s text parts i d n n apart below (omega arith) past (omega arith) in
          let at : min p.from n ≡ n = omega (arith, past) in
          ap f at ∙ omega (arith, same, none)
      | inr within ↦ elim (cases_lt 0 p.from) [
        | inr first ↦
            let none = mark-first s p n first in
            let at : min p.from n ≡ min e n = omega (arith, first, low.1) in
            ap f at ∙ omega (arith, none)
        | inl some ↦
            let mark = mark-is s p n some within in
            let here : e ≤ p.from - 1 = omega (arith, low.0 some) in
            let at : min p.from n ≡ p.from - 1 + 1 = omega (arith, some, within) in
            let more = cut-more s text parts (p.from - 1) Marked (marked-before parts i d (p.from - 1) apart below here (omega (arith, some))) in
            let same = before-flat s text parts i d n (p.from - 1) apart below (omega (arith, here)) (omega (arith, some)) (omega (arith, within)) in
            ap f at ∙ omega (arith, more, same, mark)
      ]
    ]

-- its places have the columns that they have in the whole line
pub seen-step : (s : Switches) (text : List ℕ) (parts : List Part) (i : ℕ) (d : Part) (n k : ℕ) → i < length parts
    → min (get_or parts i d).from n ≤ k → k < min (get_or parts i d).to n
    → cut_column s text parts (k + 1) ≡ cut_column s text parts k + whole_width s.tab_width text k
unfolding columns_of
seen-step s text parts i d n k below from to =
    cut-more s text parts k Seen (seen-within parts i d k below (omega (arith, from, to)) (omega (arith, to)))

-- so all of them have those between its first and the place behind its last
seen-run : (s : Switches) (text : List ℕ) (parts : List Part) (a d : ℕ) → ((k : ℕ) → a ≤ k → k < a + d
    → cut_column s text parts (k + 1) ≡ cut_column s text parts k + whole_width s.tab_width text k)
    → cut_column s text parts (a + d) + whole_column s.tab_width text a ≡ cut_column s text parts a + whole_column s.tab_width text (a + d)
seen-run s text parts a zero each =
    let z : a + 0 ≡ a = omega arith in
    let f = ap (cut_column s text parts) z in
    let g = ap (whole_column s.tab_width text) z in
    omega (arith, f, g)
seen-run s text parts a (suc d) each =
    let e : a + suc d ≡ a + d + 1 = omega arith in
    let f = ap (cut_column s text parts) e in
    let g = ap (whole_column s.tab_width text) e in
    let last = each (a + d) (omega arith) (omega arith) in
    let more = whole_column-more s.tab_width text (a + d) in
    let sofar = seen-run s text parts a d (λ k low high. each k low (omega (arith, high))) in
    omega (arith, f, g, last, more, sofar)

pub seen-columns : (s : Switches) (text columns : List ℕ) (parts : List Part) (i : ℕ) (d : Part) (n w : ℕ) → AreApart parts → i < length parts
    → n ≤ length text → AreWholeColumns s.tab_width text columns
    → w ≡ column_in columns (min (get_or parts i d).to n) - column_in columns (min (get_or parts i d).from n)
    → cut_column s text parts (min (get_or parts i d).to n) ≡ cut_column s text parts (min (get_or parts i d).from n) + w
seen-columns s text columns parts i d n w apart below within held width =
    let p = get_or parts i d in
    let there = part-from 0 parts i d apart below in
    let a = min p.from n in
    let b = min p.to n in
    let e : a + (b - a) ≡ b = omega (arith, there.1) in
    let run = seen-run s text parts a (b - a) (λ k low high. seen-step s text parts i d n k below low (omega (arith, high, there.1))) in
    let f = ap (cut_column s text parts) e in
    let g = ap (whole_column s.tab_width text) e in
    let from = held a (omega (arith, within)) in
    let to = held b (omega (arith, within)) in
    let up = cut-grows s text parts a b (omega (arith, there.1)) in
    omega (arith, run, f, g, from, to, width, up)

-- ---- behind the last

behind-is : (set : CharSet) (parts : List Part) (n : ℕ) → 0 < length parts → end_of 0 parts < n → mark_columns set ≡ mark_behind set parts n
unfolding mark_behind
behind-is set parts n some within =
    sym (cond-true (nat_lt 0 (length parts) && nat_lt (end_of 0 parts) n) (mark_columns set) 0
    (and_from (nat_lt 0 (length parts)) _ (lt-ltb 0 (length parts) some) (lt-ltb (end_of 0 parts) n within)))

behind-none : (set : CharSet) (n : ℕ) → 0 ≡ mark_behind set [] n
unfolding mark_behind
behind-none set n = refl

behind-past : (set : CharSet) (parts : List Part) (n : ℕ) → n ≤ end_of 0 parts → 0 ≡ mark_behind set parts n
unfolding mark_behind
behind-past set parts n past =
    sym (cond-false (nat_lt 0 (length parts) && nat_lt (end_of 0 parts) n) (mark_columns set) 0
    (and_right (nat_lt 0 (length parts)) _ (le-ltb (end_of 0 parts) n past)))

-- the last part is looked at
pub last-ends : (parts : List Part) (p : Part) → slice_get parts (length parts - 1) ≡ Some p → (0 < length parts) × (end_of 0 parts ≡ p.to)
last-ends parts p last =
    let within = slice_get_within parts (length parts - 1) p last in
    let z : length parts - 1 + 1 ≡ length parts = omega (arith, within) in
    let all : take (length parts - 1 + 1) parts ≡ parts = ap (λ m. take m parts) z ∙ take_all (length parts) parts (omega arith) in (
      omega (arith, within),
      ap (end_of 0) (sym all) ∙ end-more 0 parts (length parts - 1) p within
          ∙ ap (λ (q : Part). q.to) (get_or_from_slice_get parts (length parts - 1) p p last),
    )

pub behind-before : (set : CharSet) (parts : List Part) (p : Part) (n : ℕ) → slice_get parts (length parts - 1) ≡ Some p → p.to < n
    → mark_columns set ≡ mark_behind set parts n
behind-before set parts p n last within =
    let ends = last-ends parts p last in behind-is set parts n ends.0 (omega (arith, ends.1, within))

pub behind-after : (set : CharSet) (parts : List Part) (p : Part) (n : ℕ) → slice_get parts (length parts - 1) ≡ Some p → n ≤ p.to
    → 0 ≡ mark_behind set parts n
behind-after set parts p n last past =
    let ends = last-ends parts p last in behind-past set parts n (omega (arith, ends.1, past))

-- there is none
pub behind-no : (set : CharSet) (parts : List Part) (n : ℕ) → length parts ≤ 0 → 0 ≡ mark_behind set parts n
behind-no set [] n none = behind-none set n
behind-no set (p ∷ parts) n none = absurd (omega (arith, none))

-- the places behind it have those of a mark
pub behind-step : (s : Switches) (text : List ℕ) (parts : List Part) (n k : ℕ) → AreApart parts → end_of 0 parts < k → k ≤ n
    → cut_column s text parts k ≡ cut_column s text parts (min (end_of 0 parts) n) + mark_behind s.char_set parts n
unfolding columns_of
behind-step s text [] n k apart later within =
    let none = behind-none s.char_set n in
    let z : min (end_of 0 []) n ≤ k = omega (arith, later) in
    let same = flat-to s text [] (min (end_of 0 []) n) k z (λ j low high. unseen-none j) in
    omega (arith, none, same)
behind-step s text (p ∷ parts) n k apart later within =
    let all = p ∷ parts in
    let e = end_of 0 all in
    let some : 0 < length all = omega arith in
    let mark = behind-is s.char_set all n some (omega (arith, later, within)) in
    let at : min e n ≡ e = omega (arith, later, within) in
    let here = ap (cut_column s text all) at in
    let more = cut-more s text all e Marked (marked-behind all e apart some refl) in
    let same = flat-to s text all (e + 1) k (omega (arith, later)) (λ j low high. unseen-behind all j apart (omega (arith, low))) in
    omega (arith, mark, here, more, same)

-- so all places before n have those of a mark beside those before the last part's end
pub behind-columns : (s : Switches) (text : List ℕ) (parts : List Part) (n : ℕ) → AreApart parts
    → cut_column s text parts n ≡ cut_column s text parts (min (end_of 0 parts) n) + mark_behind s.char_set parts n
behind-columns s text parts n apart = elim (cases_lt (end_of 0 parts) n) [
  | inl within ↦ behind-step s text parts n n apart within (omega arith)
  | inr past ↦
      let none = behind-past s.char_set parts n past in
      let at : min (end_of 0 parts) n ≡ n = omega (arith, past) in
      let same = ap (cut_column s text parts) at in
      omega (arith, none, same)
]

-- ---- as they are added

-- in front of the first part there is no place
pub added-none : (s : Switches) (text : List ℕ) (parts : List Part) (n : ℕ) → 0 ≡ cut_column s text parts (min (end_of 0 []) n)
unfolding end_of
added-none s text parts n =
    let z : min 0 n ≡ 0 = omega arith in
    let none = cut-first s text parts in
    sym (ap (cut_column s text parts) z ∙ none)

-- the mark before a part is too much
pub mark-too-many : (s : Switches) (text : List ℕ) (parts : List Part) (i : ℕ) (d : Part) (n sum m : ℕ) → AreApart parts → i < length parts
    → length text ≡ n → sum ≡ cut_column s text parts (min (end_of 0 (take i parts)) n) → m ≡ mark_before s.char_set (get_or parts i d) n
    → s.width < sum + m → s.width < cut_columns s text parts
mark-too-many s text parts i d n sum m apart below size sofar mark more =
    let step = before-step s text parts i d n apart below in
    let grown = cut-grows s text parts (min (get_or parts i d).from n) (length text) (omega (arith, size)) in
    let all = cut-all s text parts in
    omega (arith, sofar, mark, more, step, grown, all)

-- the places of a part are added
pub part-added : (s : Switches) (text columns : List ℕ) (parts : List Part) (i : ℕ) (d : Part) (n sum m marked a b w next : ℕ) → AreApart parts
    → i < length parts → length text ≡ n → AreWholeColumns s.tab_width text columns
    → sum ≡ cut_column s text parts (min (end_of 0 (take i parts)) n) → m ≡ mark_before s.char_set (get_or parts i d) n → marked ≡ sum + m
    → a ≡ min (get_or parts i d).from n → b ≡ min (get_or parts i d).to n → w ≡ column_in columns b - column_in columns a → next ≡ marked + w
    → next ≡ cut_column s text parts (min (end_of 0 (take (i + 1) parts)) n)
part-added s text columns parts i d n sum m marked a b w next apart below size held sofar mark with from to width both =
    let step = before-step s text parts i d n apart below in
    let run = seen-columns s text columns parts i d n w apart below (omega (arith, size)) held
    (width ∙ (λ j. column_in columns (to j) - column_in columns (from j))) in
    let end = ap (λ e. cut_column s text parts (min e n)) (end-more 0 parts i d below) in
    omega (arith, sofar, mark, with, both, step, run, end)

-- they are too many
pub part-too-many : (s : Switches) (text : List ℕ) (parts : List Part) (e n next : ℕ) → length text ≡ n
    → next ≡ cut_column s text parts (min e n) → s.width < next → s.width < cut_columns s text parts
part-too-many s text parts e n next size sofar more =
    let grown = cut-grows s text parts (min e n) (length text) (omega (arith, size)) in
    let all = cut-all s text parts in
    omega (arith, sofar, more, grown, all)

-- the mark behind the last makes them all
pub all-added : (s : Switches) (text : List ℕ) (parts : List Part) (i n sum m : ℕ) → AreApart parts → i ≡ length parts → length text ≡ n
    → sum ≡ cut_column s text parts (min (end_of 0 (take i parts)) n) → m ≡ mark_behind s.char_set parts n → sum + m ≡ cut_columns s text parts
all-added s text parts i n sum m apart all size sofar mark =
    let whole : take i parts ≡ parts = take_all i parts (omega (arith, all)) in
    let e = ap (λ ps. cut_column s text parts (min (end_of 0 ps) n)) whole in
    let step = behind-columns s text parts n apart in
    let end = cut-all s text parts in
    let z = ap (cut_column s text parts) size in
    omega (arith, sofar, mark, e, step, end, z)

-- a sum that is no more than the most is that of all
pub few-enough : (r : Option ℕ) (n most all : ℕ) → IfSome r (λ x. (x ≡ n) × (x ≤ most)) → n ≡ all → IfSome r (λ _. all ≤ most)
few-enough None n most all sum is = tt
few-enough (Some x) n most all sum is = omega (arith, sum.0, sum.1, is)

-- there is one if they are
pub is-within : (r : Option ℕ) (most all : ℕ) → IfSome r (λ _. all ≤ most) → (r ≡ None → most < all) → is_some r ≡ nat_le all most
is-within None most all some none = sym (lt-leb all most (none refl))
is-within (Some x) most all some none = sym (le-leb all most some)
