-- The parts of a line that is cut: where letters begin and end, which places are passed over, and how many columns the others take.
use Rattle.std.proofs.Common.{◌≡◌, ℕ, zero, suc, ◌+◌, ◌-◌, ◌<◌, ◌≤◌, ◌⊎◌, Bool, true, false, List, [], ◌∷◌, ◌++◌, map, filter, take, length, get_or, refl}
use Rattle.std.proofs.Common.{sym, ap, ◌∙◌, subst, arith, inl, inr, append_assoc}
use Rattle.std.specs.Prelude.{not, ◌&&◌, ◌||◌, ◌==◌, nat_lt}
use Rattle.std.specs.List.{list_any, prefix_len, range_with_len}
use Rattle.std.proofs.lemmas.Bool.{cases_Bool, cases_lt, cond_both, cond-true, cond-false, lt-ltb, le-ltb, ltb-true, eq-eqb, ne_eqb, eqb-true, and_left, and_right, and_parts, or_parts, true≢false}
use Rattle.std.proofs.lemmas.List.{map-append, take_more}
use Rattle.std.proofs.lemmas.List.Elements.{filter-append}
use Rattle.ariadne_base.specs.Locations.{upto}
use Rattle.ariadne_picture.specs.declared.label_info.LineLabel.{LineLabel}
use Rattle.ariadne_picture.specs.declared.sight.Part.{Part}
use Rattle.ariadne_picture.specs.declared.switches.Switches.{Switches}
use Rattle.ariadne_picture.specs.Columns.{whole_column, whole_width, goes_on, letter_start, letter_end, fits_with}
use Rattle.ariadne_picture.specs.Columns.{widened, widened_part, context, needed_labels, needed_parts, is_too_wide, sights_of}
use Rattle.ariadne_picture.proofs.Lists.Elements.{both-true}
use Rattle.ariadne_layout.specs.Cuts.{label_part, needed, parts_of_labels, sights_in}
use Rattle.ariadne_layout.specs.Tables.{AreWholeColumns, column_in}
use Rattle.ariadne_layout.proofs.PlaceColumns.{whole_column-more}

-- ---- columns

-- the columns of a place, as they are held
pub whole-width-held : (t : ℕ) (text columns : List ℕ) (k w : ℕ) → AreWholeColumns t text columns → k < length text
    → w ≡ column_in columns (k + 1) - column_in columns k → w ≡ whole_width t text k
whole-width-held t text columns k w held below width =
    let from = held k (omega (arith, below)) in
    let to = held (k + 1) (omega (arith, below)) in
    let more = whole_column-more t text k in
    omega (arith, width, from, to, more)

-- three tests, of which two pass
pub behind-is : (a b c r : Bool) → a ≡ true → b ≡ true → r ≡ c → r ≡ (a && b && c)
behind-is a b c r x y e = e ∙ sym (λ i. x i && y i && c)

-- ---- letters

-- whether a place goes on, by its columns
pub goes-on-held : (t : ℕ) (text : List ℕ) (len k w : ℕ) → length text ≡ len → k < len → w ≡ whole_width t text k → (w == 0) ≡ goes_on t text k
unfolding goes_on
goes-on-held t text len k w size below is =
    ap (λ n. n == 0) is ∙ sym (ap (λ b. b && (whole_width t text k == 0)) (lt-ltb k (length text) (omega (arith, size, below))))

pub goes-on-past : (t : ℕ) (text : List ℕ) (len k : ℕ) → length text ≡ len → len ≤ k → false ≡ goes_on t text k
unfolding goes_on
goes-on-past t text len k size past = sym (and_left _ _ (le-ltb k (length text) (omega (arith, size, past))))

-- a letter begins where the place before it does, if a place goes on
pub start-back : (t : ℕ) (text : List ℕ) (k : ℕ) → 0 < k → goes_on t text k ≡ true → letter_start t text (k - 1) ≡ letter_start t text k
unfolding letter_start
start-back t text zero some on = absurd (omega (arith, some))
start-back t text (suc k) some on =
    let z : suc k - 1 ≡ k = omega arith in
    ap (letter_start t text) z ∙ sym (cond-true (goes_on t text (suc k)) (letter_start t text k) (suc k) on)

-- else there
pub start-here : (t : ℕ) (text : List ℕ) (k : ℕ) → goes_on t text k ≡ false → k ≡ letter_start t text k
unfolding letter_start
start-here t text zero off = refl
start-here t text (suc k) off = sym (cond-false (goes_on t text (suc k)) (letter_start t text k) (suc k) off)

pub start-first : (t : ℕ) (text : List ℕ) (k : ℕ) → k ≡ 0 → k ≡ letter_start t text k
unfolding letter_start
start-first t text zero none = refl
start-first t text (suc k) none = absurd (omega (arith, none))

-- a place that goes on is one of the text
pub goes-within : (t : ℕ) (text : List ℕ) (k : ℕ) → goes_on t text k ≡ true → k < length text
unfolding goes_on
goes-within t text k on = ltb-true k (length text) (and_parts _ _ on).0

-- behind a place that goes on the letter ends where it ends
pub end-on : (t : ℕ) (text : List ℕ) (k : ℕ) → goes_on t text k ≡ true → letter_end t text (k + 1) ≡ letter_end t text k
unfolding letter_end
end-on t text k on =
    let within = goes-within t text k on in
    let rest = prefix_len (goes_on t text) (range_with_len (k + 1) (length text - (k + 1))) in
    let size : length text - k ≡ suc (length text - (k + 1)) = omega (arith, within) in
    let first : prefix_len (goes_on t text) (range_with_len k (suc (length text - (k + 1)))) ≡ 1 + rest =
    cond-true (goes_on t text k) (1 + rest) 0 on in
    let all : prefix_len (goes_on t text) (range_with_len k (length text - k)) ≡ 1 + rest =
    ap (λ n. prefix_len (goes_on t text) (range_with_len k n)) size ∙ first in
    omega (arith, all)

-- else there
pub end-here : (t : ℕ) (text : List ℕ) (k : ℕ) → goes_on t text k ≡ false → k ≡ letter_end t text k
unfolding letter_end
end-here t text k off = by-size (length text - k)
  where
    by-size : (n : ℕ) → k ≡ k + prefix_len (goes_on t text) (range_with_len k n)
    by-size zero = omega arith
    by-size (suc n) =
        let none : prefix_len (goes_on t text) (range_with_len k (suc n)) ≡ 0 =
        cond-false (goes_on t text k) (1 + prefix_len (goes_on t text) (range_with_len (k + 1) n)) 0 off in
        omega (arith, none)

-- ---- letters, by their columns

-- a later place begins at no earlier column
pub whole-up : (t : ℕ) (text : List ℕ) (a b : ℕ) → a ≤ b → whole_column t text a ≤ whole_column t text b
whole-up t text a b up = let e : a + (b - a) ≡ b = omega (arith, up) in subst (λ n. whole_column t text a ≤ whole_column t text n) e (from (b - a))
  where
    from : (d : ℕ) → whole_column t text a ≤ whole_column t text (a + d)
    from zero = let z : a + 0 ≡ a = omega arith in let same = ap (whole_column t text) z in omega (arith, same)
    from (suc d) =
        let z : a + suc d ≡ a + d + 1 = omega arith in
        let same = ap (whole_column t text) z in
        let more = whole_column-more t text (a + d) in
        omega (arith, same, more, from d)

-- a place of the text that ends where it begins goes on
goes-flat : (t : ℕ) (text : List ℕ) (k : ℕ) → k < length text → whole_column t text (k + 1) ≡ whole_column t text k → goes_on t text k ≡ true
unfolding goes_on
goes-flat t text k below flat =
    let more = whole_column-more t text k in
    both-true _ _ (lt-ltb k (length text) below) (eq-eqb (whole_width t text k) 0 (omega (arith, more, flat)))

-- one that ends behind that doesn't
goes-not : (t : ℕ) (text : List ℕ) (k : ℕ) → whole_column t text k < whole_column t text (k + 1) → goes_on t text k ≡ false
unfolding goes_on
goes-not t text k wide =
    let more = whole_column-more t text k in and_right _ _ (ne_eqb (whole_width t text k) 0 (λ none. omega (arith, more, wide, none)))

-- a place that goes on ends where it begins
flat-goes : (t : ℕ) (text : List ℕ) (k : ℕ) → goes_on t text k ≡ true → whole_column t text (k + 1) ≡ whole_column t text k
unfolding goes_on
flat-goes t text k on =
    let none : whole_width t text k ≡ 0 = eqb-true (whole_width t text k) 0 (and_parts (nat_lt k (length text)) (whole_width t text k == 0) on).1 in
    let more = whole_column-more t text k in
    omega (arith, none, more)

-- a letter begins at place a, where the places from there to k end at one column, and the one before it at another
start-found : (t : ℕ) (text : List ℕ) (a k : ℕ) → a ≤ k → k < length text → whole_column t text (a + 1) ≡ whole_column t text (k + 1)
    → (0 < a → whole_column t text a < whole_column t text (a + 1)) → a ≡ letter_start t text k
start-found t text a k up below flat first =
    let e : a + (k - a) ≡ k = omega (arith, up) in
    own ∙ back (k - a) (omega (arith, e, below)) (ap (λ n. whole_column t text (n + 1)) e ∙ sym flat) ∙ ap (letter_start t text) e
  where
    own : a ≡ letter_start t text a
    own = elim (cases_lt 0 a) [
      | inl some ↦ start-here t text a (goes-not t text a (first some))
      | inr none ↦ start-first t text a (omega (arith, none))
    ]

    back : (d : ℕ) → a + d < length text → whole_column t text (a + d + 1) ≡ whole_column t text (a + 1) → letter_start t text a ≡ letter_start t text (a + d)
    back zero within ends = let z : a + 0 ≡ a = omega arith in ap (letter_start t text) (sym z)
    back (suc d) within ends =
        let z : a + suc d ≡ a + d + 1 = omega arith in
        let y : a + d + 1 - 1 ≡ a + d = omega arith in
        let low = whole-up t text (a + 1) (a + d + 1) (omega arith) in
        let high = whole-up t text (a + d + 1) (a + d + 1 + 1) (omega arith) in
        let last = ap (λ n. whole_column t text (n + 1)) (sym z) ∙ ends in
        let on = goes-flat t text (a + d + 1) (omega (arith, within)) (omega (arith, low, high, last)) in
        back d (omega (arith, within)) (omega (arith, low, high, last)) ∙ ap (letter_start t text) (sym y) ∙ start-back t text (a + d + 1) (omega arith) on
        ∙ ap (letter_start t text) (sym z)

-- it begins at the first place that ends behind the column before the one that a place of it begins at
pub start-searched : (t : ℕ) (text : List ℕ) (a k before : ℕ) → goes_on t text k ≡ true → whole_column t text k ≡ before + 1 → a ≤ k
    → ((j : ℕ) → j < a → whole_column t text (j + 1) ≤ before) → (a < k → before < whole_column t text (a + 1)) → a ≡ letter_start t text k
start-searched t text a k before on is up front there =
    let flat = flat-goes t text k on in
    let same : whole_column t text (a + 1) ≡ whole_column t text (k + 1) = elim (cases_lt a k) [
      | inl less ↦ let low = there less in let high = whole-up t text (a + 1) k (omega (arith, less)) in omega (arith, flat, is, low, high)
      | inr last ↦ let e : a ≡ k = omega (arith, up, last) in ap (λ n. whole_column t text (n + 1)) e
    ] in
    start-found t text a k up (goes-within t text k on) same (λ some.
    let e : a - 1 + 1 ≡ a = omega (arith, some) in
    let own = ap (whole_column t text) e in
    let less = front (a - 1) (omega (arith, some)) in
    omega (arith, own, less, same, flat, is))

-- at the first place, if a place of it begins at the first column
pub start-columnless : (t : ℕ) (text : List ℕ) (k : ℕ) → goes_on t text k ≡ true → whole_column t text k ≡ 0 → 0 ≡ letter_start t text k
start-columnless t text k on is =
    let flat = flat-goes t text k on in
    let up = whole-up t text (0 + 1) (k + 1) (omega arith) in
    start-found t text 0 k (omega arith) (goes-within t text k on) (omega (arith, flat, is, up)) (λ some. absurd (omega (arith, some)))

-- the letter ends at the first place that ends behind the column that a place before it begins at
pub end-searched : (t : ℕ) (text : List ℕ) (k b : ℕ) → k ≤ b → b ≤ length text
    → ((j : ℕ) → k ≤ j → j < b → whole_column t text (j + 1) ≤ whole_column t text k)
    → (b < length text → whole_column t text k < whole_column t text (b + 1)) → b ≡ letter_end t text k
end-searched t text k b up within front there =
    let e : k + (b - k) ≡ b = omega (arith, up) in
    own ∙ ap (letter_end t text) (sym e) ∙ on (b - k) (omega (arith, e))
  where
    flat : (j : ℕ) → k ≤ j → j ≤ b → whole_column t text j ≡ whole_column t text k
    flat j low high = elim (cases_lt k j) [
      | inl more ↦
          let e : j - 1 + 1 ≡ j = omega (arith, more) in
          let same = ap (whole_column t text) e in
          let most = front (j - 1) (omega (arith, more)) (omega (arith, more, high)) in
          let least = whole-up t text k j low in
          omega (arith, same, most, least)
      | inr here ↦ let e : j ≡ k = omega (arith, low, here) in ap (whole_column t text) e
    ]

    own : b ≡ letter_end t text b
    own = elim (cases_lt b (length text)) [
      | inl below ↦
          let wide = there below in
          let begins = flat b up (omega arith) in
          end-here t text b (goes-not t text b (omega (arith, wide, begins)))
      | inr past ↦ end-here t text b (sym (goes-on-past t text (length text) b refl past))
    ]

    on : (d : ℕ) → k + d ≤ b → letter_end t text (k + d) ≡ letter_end t text k
    on zero high = let z : k + 0 ≡ k = omega arith in ap (letter_end t text) z
    on (suc d) high =
        let z : k + suc d ≡ k + d + 1 = omega arith in
        let here = flat (k + d) (omega arith) (omega (arith, high)) in
        let next = flat (k + d + 1) (omega arith) (omega (arith, high)) in
        let goes = goes-flat t text (k + d) (omega (arith, high, within)) (omega (arith, here, next)) in
        ap (letter_end t text) z ∙ end-on t text (k + d) goes ∙ on d (omega (arith, high))

-- ---- lists of parts

-- one part more is widened
pub widened-more : (t : ℕ) (text : List ℕ) (n : ℕ) (xs : List Part) (i : ℕ) (d : Part) → i < length xs
    → widened t text n (take i xs) ++ widened_part t text n (get_or xs i d) ∷ [] ≡ widened t text n (take (i + 1) xs)
unfolding widened
widened-more t text n xs i d below =
    sym (ap (map (widened_part t text n)) (take_more xs i d below) ∙ map-append (widened_part t text n) (take i xs) (get_or xs i d ∷ []))

-- one label more is looked at
pub labels-more : (spans all : Bool) (o : ℕ) (xs : List LineLabel) (i : ℕ) (d : LineLabel) → i < length xs
    → parts_of_labels spans all o (take i xs) ++ parts_of_labels spans all o (get_or xs i d ∷ []) ≡ parts_of_labels spans all o (take (i + 1) xs)
labels-more spans all o xs i d below =
    let test : LineLabel → Bool = λ x. all || x.info.has_message in
    sym (ap (parts_of_labels spans all o) (take_more xs i d below)
    ∙ ap (map (label_part spans o)) (filter-append test (take i xs) (get_or xs i d ∷ []))
    ∙ map-append (label_part spans o) (filter test (take i xs)) (filter test (get_or xs i d ∷ [])))

-- its part is pushed
pub labels-pushed : (spans all : Bool) (o : ℕ) (xs : List LineLabel) (i : ℕ) (d : LineLabel) (front old new : List Part) → i < length xs
    → new ≡ old ++ parts_of_labels spans all o (get_or xs i d ∷ []) → old ≡ front ++ parts_of_labels spans all o (take i xs)
    → new ≡ front ++ parts_of_labels spans all o (take (i + 1) xs)
labels-pushed spans all o xs i d front old new below pushed sofar =
    let one = parts_of_labels spans all o (get_or xs i d ∷ []) in
    pushed ∙ ap (λ t. t ++ one) sofar ∙ append_assoc front (parts_of_labels spans all o (take i xs)) one
    ∙ ap (λ t. front ++ t) (labels-more spans all o xs i d below)

-- the labels of two lists
pub labels-append : (spans all : Bool) (o : ℕ) (xs ys : List LineLabel)
    → parts_of_labels spans all o xs ++ parts_of_labels spans all o ys ≡ parts_of_labels spans all o (xs ++ ys)
labels-append spans all o xs ys =
    let test : LineLabel → Bool = λ x. all || x.info.has_message in
    sym (ap (map (label_part spans o)) (filter-append test xs ys) ∙ map-append (label_part spans o) (filter test xs) (filter test ys))

-- all labels are kept by a test that all pass
filter-every : (xs : List LineLabel) → filter (λ x. true || x.info.has_message) xs ≡ xs
filter-every [] = refl
filter-every (x ∷ xs) = λ i. x ∷ filter-every xs i

-- none of them is, where none passes
filter-no : (test : LineLabel → Bool) (xs : List LineLabel) → list_any test xs ≡ false → filter test xs ≡ []
filter-no test [] none = refl
filter-no test (x ∷ xs) none =
    let each = or_parts _ _ none in cond-false (test x) (x ∷ filter test xs) (filter test xs) each.0 ∙ filter-no test xs each.1

-- some are, where one passes
filter-some : (test : LineLabel → Bool) (xs : List LineLabel) → list_any test xs ≡ true → (length (filter test xs) == 0) ≡ false
filter-some test [] some = absurd (true≢false (sym some))
filter-some test (x ∷ xs) some = elim (cases_Bool (test x)) [
  | inl on ↦
      ap (λ ys. length ys == 0) (cond-true (test x) (x ∷ filter test xs) (filter test xs) on)
      ∙ ne_eqb (suc (length (filter test xs))) 0 (λ e. omega (arith, e))
  | inr off ↦
      ap (λ ys. length ys == 0) (cond-false (test x) (x ∷ filter test xs) (filter test xs) off)
      ∙ filter-some test xs (sym (ap (λ b. b || list_any test xs) off) ∙ some)
]

-- the labels that are listed are those that the line is cut round
pub needed-are : (labels : List LineLabel) (any : Bool) → any ≡ list_any (λ (x : LineLabel). x.info.has_message) labels
    → filter (λ (x : LineLabel). not any || x.info.has_message) labels ≡ needed_labels labels
unfolding needed_labels
needed-are labels true some =
    sym (cond-false (length (filter has_text labels) == 0) labels (filter has_text labels) (filter-some has_text labels (sym some)))
  where
    has_text : LineLabel → Bool
    has_text x = x.info.has_message
needed-are labels false none =
    filter-every labels
    ∙ sym (cond-true (length (filter has_text labels) == 0) labels (filter has_text labels) (ap (λ xs. length xs == 0) (filter-no has_text labels (sym none))))
  where
    has_text : LineLabel → Bool
    has_text x = x.info.has_message

-- those of the margin label and of the others
pub needed-listed : (spans any : Bool) (o at : ℕ) (ms ys labels : List LineLabel) (empty first all : List Part) → empty ≡ []
    → first ≡ empty ++ parts_of_labels spans (not any) o ms → at ≡ o → labels ≡ ys → all ≡ first ++ parts_of_labels spans (not any) at labels
    → any ≡ list_any (λ (x : LineLabel). x.info.has_message) (ms ++ ys) → all ≡ map (label_part spans o) (needed_labels (ms ++ ys))
needed-listed spans any o at ms ys labels empty first all none margin same listed rest some =
    rest ∙ (λ i. (margin ∙ ap (λ t. t ++ parts_of_labels spans (not any) o ms) none) i ++ parts_of_labels spans (not any) (same i) (listed i))
    ∙ labels-append spans (not any) o ms ys ∙ ap (map (label_part spans o)) (needed-are (ms ++ ys) any some)

-- ---- how many places more are shown

-- the numbers that fit are the first so many
pub first-that-fail : (test : ℕ → Bool) (a n count : ℕ) → count ≤ n → ((k : ℕ) → k < count → test (a + k) ≡ true)
    → (count ≡ n) ⊎ (test (a + count) ≡ false) → prefix_len test (range_with_len a n) ≡ count
first-that-fail test a zero count few pass stop = omega (arith, few)
first-that-fail test a (suc n) zero few pass stop = elim stop [
  | inl all ↦ absurd (omega (arith, all))
  | inr off ↦ let z : a + 0 ≡ a = omega arith in cond-false (test a) (1 + prefix_len test (range_with_len (a + 1) n)) 0 (sym (ap test z) ∙ off)
]
first-that-fail test a (suc n) (suc count) few pass stop =
    let z : a + 0 ≡ a = omega arith in
    let y : (k : ℕ) → a + 1 + k ≡ a + suc k = λ k. omega arith in
    let rest : prefix_len test (range_with_len (a + 1) n) ≡ count =
    first-that-fail test (a + 1) n count (omega (arith, few)) (λ k less. ap test (y k) ∙ pass (suc k) (omega (arith, less))) (elim stop [
      | inl all ↦ inl (omega (arith, all))
      | inr off ↦ inr (ap test (y count) ∙ off)
    ]) in
    let more : prefix_len test (range_with_len a (suc n)) ≡ 1 + prefix_len test (range_with_len (a + 1) n) =
    cond-true (test a) (1 + prefix_len test (range_with_len (a + 1) n)) 0 (sym (ap test z) ∙ pass 0 (omega arith)) in
    omega (arith, more, rest)

-- ---- what has to be shown

-- what the labels span, if it fits
pub needed-spans : (s : Switches) (o : ℕ) (labels : List LineLabel) (text : List ℕ) (parts : List Part) → parts ≡ needed true o labels
    → fits_with s text parts 0 ≡ true → parts ≡ needed_parts s o labels text
unfolding needed_parts label_part
needed-spans s o labels text parts is fits =
    is ∙ sym (cond-true (fits_with s text (needed true o labels) 0) (needed true o labels) (needed false o labels) (ap (λ ps. fits_with s text ps 0) (sym is) ∙ fits))

-- or else the places alone
pub needed-places : (s : Switches) (o : ℕ) (labels : List LineLabel) (text : List ℕ) (spans parts : List Part) → spans ≡ needed true o labels
    → fits_with s text spans 0 ≡ false → parts ≡ needed false o labels → parts ≡ needed_parts s o labels text
unfolding needed_parts label_part
needed-places s o labels text spans parts is off places =
    places
    ∙ sym (cond-false (fits_with s text (needed true o labels) 0) (needed true o labels) (needed false o labels) (ap (λ ps. fits_with s text ps 0) (sym is) ∙ off))

-- ---- what is seen of a line

-- a text that takes more columns than are asked for is cut
pub too-wide : (s : Switches) (text : List ℕ) (column : ℕ) → 0 < s.width → s.width < column → column ≡ whole_column s.tab_width text (length text)
    → is_too_wide s text ≡ true
unfolding is_too_wide
too-wide s text column some more is = both-true _ _ (lt-ltb 0 s.width some) (lt-ltb s.width _ (omega (arith, more, is)))

-- others are not
pub not-wide : (s : Switches) (text : List ℕ) (column : ℕ) → column ≤ s.width → column ≡ whole_column s.tab_width text (length text)
    → is_too_wide s text ≡ false
unfolding is_too_wide
not-wide s text column few is = and_right _ _ (le-ltb s.width _ (omega (arith, few, is)))

pub unasked : (s : Switches) (text : List ℕ) → s.width ≡ 0 → is_too_wide s text ≡ false
unfolding is_too_wide
unasked s text none = and_left _ _ (le-ltb 0 s.width (omega (arith, none)))

pub whole-listed : (s : Switches) (o : ℕ) (labels : List LineLabel) (text : List ℕ) (parts : List Part) → is_too_wide s text ≡ false → parts ≡ []
    → sights_in parts (length text) ≡ sights_of s o labels text
unfolding sights_of sights_in
whole-listed s o labels text parts off none =
    ap (λ (ps : List Part). sights_in ps (length text)) none ∙ sym (cond-false (is_too_wide s text) _ [] off)

-- ---- the ends of a widened part

pub start-low : (t : ℕ) (text : List ℕ) (k : ℕ) → letter_start t text k ≤ k
unfolding letter_start
start-low t text zero = omega arith
start-low t text (suc k) =
    cond_both (goes_on t text (suc k)) (letter_start t text k) (suc k) (λ n. n ≤ suc k) (λ _. let low = start-low t text k in omega (arith, low)) (λ _. omega arith)

-- a later place is of no earlier letter
pub start-up : (t : ℕ) (text : List ℕ) (a b : ℕ) → a ≤ b → letter_start t text a ≤ letter_start t text b
start-up t text a b up = let e : a + (b - a) ≡ b = omega (arith, up) in subst (λ n. letter_start t text a ≤ letter_start t text n) e (from a (b - a))
  where
    next : (k : ℕ) → letter_start t text k ≤ letter_start t text (k + 1)
    next k = elim (cases_Bool (goes_on t text (k + 1))) [
      | inl on ↦ let z : k + 1 - 1 ≡ k = omega arith in let back = start-back t text (k + 1) (omega arith) on in let same = ap (letter_start t text) z in omega (arith, back, same)
      | inr off ↦ let here = start-here t text (k + 1) off in let low = start-low t text k in omega (arith, here, low)
    ]

    from : (a d : ℕ) → letter_start t text a ≤ letter_start t text (a + d)
    from a zero = let z : a + 0 ≡ a = omega arith in let same = ap (letter_start t text) z in omega (arith, same)
    from a (suc d) =
        let z : a + suc d ≡ a + d + 1 = omega arith in
        let same = ap (letter_start t text) z in
        omega (arith, same, from a d, next (a + d))

pub end-high : (t : ℕ) (text : List ℕ) (k : ℕ) → k ≤ letter_end t text k
unfolding letter_end
end-high t text k = omega arith

-- a part and its two ends
pub widened-is : (t : ℕ) (text : List ℕ) (n : ℕ) (p : Part) (from to start end : ℕ) → from ≡ letter_start t text start → start ≡ p.from - n
    → to ≡ letter_end t text end → end ≡ p.to + n → record { from = from; to = to } ≡ widened_part t text n p
unfolding widened_part
widened-is t text n p from to start end first at last behind i = record {
  from = (first ∙ ap (letter_start t text) at) i;
  to = (last ∙ ap (letter_end t text) behind) i;
}

-- it has a place, as the part has
pub widened-some : (t : ℕ) (text : List ℕ) (n : ℕ) (p wide : Part) → wide ≡ widened_part t text n p → p.from < p.to → wide.from < wide.to
unfolding widened_part
widened-some t text n p wide is some =
    let from = ap (λ (q : Part). q.from) is in
    let to = ap (λ (q : Part). q.to) is in
    let low = start-low t text (p.from - n) in
    let high = end-high t text (p.to + n) in
    omega (arith, from, to, low, high, some)

-- ---- how many more fit

-- one number more passes
pub fits-more : (test : ℕ → Bool) (n : ℕ) → ((k : ℕ) → k < n → test k ≡ true) → test n ≡ true → (k : ℕ) → k < n + 1 → test k ≡ true
fits-more test n before here k less = elim (cases_lt k n) [
  | inl low ↦ before k low
  | inr high ↦ let is : k ≡ n = omega (arith, less, high) in ap test is ∙ here
]

-- the number of places more is one less than that of the numbers that fit
pub context-is : (s : Switches) (text : List ℕ) (parts : List Part) (count len n : ℕ) → length text ≡ len → count ≤ len
    → ((k : ℕ) → k < count → fits_with s text parts k ≡ true) → (count ≡ len) ⊎ (fits_with s text parts count ≡ false) → n ≡ count - 1
    → n ≡ context s text parts
unfolding context
context-is s text parts count len n size few pass stop is =
    let z : (k : ℕ) → 0 + k ≡ k = λ k. omega arith in
    let all : prefix_len (fits_with s text parts) (upto (length text)) ≡ count =
    first-that-fail (fits_with s text parts) 0 (length text) count (omega (arith, few, size)) (λ k less. ap (fits_with s text parts) (z k) ∙ pass k less)
    (elim stop [
      | inl end ↦ inl (omega (arith, end, size))
      | inr off ↦ inr (ap (fits_with s text parts) (z count) ∙ off)
    ]) in
    omega (arith, is, all)
