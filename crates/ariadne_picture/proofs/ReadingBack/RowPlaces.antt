-- Where the rows of a picture stand: each row below a group header is found to be of its group, and the row of a line
-- above it is that of a line of the group.
use Rattle.ariadne_picture.specs.ReadBack.Rows.{Known}
use Rattle.std.proofs.Common.{◌≡◌, ℕ, zero, suc, ◌+◌, ◌-◌, ◌<◌, ◌≤◌, Bool, true, false, cond, List, [], ◌∷◌, length, filter, Some, refl, sym, ap, ◌∙◌, arith}
use Rattle.std.proofs.Common.{inl, inr}
use Rattle.std.specs.Prelude.{slice_get}
use Rattle.std.specs.List.{range_with_len}
use Rattle.std.proofs.lemmas.Bool.{cond_both, cond-true, cond-false, cases_lt, ltb-true, true≢false}
use Rattle.std.proofs.lemmas.List.{length-append}
use Rattle.std.proofs.lemmas.List.Elements.{filter-append}
use Rattle.ariadne_picture.specs.Rows.{Row, group_header, source, rows}
use Rattle.ariadne_picture.specs.Pieces.{Section}
use Rattle.ariadne_picture.specs.ReadBack.Rows.{last_before, is_heading, shows_line, group_of, line_row, has_line}
use Rattle.ariadne_picture.proofs.Lists.Joined.{range_more}
use Rattle.ariadne_picture.proofs.Rows.RowNumbers.{start-first, start-next, row-in-group}
use Rattle.ariadne_picture.proofs.Rows.RowPlacing.{row_list, start_row}
use Rattle.ariadne_picture.proofs.Reading.Pictures.{Picture, RowAt, rows_of, number, number-at, start_of, row-there}
use Rattle.ariadne_picture.proofs.Reading.InOrder.{same-place}
use Rattle.ariadne_picture.proofs.OneReading.LinesFound.{section-at}
use Rattle.ariadne_picture.proofs.ReadingBack.RowKinds.{names_heading, names_line, heading-kind, line-kind}

-- ---- the last number that passes

-- it is one that passes, where none behind it does
pub last-is : (test : ℕ → Bool) (n m : ℕ) → m < n → test m ≡ true → ((k : ℕ) → m < k → k < n → test k ≡ false) → last_before test n ≡ m
unfolding last_before
last-is test zero m low at none = absurd (omega arith)
last-is test (suc n) m low at none = elim (cases_lt m n) [
  | inl less ↦
      cond-false (test n) n (last_before test n) (none n less (omega arith))
      ∙ last-is test n m less at (λ k a b. none k a (omega arith))
  | inr least ↦ let same : n ≡ m = omega arith in cond-true (test n) n (last_before test n) (ap test same ∙ at) ∙ same
]

-- and where there is one, it passes
pub last-found : (test : ℕ → Bool) (n : ℕ) → 0 < last_before test n → (last_before test n < n) × (test (last_before test n) ≡ true)
unfolding last_before
last-found test zero h = absurd (omega arith)
last-found test (suc n) h =
    cond_both (test n) n (last_before test n) (λ m. 0 < m → (m < suc n) × (test m ≡ true)) (λ on _. (omega arith, on))
    (λ off some. let rest = last-found test n some in let less = rest.0 in (omega arith, rest.1)) h

-- ---- how many of the numbers from 1 on pass

abbrev passed : (ℕ → Bool) → ℕ → ℕ
passed test m = length (filter test (range_with_len 1 m))

one-passed : (b : Bool) (x : ℕ) → length (cond b (x ∷ []) []) ≡ cond b 1 0
one-passed true x = refl
one-passed false x = refl

passed-more : (test : ℕ → Bool) (m : ℕ) → passed test (m + 1) ≡ passed test m + cond (test (1 + m)) 1 0
passed-more test m =
    ap (λ xs. length (filter test xs)) (range_more 1 m)
    ∙ ap length (filter-append test (range_with_len 1 m) ((1 + m) ∷ []))
    ∙ length-append (filter test (range_with_len 1 m)) _
    ∙ ap (λ n. passed test m + n) (one-passed (test (1 + m)) (1 + m))

passed-stays : (test : ℕ → Bool) (m n : ℕ) → ((j : ℕ) → j < n → test (1 + m + j) ≡ false) → passed test (m + n) ≡ passed test m
passed-stays test m zero none = let z : m + 0 ≡ m = omega arith in ap (passed test) z
passed-stays test m (suc n) none =
    let z : m + suc n ≡ m + n + 1 = omega arith in
    let a : ℕ = 1 + m + n in
    let b : ℕ = 1 + (m + n) in
    let y : a ≡ b = omega arith in
    let off : test (1 + (m + n)) ≡ false = ap test (sym y) ∙ none n (omega arith) in
    let more = passed-more test (m + n) in
    let rest = passed-stays test m n (λ j less. none j (omega arith)) in
    let c : ℕ = cond (test (1 + (m + n))) 1 0 in
    let last : c ≡ 0 = cond-false (test (1 + (m + n))) 1 0 off in
    ap (passed test) z ∙ omega (arith, more, rest, last)

-- ---- the rows of a group

-- a name that shows a line is that of a source row
source-named : (x : Row) → names_line x ≡ true → (l : ℕ) × (x ≡ source l)
source-named (source l) h = (l, refl)
source-named x h = absurd (true≢false (sym h))

module _ (v : Picture) (sources : List Known) where
  abbrev pub heading : ℕ → Bool
  heading = is_heading (rows_of v) sources v.texts.switches

  abbrev shows : ℕ → Bool
  shows = shows_line (rows_of v) sources v.texts.switches

  -- its first row is its header
  pub header-row : (g : ℕ) (s : Section) → slice_get v.sections g ≡ Some s → RowAt v g s 0 group_header
  unfolding row_list rows
  header-row g s e = record { group = e; name = refl }

  pub header-at : (g : ℕ) (s : Section) → slice_get v.sections g ≡ Some s → heading (start_of v g) ≡ true
  header-at g s e =
      let is = header-row g s e in
      let n = number-at v is in
      let z : number v g s group_header ≡ start_of v g = omega (arith, n) in
      ap heading (sym z) ∙ heading-kind v sources is

  -- and no other
  later-row : {g : ℕ} {s : Section} {k : ℕ} (x : Row) → RowAt v g s k x → 0 < k → names_heading x ≡ false
  later-row {g} {s} {k} group_header is some =
      let same = same-place v is (header-row g s is.group) in absurd (omega (arith, same))
  later-row x is some = refl

  pub later-at : (g : ℕ) (s : Section) (n : ℕ) → slice_get v.sections g ≡ Some s → start_of v g < n → n < start_of v (suc g) → heading n ≡ false
  later-at g s n e low high =
      let row = row-there v g n s e (omega arith) high in
      let at = number-at v row.2 in
      let is = row.3 in
      ap heading (sym is) ∙ heading-kind v sources row.2 ∙ later-row row.1 row.2 (omega (arith, at, is))

  pub from-one : (g : ℕ) → 1 ≤ start_of v g
  unfolding start_row
  from-one g = omega arith

  -- above a group stand as many headers as groups
  headers-above : (g : ℕ) → g ≤ length v.sections → passed heading (start_of v g - 1) ≡ g
  headers-above zero few =
      let first = start-first v.texts v.sections in
      let z : start_of v 0 - 1 ≡ 0 = omega (arith, first) in
      ap (passed heading) z
  headers-above (suc g) few =
      let found = section-at v.sections g (omega arith) in
      let s = found.0 in
      let e = found.1 in
      let m : ℕ = start_of v g - 1 in
      let low = from-one g in
      let next = start-next v.texts v.sections g s e in
      let above = headers-above g (omega arith) in
      let own : heading (1 + m) ≡ true = let z : 1 + m ≡ start_of v g = omega (arith, low) in ap heading z ∙ header-at g s e in
      let more = passed-more heading m in
      let c : ℕ = cond (heading (1 + m)) 1 0 in
      let one : c ≡ 1 = cond-true (heading (1 + m)) 1 0 own in
      let up = row-in-group v.texts v.sections g s 0 group_header (header-row g s e) in
      let here = number-at v (header-row g s e) in
      let wide = up.1 in
      let rest = passed-stays heading (m + 1) (start_of v (suc g) - start_of v g - 1)
      (λ j less. later-at g s (1 + (m + 1) + j) e (omega (arith, low)) (omega (arith, low, less))) in
      let z : start_of v (suc g) - 1 ≡ m + 1 + (start_of v (suc g) - start_of v g - 1) = omega (arith, wide, here, low) in
      ap (passed heading) z ∙ omega (arith, rest, more, one, above)

  module _ {g : ℕ} {s : Section} {k : ℕ} {x : Row} (is : RowAt v g s k x) (some : 0 < k) where
    -- so the group of a row is found
    pub group-is : group_of (rows_of v) sources v.texts.switches (number v g s x) ≡ g
    unfolding group_of
    group-is =
        let n = number-at v is in
        let low = from-one g in
        let here = row-in-group v.texts v.sections g s k x is in
        let high = here.1 in
        let few = Rattle.std.proofs.lemmas.Option.slice_get_within v.sections g s is.group in
        let m : ℕ = start_of v g - 1 in
        let above = headers-above g (omega (arith, few)) in
        let own : heading (1 + m) ≡ true = let z : 1 + m ≡ start_of v g = omega (arith, low) in ap heading z ∙ header-at g s is.group in
        let more = passed-more heading m in
        let c : ℕ = cond (heading (1 + m)) 1 0 in
        let one : c ≡ 1 = cond-true (heading (1 + m)) 1 0 own in
        let rest = passed-stays heading (m + 1) (k - 1)
        (λ j less. later-at g s (1 + (m + 1) + j) is.group (omega (arith, low)) (omega (arith, n, high, low, less))) in
        let z : number v g s x - 1 ≡ m + 1 + (k - 1) = omega (arith, n, low) in
        let all : passed heading (number v g s x - 1) ≡ g + 1 = ap (passed heading) z ∙ omega (arith, rest, more, one, above) in
        omega (arith, all)

    -- the last header above it is that of its group
    pub header-is : last_before heading (number v g s x) ≡ start_of v g
    header-is =
        let n = number-at v is in
        let here = row-in-group v.texts v.sections g s k x is in
        let high = here.1 in
        last-is heading (number v g s x) (start_of v g) (omega (arith, n)) (header-at g s is.group)
        (λ j low less. later-at g s j is.group low (omega (arith, high)))

    -- where a line of the group stands above, the row that is found is one's source row
    pub line-found : has_line (rows_of v) sources v.texts.switches (number v g s x) ≡ true
        → (l : ℕ) × (j : ℕ) × RowAt v g s j (source l) × (line_row (rows_of v) sources v.texts.switches (number v g s x) ≡ number v g s (source l))
    unfolding has_line line_row
    line-found h =
        let n = number v g s x in
        let less = ltb-true (last_before heading n) (last_before shows (suc n)) h in
        let top = header-is in
        let low = from-one g in
        let found = last-found shows (suc n) (omega (arith, less)) in
        let bound = found.0 in
        let here = row-in-group v.texts v.sections g s k x is in
        let high = here.1 in
        let row = row-there v g (last_before shows (suc n)) s is.group (omega (arith, less, top)) (omega (arith, bound, high)) in
        let line = source-named row.1 (sym (line-kind v sources row.2) ∙ ap shows row.3 ∙ found.1) in
        let at = row.3 in
        (line.0, row.0, Rattle.std.proofs.Common.subst (RowAt v g s row.0) line.1 row.2, sym at ∙ ap (number v g s) line.1)
