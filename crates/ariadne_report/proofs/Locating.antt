-- Where an offset lies: its line, the place in it, and what a look-up of it returns.
use Rattle.std.proofs.Common.{◌≡◌, ℕ, ◌+◌, ◌-◌, ◌<◌, ◌≤◌, List, length, sum_by, sym, ◌∙◌, ap, arith, inl, inr}
use Rattle.std.proofs.lemmas.Bool.{cases_lt}
use Rattle.ariadne_base.specs.Locations.{line_at, column_at, line_offset, line_text}
use Rattle.ariadne_base.specs.Table.{LineExtent, line_extent, location_of}
use Rattle.ariadne_base.proofs.LocationLemmas.{IsLineAt, line_at_is, line_at_only, offset_all, offset_more, offset_up}

-- the line that holds the character of an offset is the line of that offset
pub inside_line : (ls : List (List ℕ)) (n o : ℕ) → n < length ls → line_offset length ls n ≤ o
    → o < line_offset length ls n + length (line_text ls n) → line_at length ls o ≡ n
inside_line ls n o there begins ends =
    line_at_only length ls o n (record {
      there = there;
      begins = begins;
      last = λ k few before. elim (cases_lt n k) [
        | inl less ↦ let more = offset_more length ls n there in let up = offset_up length ls (n + 1) k (omega arith) in absurd (omega arith)
        | inr least ↦ least
      ];
    })

-- an offset of a text lies in its line, or right behind it
pub in_line : (size : List ℕ → ℕ) (ls : List (List ℕ)) (o : ℕ) → 0 < length ls → o ≤ sum_by size ls
    → o ≤ line_offset size ls (line_at size ls o) + size (line_text ls (line_at size ls o))
in_line size ls o some h =
    let n : ℕ = line_at size ls o in
    let at : IsLineAt size ls o n = line_at_is size ls o some in
    let more = offset_more size ls n at.there in
    let few = at.there in
    elim (cases_lt (n + 1) (length ls)) [
      | inl later ↦ elim (cases_lt o (line_offset size ls (n + 1))) [
        | inl before ↦ omega arith
        | inr behind ↦ let up = at.last (n + 1) later behind in absurd (omega arith)
      ]
      | inr last ↦
          let same : n + 1 ≡ length ls = omega arith in
          let all : line_offset size ls (n + 1) ≡ sum_by size ls = ap (line_offset size ls) same ∙ offset_all size ls in
          omega arith
    ]

-- ---- a line that is known

-- where a line begins
pub line_begins : (ls : List (List ℕ)) (r : LineExtent) (n : ℕ) → r ≡ line_extent ls n → r.offset ≡ line_offset length ls n
unfolding line_extent
line_begins ls r n e = ap (λ (x : LineExtent). x.offset) e

-- how many characters it has
pub line_length : (ls : List (List ℕ)) (r : LineExtent) (n : ℕ) → r ≡ line_extent ls n → r.len ≡ length (line_text ls n)
unfolding line_extent
line_length ls r n e = ap (λ (x : LineExtent). x.len) e

-- where the line of an offset is known, its number and the place in it are found without a search
module _ (ls : List (List ℕ)) (r : LineExtent) (n o : ℕ) (there : n < length ls) (is : r ≡ line_extent ls n) (behind : r.offset ≤ o)
    (near : o - r.offset < r.len) where
  -- its number
  pub later_line : n ≡ line_at length ls o
  later_line =
      let begins = line_begins ls r n is in
      let len = line_length ls r n is in
      sym (inside_line ls n o there (omega arith) (omega arith))

  -- the place in it
  pub later_place : o - r.offset ≡ column_at length ls o
  unfolding column_at
  later_place = ap (λ b. o - b) (line_begins ls r n is ∙ ap (line_offset length ls) later_line)

-- ---- what a look-up returns

-- the line of a location
pub place_line : (size : List ℕ → ℕ) (ls : List (List ℕ)) (o : ℕ) (r : LineExtent) (n c : ℕ) → (r, n, c) ≡ location_of size ls o
    → r ≡ line_extent ls (line_at size ls o)
unfolding location_of
place_line size ls o r n c e = ap (λ (p : LineExtent × ℕ × ℕ). p.0) e

-- its number
pub place_number : (size : List ℕ → ℕ) (ls : List (List ℕ)) (o : ℕ) (r : LineExtent) (n c : ℕ) → (r, n, c) ≡ location_of size ls o
    → n ≡ line_at size ls o
unfolding location_of
place_number size ls o r n c e = ap (λ (p : LineExtent × ℕ × ℕ). p.1) e

-- how far behind the start of the line it is
pub place_column : (size : List ℕ → ℕ) (ls : List (List ℕ)) (o : ℕ) (r : LineExtent) (n c : ℕ) → (r, n, c) ≡ location_of size ls o
    → c ≡ column_at size ls o
unfolding location_of
place_column size ls o r n c e = ap (λ (p : LineExtent × ℕ × ℕ). p.2) e

-- the row of a location is that of its number
pub place_row : (size : List ℕ → ℕ) (ls : List (List ℕ)) (o : ℕ) (r : LineExtent) (n c : ℕ) → (r, n, c) ≡ location_of size ls o
    → r ≡ line_extent ls n
place_row size ls o r n c e = place_line size ls o r n c e ∙ ap (line_extent ls) (sym (place_number size ls o r n c e))

-- the line of a location begins no later than the offset
pub place_begins : (ls : List (List ℕ)) (o : ℕ) (r : LineExtent) (n c : ℕ) → n < length ls → (r, n, c) ≡ location_of length ls o → r.offset ≤ o
place_begins ls o r n c there e =
    let at = line_begins ls r (line_at length ls o) (place_line length ls o r n c e) in
    let before = (line_at_is length ls o (omega arith)).begins in
    omega arith
