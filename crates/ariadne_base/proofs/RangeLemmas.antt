-- The lines that a span runs across: there is one, and each is there.
use Rattle.std.proofs.Common.{◌≡◌, ℕ, ◌<◌, ◌≤◌, List, length, Some, None, ap, arith, nat_le, sum_by, inl, inr}
use Rattle.std.proofs.lemmas.Bool.{cases_Bool, cases_lt, cond-true, cond-false, leb-true, le-leb}
use Rattle.ariadne_base.specs.Lines.{lines_of}
use Rattle.ariadne_base.specs.Locations.{line_at}
use Rattle.ariadne_base.specs.Ranges.{last_offset, line_number, first_line, line_end}
use Rattle.ariadne_base.specs.Table.{LineExtent, location_of}
use Rattle.ariadne_base.proofs.LineLaws.{lines_length, some_line}
use Rattle.ariadne_base.proofs.LocationLemmas.{line_at_is, line_at_up}

-- exactly the offsets up to the length of a text have a line
pub line_number_some : (t : List ℕ) (o : ℕ) → o ≤ length t → line_number (lines_of t) o ≡ Some (line_at length (lines_of t) o)
unfolding line_number
line_number_some t o h = let n = lines_length t in cond-true _ _ _ (le-leb o (sum_by length (lines_of t)) (omega arith))

-- and no other offset has one
pub line_number_none : (t : List ℕ) (o : ℕ) → (o ≤ length t → ⊥) → line_number (lines_of t) o ≡ None
unfolding line_number
line_number_none t o h = elim (cases_Bool (nat_le o (sum_by length (lines_of t)))) [
  | inl on ↦ let n = lines_length t in let low = leb-true _ _ on in absurd (h (omega arith))
  | inr off ↦ cond-false _ _ _ off
]

-- the number in a location
pub location_number : (size : List ℕ → ℕ) (ls : List (List ℕ)) (o n : ℕ) (r : LineExtent) (k : ℕ) → (r, n, k) ≡ location_of size ls o
    → n ≡ line_at size ls o
unfolding location_of
location_number size ls o n r k e = ap (λ p. p.1) e

-- the start lies in the line of the last offset or before it, if both have lines
pub lines_some : (t : List ℕ) (start stop : ℕ) → first_line (lines_of t) start < line_end (lines_of t) start stop
lines_some t start stop = elim (cases_lt (length t) start) [
  | inl past ↦ rw (line_number_none t start (λ h. omega arith), line_number_none t (last_offset start stop) (λ h. omega arith)) (some_line t)
  | inr low ↦
      let there = (line_at_is length (lines_of t) start (some_line t)).there in
      elim (cases_lt (length t) (last_offset start stop)) [
        | inl past ↦ rw (line_number_some t start low, line_number_none t (last_offset start stop) (λ h. omega arith)) there
        | inr last ↦
            let up = line_at_up length (lines_of t) start (last_offset start stop) (some_line t) (omega arith) in
            rw (line_number_some t start low, line_number_some t (last_offset start stop) last) (omega arith)
      ]
]
