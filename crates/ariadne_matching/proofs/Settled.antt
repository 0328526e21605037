-- Lines that wait no more.
use Rattle.std.proofs.Common.{◌≡◌, ◌∙◌, ℕ, ◌<◌, List, [], ◌∷◌, ◌++◌, drop, get_or, length, min, take, Some, ap, sym, subst, arith}
use Rattle.std.specs.List.{slice_get}
use Rattle.std.proofs.lemmas.List.{drop_min}
use Rattle.ariadne_matching.specs.SettledLines.{again, handed, more, none, passes, AreSettled, GoesOn, IsHandedFor, StandsFor}
use Rattle.ariadne_matching.specs.declared.lines.Waiting.{Waiting}
use Rattle.ariadne_matching.specs.declared.reading.Report.{Report}

-- lines are settled in turn
pub settled_trans : {w w1 : List Waiting} {r r1 : List ℕ} {w2 : List Waiting} {r2 : List ℕ} → AreSettled w r w1 r1 → AreSettled w1 r1 w2 r2 → AreSettled w r w2 r2
settled_trans first none = first
settled_trans first (more count bytes rest stands) = more count bytes (settled_trans first rest) stands

-- nothing changes
pub settled_none : (w w' : List Waiting) (r r' : List ℕ) → w' ≡ w → r' ≡ r → AreSettled w r w' r'
settled_none w w' r r' same ready = rw (same, ready) none

-- the first ones wait no more
pub settled_some : (w w' : List Waiting) (r r' bytes : List ℕ) (count : ℕ) → StandsFor w count bytes → w' ≡ drop count w → r' ≡ r ++ bytes
    → AreSettled w r w' r'
settled_some w w' r r' bytes count stands rest ready = rw (rest, ready) (more count bytes none stands)

-- the first of them
first_is : {A : Type 0} (xs : List A) (x : A) → 0 < length xs → x ≡ get_or xs 0 x → xs ≡ x ∷ drop 1 xs
first_is [] x some read = absurd (omega arith)
first_is (y ∷ xs) x some read = ap (λ z. z ∷ xs) (sym read)

pub first_same : (w : List Waiting) (line taken : Waiting) → Some line ≡ slice_get w 0 → taken ≡ get_or w 0 taken → line ≡ taken
first_same [] line taken is read = absurd (cc is)
first_same (x ∷ w) line taken is read = let same : line ≡ x = cc is in same ∙ sym read

module _ (w w' : List Waiting) (line : Waiting) (r r' : List ℕ) (some : 0 < length w) (read : line ≡ get_or w 0 line)
    (rest : w' ≡ take 0 w ++ drop 1 w) where
  -- it passes
  pub passed_first : r' ≡ r ++ line.bytes.items → AreSettled w r w' r'
  passed_first ready =
      settled_some w w' r r' line.bytes.items 1
      (subst (λ (lines : List Waiting). StandsFor lines 1 line.bytes.items) (sym (first_is w line some read)) passes) rest ready

  -- a loop goes on with it
  pub again_first : (report : List ℕ) → GoesOn line report → r' ≡ r ++ report → AreSettled w r w' r'
  again_first report is ready =
      settled_some w w' r r' report 1
      (subst (λ (lines : List Waiting). StandsFor lines 1 report) (sym (first_is w line some read)) (again is)) rest ready

-- an entry takes the first ones
pub handed_first : (w w' : List Waiting) (r r' : List ℕ) (report : Report) (at : ℕ) → IsHandedFor w report → w' ≡ drop at w
    → at ≡ min report.count (length w) → r' ≡ r ++ report.bytes.items → AreSettled w r w' r'
handed_first w w' r r' report at told rest is ready =
    settled_some w w' r r' report.bytes.items report.count (handed told)
    (rest ∙ ap (λ (n : ℕ). drop n w) is ∙ drop_min report.count w) ready

-- they are settled further, from the same on
pub settled_then : (w w1 w2 w3 : List Waiting) (r r1 r2 r3 : List ℕ) → AreSettled w r w1 r1 → w2 ≡ w1 → r2 ≡ r1
    → AreSettled w2 r2 w3 r3 → AreSettled w r w3 r3
settled_then w w1 w2 w3 r r1 r2 r3 first same ready next =
    let so_far : AreSettled w r w2 r2 = rw (same, ready) first in
    settled_trans so_far next
