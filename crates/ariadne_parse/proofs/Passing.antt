-- How many characters end in front of a column: what is passed at a character, and at the end.
use Rattle.std.proofs.Common.{◌≡◌, ◌∙◌, ap, sym, ℕ, suc, ◌+◌, ◌<◌, ◌≤◌, ◌&&◌, not, eqb, zero, nat_le, cond, true, List, [], ◌∷◌, drop, take, length, get_or, arith}
use Rattle.std.specs.List.{list_all}
use Rattle.std.proofs.lemmas.Bool.{and_parts}
use Rattle.std.proofs.lemmas.Bool.Decides.{nat_tests}
use Rattle.std.proofs.lemmas.List.{at_drop_more, at_drop_all}
use Rattle.ariadne_parse.specs.Columns.{columns_before, columns_of, passed}
use Rattle.ariadne_parse.specs.declared.unit.Unit.{Unit}

-- a character is passed if it is no line feed, and ends in front of the limit
pub passed_at : (unit : Unit) (limit at : ℕ) (t : List ℕ) (span c width : ℕ)
    → span < length t → c ≡ get_or t span c → width ≡ columns_of unit at c
    → passed unit limit at (drop span t)
    ≡ cond (not (eqb c 10) && nat_le (at + width) limit)
    (suc (passed unit limit (at + width) (drop (span + 1) t))) 0
unfolding passed
passed_at unit limit at t span c width lt is wide =
    at_drop_more (passed unit limit at) t span c lt
    ∙ ap (λ x. passed unit limit at (x ∷ drop (span + 1) t)) (sym is)
    ∙ ap (λ n. cond (not (eqb c 10) && nat_le (at + n) limit) (suc (passed unit limit (at + n) (drop (span + 1) t))) 0) (sym wide)

-- none is passed at the end
pub passed_end : (unit : Unit) (limit at : ℕ) (t : List ℕ) (span : ℕ) → length t ≤ span
    → passed unit limit at (drop span t) ≡ 0
unfolding passed
passed_end unit limit at t span end = at_drop_all (passed unit limit at) t span end

-- columns go up
before_bound : (unit : Unit) (at k : ℕ) (line : List ℕ) → at ≤ columns_before unit at k line
unfolding columns_before
before_bound unit at zero line = omega arith
before_bound unit at (suc k) [] = omega arith
before_bound unit at (suc k) (c ∷ line) =
    let le = before_bound unit (at + columns_of unit at c) k line in omega arith

-- the columns in front of a character pass those in front of it, and not itself
pub lead_back : (unit : Unit) (at : ℕ) (line : List ℕ) (k : ℕ) → k < length line
    → list_all (λ c. not (eqb c 10)) (take k line) ≡ true
    → 0 < columns_of unit (columns_before unit at k line) (get_or line k 0)
    → passed unit (columns_before unit at k line) at line ≡ k
unfolding columns_before passed
lead_back unit at [] k lt all wide = omega arith
lead_back unit at (c ∷ line) zero lt all wide = grind (arith, nat_tests)
lead_back unit at (c ∷ line) (suc k) lt all wide =
    let behind = at + columns_of unit at c in
    let both = and_parts (not (eqb c 10)) (list_all (λ x. not (eqb x 10)) (take k line)) all in
    let le = before_bound unit behind k line in
    let same = lead_back unit behind line k (omega arith) both.1 wide in
    grind (arith, nat_tests)
