use Rattle.std.proofs.Common.{◌≡◌, ◌+◌, arith, ap, Bool, true, false, cond, eqb, List, [], ℕ, length, refl, sym, None}
use Rattle.std.specs.List.{after_first, before_first, position_or_len}
use Rattle.std.proofs.lemmas.List.{drop_all}
use Rattle.std.proofs.lemmas.Str.Pattern.{split_once_first}
use Rattle.ariadne_search.specs.Make.{going_in, is_program, move_in}
use Rattle.ariadne_search.proofs.make.moved.Goals as goal

-- nothing stands behind a colon that is not there
nothing : (b : Bool) (rest : List ℕ) → rest ≡ [] → None ≡ cond b (going_in rest) None
nothing true rest none = sym (ap going_in none)
nothing false rest none = refl

no_colon : (line : List ℕ) → position_or_len (λ c. eqb c 58) line ≡ length line → None ≡ move_in line
unfolding move_in
no_colon line none =
    nothing (is_program (before_first (λ c. eqb c 58) line)) (after_first (λ c. eqb c 58) line)
    (drop_all (position_or_len (λ c. eqb c 58) line + 1) line (omega (arith, none)))

pub returns-in_err-program : goal.returns-in_err-program
returns-in_err-program c =
    rw c.from_residual.ensures
    (no_colon c.args.line.now (split_once_first 58 c.args.line.now None c.in_err-program.ensures.cases (omega arith)))
