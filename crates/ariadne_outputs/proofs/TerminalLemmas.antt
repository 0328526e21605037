-- What a terminal does with text, and with sequences that are kept.
use Rattle.std.proofs.Common.{◌≡◌, ◌∙◌, ℕ, Bool, true, false, not, ◌&&◌, ◌||◌, eqb, List, [], ◌∷◌, ◌++◌, map, refl, ap, sym, subst, codes, Some, append_assoc, append-nil, length, arith, ◌<◌}
use Rattle.std.specs.Char.{is_ascii_digit}
use Rattle.std.specs.List.{fold, list_all, onto_first}
use Rattle.std.specs.Str.Parse.{digits_value_after}
use Rattle.std.proofs.lemmas.Bool.{and_parts, and_from, both_ways, cond-false, cond-true, cond_both, eqb-true}
use Rattle.std.proofs.lemmas.List.Splits.{length-slice_split}
use Rattle.std.proofs.lemmas.List.Sums.{fold-append}
use Rattle.ariadne_safe.specs.Visible.{is_hidden}
use Rattle.ariadne_outputs.specs.Passing.{line_code}
use Rattle.ariadne_outputs.specs.Sequences.{are_kept, awaited_behind, is_of_parameters, is_reset, number_in, parts_of}
use Rattle.ariadne_outputs.specs.Terminal.{Terminal, reads_text, reads_parameters, look_behind, plain, step}
use Rattle.ariadne_outputs.specs.declared.sequence.Awaited.TheVariants.{Attribute}
use Rattle.ariadne_outputs.proofs.Codes.{code_clear, is_clear, no_escape, obeys_none}

-- it reads text, and has obeyed nothing else than what its look tells
abbrev pub at_rest : List ℕ → Terminal
at_rest look = record { reading = reads_text; look = look; is_misused = false }

-- it reads a sequence
abbrev in_sequence : List ℕ → List ℕ → Terminal
in_sequence parameters look =
    record { reading = reads_parameters parameters; look = look; is_misused = false }

-- ---- text

-- a character that hides nothing is shown, and does nothing else
step_clear : (look : List ℕ) (c : ℕ) → is_clear c ≡ true → step (at_rest look) c ≡ at_rest look
step_clear look c clear =
    cond-false (eqb c 27) _ _ (no_escape c clear)
    ∙ cond-false (is_hidden c && not (eqb c 9)) _ _ (obeys_none (is_hidden c) (eqb c 9) clear)

-- so is what stands for text
pub text_behind : (look t : List ℕ) → fold step (at_rest look) (map line_code t) ≡ at_rest look
text_behind look [] = refl
text_behind look (c ∷ t) =
    ap (λ terminal. fold step terminal (map line_code t)) (step_clear look (line_code c) (code_clear c))
    ∙ text_behind look t

-- ---- a sequence that is kept

-- parameters are read
parameters_behind : (look before ps : List ℕ) → list_all is_of_parameters ps ≡ true
    → fold step (in_sequence before look) ps ≡ in_sequence (before ++ ps) look
parameters_behind look before [] all = ap (λ ps. in_sequence ps look) (sym (append-nil before))
parameters_behind look before (c ∷ ps) all =
    let both = and_parts (is_of_parameters c) (list_all is_of_parameters ps) all in
    ap (λ terminal. fold step terminal ps) (cond-true (is_of_parameters c) _ _ both.0)
    ∙ parameters_behind look (before ++ c ∷ []) ps both.1
    ∙ ap (λ qs. in_sequence qs look) (append_assoc before (c ∷ []) ps)

-- and obeyed
end_behind : (look ps : List ℕ) → are_kept ps ≡ true
    → step (in_sequence ps look) 109 ≡ at_rest (look_behind Attribute (parts_of ps) look)
end_behind look ps kept = cond-true (are_kept ps) _ _ kept

pub kept_behind : (look ps : List ℕ) → list_all is_of_parameters ps ≡ true → are_kept ps ≡ true
    → fold step (at_rest look) (27 ∷ 91 ∷ ps ++ codes "m") ≡ at_rest (look_behind Attribute (parts_of ps) look)
kept_behind look ps all kept =
    fold-append step (in_sequence [] look) ps (codes "m")
    ∙ ap (λ terminal. step terminal 109) (parameters_behind look [] ps all)
    ∙ end_behind look ps kept

-- ---- resets

-- zeros alone
abbrev are_zeros : List ℕ → Bool
are_zeros part = list_all (λ c. eqb c 48) part

-- they are digits, and their number is 0
zeros_digits : (part : List ℕ) → are_zeros part ≡ true → list_all is_ascii_digit part ≡ true
zeros_digits [] all = refl
zeros_digits (c ∷ part) all =
    let both = and_parts (eqb c 48) (are_zeros part) all in
    and_from (is_ascii_digit c) (list_all is_ascii_digit part)
    (ap is_ascii_digit (eqb-true c 48 both.0)) (zeros_digits part both.1)

zeros_value : (part : List ℕ) → are_zeros part ≡ true → digits_value_after 10 0 part ≡ 0
zeros_value [] all = refl
zeros_value (c ∷ part) all =
    let both = and_parts (eqb c 48) (are_zeros part) all in
    subst (λ x. digits_value_after 10 0 (x ∷ part) ≡ 0) (sym (eqb-true c 48 both.0)) (zeros_value part both.1)

zeros_number : (part : List ℕ) → are_zeros part ≡ true → number_in part ≡ Some 0
zeros_number part all = rw (zeros_digits part all, zeros_value part all) refl

-- one of two holds, and not the other
left_of : (a b : Bool) → (a || b) ≡ true → b ≡ false → a ≡ true
left_of true b either e = refl
left_of false b either e = absurd (both_ways b e either)

-- the parts of a reset are zeros
abbrev are_all_zeros : List (List ℕ) → Bool
are_all_zeros parts = list_all are_zeros parts

zero_onto_first : (parts : List (List ℕ)) → are_all_zeros parts ≡ true → are_all_zeros (onto_first 48 parts) ≡ true
zero_onto_first [] all = refl
zero_onto_first (part ∷ parts) all = all

reset_parts : (ps : List ℕ) → is_reset ps ≡ true → are_all_zeros (parts_of ps) ≡ true
reset_parts [] all = refl
reset_parts (c ∷ ps) all =
    let both = and_parts (eqb c 48 || eqb c 59) (is_reset ps) all in
    let rest = reset_parts ps both.1 in
    cond_both (eqb c 59) ([] ∷ parts_of ps) (onto_first c (parts_of ps)) (λ parts. are_all_zeros parts ≡ true)
    (λ e. rest)
    (λ e. subst (λ x. are_all_zeros (onto_first x (parts_of ps)) ≡ true)
    (sym (eqb-true c 48 (left_of (eqb c 48) (eqb c 59) both.0 e))) (zero_onto_first (parts_of ps) rest))

-- where zeros come, no look stays
zeros_clear : (parts : List (List ℕ)) → are_all_zeros parts ≡ true → look_behind Attribute parts [] ≡ []
unfolding awaited_behind
zeros_clear [] all = refl
zeros_clear (part ∷ parts) all =
    let both = and_parts (are_zeros part) (are_all_zeros parts) all in
    rw (zeros_number part both.0) (zeros_clear parts both.1)

first_clears : (look part : List ℕ) (parts : List (List ℕ)) → are_all_zeros (part ∷ parts) ≡ true
    → look_behind Attribute (part ∷ parts) look ≡ []
unfolding awaited_behind
first_clears look part parts all =
    let both = and_parts (are_zeros part) (are_all_zeros parts) all in
    rw (zeros_number part both.0) (zeros_clear parts both.1)

-- a text has one part at least
parts_clear : (look : List ℕ) (parts : List (List ℕ)) → 0 < length parts → are_all_zeros parts ≡ true
    → look_behind Attribute parts look ≡ []
parts_clear look [] some all = absurd (omega (arith, some))
parts_clear look (part ∷ parts) some all = first_clears look part parts all

pub reset_clears : (look ps : List ℕ) → is_reset ps ≡ true → look_behind Attribute (parts_of ps) look ≡ []
reset_clears look ps reset =
    parts_clear look (parts_of ps) (omega (arith, length-slice_split (λ c. eqb c 59) ps)) (reset_parts ps reset)

-- the reset that ends a line
pub reset_behind_look : (look : List ℕ) → fold step (at_rest look) (27 ∷ codes "[0m") ≡ plain
unfolding are_kept awaited_behind
reset_behind_look look = refl
