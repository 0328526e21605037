-- The sequence that a text begins with, and what its parameters are.
use Rattle.std.proofs.Common.{eq-eqb, option_map, Bor, ◌≡◌, ◌≢◌, ◌∙◌, ℕ, suc, ◌+◌, Bool, true, false, ◌&&◌, eqb, cond, List, [], ◌∷◌, ◌++◌, refl, ap, sym, subst, take, drop, codes, Some, None, unwrap_or, append_assoc, arith}
use Rattle.std.specs.Char.{is_ascii_digit}
use Rattle.std.specs.List.{list_all, prefix_len}
use Rattle.std.proofs.lemmas.Bool.{and_from, and_parts, cond_both, eqb-true, ne_eqb}
use Rattle.std.proofs.lemmas.List.{take-append-drop}
use Rattle.std.specs.Prelude.{MatchOption, Option, option_and_then}
use Rattle.ariadne_outputs.specs.Sequences.{Sequence, behind_charset, behind_letter, ended, is_of_parameters, sequence_in}

-- what ends a sequence
abbrev pub last_of : Sequence → List ℕ
last_of s = cond s.is_paint (codes "m") (codes "K")

-- a text begins with a sequence: it is that, and what stands behind it
pub record IsFirst (text : List ℕ) (s : Sequence) : Type 0 where
  pub whole : text ≡ 91 ∷ (s.parameters ++ last_of s ++ s.behind)
  pub parameters : list_all is_of_parameters s.parameters ≡ true

-- ---- lists

-- the elements in front of the first that fails pass
prefix_passes : (p : ℕ → Bool) (xs : List ℕ) → list_all p (take (prefix_len p xs) xs) ≡ true
prefix_passes p [] = refl
prefix_passes p (x ∷ xs) =
    cond_both (p x) (1 + prefix_len p xs) 0 (λ n. list_all p (take n (x ∷ xs)) ≡ true)
    (λ e. let more : suc (prefix_len p xs) ≡ 1 + prefix_len p xs = omega arith in
    subst (λ n. list_all p (take n (x ∷ xs)) ≡ true) more
    (and_from (p x) (list_all p (take (prefix_len p xs) xs)) e (prefix_passes p xs)))
    (λ e. refl)

-- ---- what ends parameters

-- a sequence that was found is this one
same_found : (s t : Sequence) → Some s ≡ Some t → s ≡ t
same_found s t e = ap (λ o. unwrap_or o s) e

-- what is known of a sequence with these parameters, which a text ends
record IsEnded (parameters text : List ℕ) (s : Sequence) : Type 0 where
  same : s.parameters ≡ parameters
  last : text ≡ last_of s ++ s.behind

ended_last : (parameters behind : List ℕ) (c : ℕ) (s : Sequence) (paint erase : Bool)
    → (paint ≡ true → c ≡ 109) → (erase ≡ true → c ≡ 75)
    → cond paint (Some (record { parameters = parameters; is_paint = true; behind = behind }))
    (cond erase (Some (record { parameters = parameters; is_paint = false; behind = behind })) None)
    ≡ Some s → IsEnded parameters (c ∷ behind) s
ended_last parameters behind c s true erase m k found =
    let e = same_found (record { parameters = parameters; is_paint = true; behind = behind }) s found in
    subst (λ x. IsEnded parameters (c ∷ behind) x) e
    (record { same = refl; last = ap (λ x. x ∷ behind) (m refl) })
ended_last parameters behind c s false true m k found =
    let e = same_found (record { parameters = parameters; is_paint = false; behind = behind }) s found in
    subst (λ x. IsEnded parameters (c ∷ behind) x) e
    (record { same = refl; last = ap (λ x. x ∷ behind) (k refl) })
ended_last parameters behind c s false false m k found = cc

ended_is : (parameters text : List ℕ) (s : Sequence) → ended parameters text ≡ Some s → IsEnded parameters text s
ended_is parameters [] s found = cc
ended_is parameters (c ∷ behind) s found =
    ended_last parameters behind c s (eqb c 109) (eqb c 75 && list_all is_ascii_digit parameters)
    (eqb-true c 109) (λ e. eqb-true c 75 (and_parts (eqb c 75) (list_all is_ascii_digit parameters) e).0) found

-- ---- the first

first_is : (c : ℕ) (text : List ℕ) (s : Sequence) (bracket : Bool) → (bracket ≡ true → c ≡ 91)
    → cond bracket
    (ended (take (prefix_len is_of_parameters text) text) (drop (prefix_len is_of_parameters text) text)) None
    ≡ Some s → IsFirst (c ∷ text) s
first_is c text s false b found = cc
first_is c text s true b found =
    let n = prefix_len is_of_parameters text in
    let e = ended_is (take n text) (drop n text) s found in
    record {
      whole = ap (λ x. x ∷ text) (b refl)
          ∙ ap (λ t. 91 ∷ t) (sym (take-append-drop n text) ∙ ap (λ t. take n text ++ t) e.last
          ∙ ap (λ ps. ps ++ (last_of s ++ s.behind)) (sym e.same)
          ∙ sym (append_assoc s.parameters (last_of s) s.behind));
      parameters = subst (λ ps. list_all is_of_parameters ps ≡ true) (sym e.same) (prefix_passes is_of_parameters text);
    }

pub found_first : (text : List ℕ) (s : Sequence) → sequence_in text ≡ Some s → IsFirst text s
unfolding sequence_in
found_first [] s found = cc
found_first (c ∷ text) s found = first_is c text s (eqb c 91) (eqb-true c 91) found

-- ---- other escapes

-- a text begins with a letter
letter_by : (c letter : ℕ) (text rest : List ℕ) (is : Bool) → (is ≡ true → c ≡ letter) → cond is (Some text) None ≡ Some rest
    → c ∷ text ≡ letter ∷ rest
letter_by c letter text rest true same found =
    ap (λ x. x ∷ text) (same refl) ∙ ap (λ (o : Option (List ℕ)). letter ∷ unwrap_or o text) found
letter_by c letter text rest false same found = cc

letter_first : (letter : ℕ) (text rest : List ℕ) → behind_letter letter text ≡ Some rest → text ≡ letter ∷ rest
letter_first letter [] rest found = cc
letter_first letter (c ∷ text) rest found = letter_by c letter text rest (eqb c letter) (eqb-true c letter) found

-- and with both of `(B`
second_first : (text : List ℕ) (found : Option (List ℕ)) → ((rest : List ℕ) → found ≡ Some rest → text ≡ 40 ∷ rest)
    → (behind : List ℕ) → option_and_then (behind_letter 66) found ≡ Some behind → text ≡ 40 ∷ 66 ∷ behind
second_first text None first behind found = cc
second_first text (Some rest) first behind found = first rest refl ∙ ap (λ t. 40 ∷ t) (letter_first 66 rest behind found)

pub charset_first : (text behind : List ℕ) → behind_charset text ≡ Some behind → text ≡ 40 ∷ 66 ∷ behind
charset_first text behind found = second_first text (behind_letter 40 text) (letter_first 40 text) behind found

-- a text that a letter doesn't begin
pub no_letter : (letter : ℕ) (text : List ℕ) → ((rest : List ℕ) → text ≢ letter ∷ rest) → behind_letter letter text ≡ None
no_letter letter [] none = refl
no_letter letter (c ∷ text) none =
    let b : eqb c letter ≡ false = ne_eqb c letter (λ e. none text (ap (λ x. x ∷ text) e)) in
    rw b refl

-- one that it does
pub some_letter : (letter : ℕ) (text rest : List ℕ) → text ≡ letter ∷ rest → behind_letter letter text ≡ Some rest
some_letter letter text rest is = rw (is, eq-eqb letter letter refl) refl

-- so it is what is left when it was cut off
pub behind_letter_is : (letter : ℕ) (text : List ℕ) (r : Option (Bor (List ℕ)))
    → MatchOption r ((rest : List ℕ) → text ≢ letter ∷ rest) (λ x. text ≡ letter ∷ x.now)
    → option_map (λ x. x.now) r ≡ behind_letter letter text
behind_letter_is letter text None none = sym (no_letter letter text none)
behind_letter_is letter text (Some x) is = sym (some_letter letter text x.now is)

-- ---- none

-- a text that neither letter begins ends none
pub no_end : (parameters text : List ℕ) → ((rest : List ℕ) → text ≢ 109 ∷ rest) → ((rest : List ℕ) → text ≢ 75 ∷ rest)
    → ended parameters text ≡ None
no_end parameters [] paint erase = refl
no_end parameters (c ∷ text) paint erase =
    let m : eqb c 109 ≡ false = ne_eqb c 109 (λ e. paint text (ap (λ x. x ∷ text) e)) in
    let k : eqb c 75 ≡ false = ne_eqb c 75 (λ e. erase text (ap (λ x. x ∷ text) e)) in
    rw (m, k) refl

-- a text that no bracket begins has none
pub no_bracket : (text : List ℕ) → ((rest : List ℕ) → text ≢ 91 ∷ rest) → sequence_in text ≡ None
unfolding sequence_in
no_bracket [] none = refl
no_bracket (c ∷ text) none =
    let b : eqb c 91 ≡ false = ne_eqb c 91 (λ e. none text (ap (λ x. x ∷ text) e)) in
    rw b refl

-- behind a bracket it is what ends the parameters
pub behind_bracket : (text inner : List ℕ) → text ≡ 91 ∷ inner
    → ended (take (prefix_len is_of_parameters inner) inner) (drop (prefix_len is_of_parameters inner) inner)
    ≡ sequence_in text
unfolding sequence_in
behind_bracket text inner e = rw e refl
