-- Where the characters of a line begin in a quote, as they are found.
use Rattle.std.proofs.Common.{◌≡◌, ◌≢◌, ◌∙◌, ap, sym, refl, ℕ, ◌+◌, ◌<◌, ◌≤◌, Bool, true, false, eqb, cond, List, [], ◌∷◌, ◌++◌, drop, length, get_or, append_assoc, Option, Some, None, option_map, ne_eqb, eq-eqb}
use Rattle.std.specs.List.{list_all}
use Rattle.std.proofs.lemmas.List.{at_drop_more, at_drop_all, drop-drop}
use Rattle.ariadne_snippets.specs.Quotes.{begins_from, is_white, shown_width, IsBegun}

-- ---- lists that may be there

-- one more in front of what comes behind others
one_behind : (xs : List ℕ) (x : ℕ) (o : Option (List ℕ))
    → option_map (λ ys. (xs ++ x ∷ []) ++ ys) o ≡ option_map (λ ys. xs ++ ys) (option_map (λ ys. x ∷ ys) o)
one_behind xs x None = refl
one_behind xs x (Some ys) = ap (λ (zs : List ℕ). Some zs) (append_assoc xs (x ∷ []) ys)

-- there is none where others have none behind them
none_behind : (xs : List ℕ) (o : Option (List ℕ)) → None ≡ option_map (λ ys. xs ++ ys) o → o ≡ None
none_behind xs None e = refl
none_behind xs (Some ys) e = absurd (cc e)

-- what others have behind them
some_behind : (xs all : List ℕ) (o : Option (List ℕ)) → Some all ≡ option_map (λ ys. xs ++ ys) o
    → (ys : List ℕ) × (o ≡ Some ys) × (all ≡ xs ++ ys)
some_behind xs all None e = absurd (cc e)
some_behind xs all (Some ys) e = (ys, refl, cc e)

-- ---- the next character

-- how wide it is in a quote, by what is left of both
pub width_is : (c width : ℕ) (line rest quote shown : List ℕ) → line ≡ rest → quote ≡ shown
    → width ≡ shown_width c line quote → width ≡ shown_width c rest shown
width_is c width line rest quote shown e f wide =
    wide ∙ ap (λ xs. shown_width c xs quote) e ∙ ap (λ xs. shown_width c rest xs) f

-- it begins where the quote goes on, and the rest behind what stands for it
begins_at : (at : ℕ) (line quote : List ℕ) (place c width : ℕ) → place < length line
    → c ≡ get_or line place c → width ≡ shown_width c (drop (place + 1) line) (drop at quote)
    → begins_from at (drop place line) (drop at quote)
    ≡ cond (eqb width 0) None
    (option_map (λ begins. at ∷ begins) (begins_from (at + width) (drop (place + 1) line) (drop (at + width) quote)))
unfolding begins_from
begins_at at line quote place c width lt is wide =
    at_drop_more (λ line. begins_from at line (drop at quote)) line place c lt
    ∙ ap (λ x. begins_from at (x ∷ drop (place + 1) line) (drop at quote)) (sym is)
    ∙ ap (λ n. cond (eqb n 0) None (option_map (λ begins. at ∷ begins) (begins_from (at + n) (drop (place + 1) line) (drop n (drop at quote))))) (sym wide)
    ∙ ap (λ rest. cond (eqb width 0) None (option_map (λ begins. at ∷ begins) (begins_from (at + width) (drop (place + 1) line) rest))) (drop-drop width at quote)

module _ (at : ℕ) (line quote : List ℕ) (place c width : ℕ) (lt : place < length line)
    (is : c ≡ get_or line place c) (wide : width ≡ shown_width c (drop (place + 1) line) (drop at quote))
    (xs : List ℕ) (all : Option (List ℕ))
    (so_far : option_map (λ ys. xs ++ ys) (begins_from at (drop place line) (drop at quote)) ≡ all) where
  -- it is pushed, where something stands for it
  pub begins_pushed : (pushed : List ℕ) → width ≢ 0 → pushed ≡ xs ++ at ∷ []
      → option_map (λ ys. pushed ++ ys) (begins_from (at + width) (drop (place + 1) line) (drop (at + width) quote)) ≡ all
  begins_pushed pushed some push =
      let rest = begins_from (at + width) (drop (place + 1) line) (drop (at + width) quote) in
      let shown = begins_at at line quote place c width lt is wide in
      rw push (one_behind xs at rest
      ∙ ap (λ o. option_map (λ ys. xs ++ ys) o)
      (sym (shown ∙ ap (λ b. cond b None (option_map (λ ys. at ∷ ys) rest)) (ne_eqb width 0 some)))
      ∙ so_far)

  -- nothing begins where nothing does
  pub begins_nowhere : width ≡ 0 → all ≡ None
  begins_nowhere none =
      let rest = begins_from (at + width) (drop (place + 1) line) (drop (at + width) quote) in
      let shown = begins_at at line quote place c width lt is wide in
      sym so_far
      ∙ ap (λ o. option_map (λ ys. xs ++ ys) o)
      (shown ∙ ap (λ b. cond b None (option_map (λ ys. at ∷ ys) rest)) (eq-eqb width 0 none))

-- ---- the end

-- the end begins where the quote goes on, if white space is left of that alone
pub ends_at : (at : ℕ) (line quote : List ℕ) (place : ℕ) → length line ≤ place
    → begins_from at (drop place line) (drop at quote)
    ≡ cond (list_all is_white (drop at quote)) (Some (at ∷ [])) None
unfolding begins_from
ends_at at line quote place end = at_drop_all (λ line. begins_from at line (drop at quote)) line place end

-- all is known there
pub begun_by : (is_quote : Bool) (start at : ℕ) (line quote before xs after : List ℕ)
    → after ≡ xs ++ at ∷ []
    → option_map (λ ys. xs ++ ys) (cond is_quote (Some (at ∷ [])) None)
    ≡ option_map (λ ys. before ++ ys) (begins_from start line quote)
    → IsBegun start line quote before after is_quote
begun_by true start at line quote before xs after push e =
    let found = some_behind before (xs ++ at ∷ []) (begins_from start line quote) e in
    (found.0, found.1, push ∙ found.2)
begun_by false start at line quote before xs after push e =
    none_behind before (begins_from start line quote) e

pub none_begun : (start : ℕ) (line quote before : List ℕ)
    → option_map (λ ys. before ++ ys) (begins_from start line quote) ≡ None
    → begins_from start line quote ≡ None
none_begun start line quote before e = none_behind before (begins_from start line quote) (sym e)
