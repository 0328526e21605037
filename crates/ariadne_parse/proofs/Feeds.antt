-- Line feeds at the end of a text.
use Rattle.std.proofs.Common.{◌≡◌, ◌∙◌, ap, refl, sym, arith, ne_eqb}
use Rattle.std.proofs.Math.Nat.{sub-zero}
use Rattle.std.proofs.lemmas.List.{drop_all, length-append, reverse-append, reverse-reverse, take-append-drop, take-append-le, take_all}
use Rattle.std.proofs.lemmas.Str.{encode_ascii, len_utf8_ascii}
use Rattle.std.proofs.lemmas.Str.Pattern.{drop_at_char}
use Rattle.std.specs.Prelude.{ℕ, ◌+◌, ◌-◌, ◌≢◌, ◌==◌, List, [], ◌∷◌, ◌++◌, drop, length, reverse, take, Option, Some, None}
use Rattle.std.specs.Prelude.{IfSome}
use Rattle.std.specs.List.{prefix_len, suffix_len}
use Rattle.std.specs.Str.Pattern.{CutsSuffixes, FindsCharSuffix, IsTrimEndMatches}
use Rattle.ariadne_parse.specs.Suggested.{before_feeds}

-- how many there are
abbrev feeds : List ℕ → ℕ
feeds text = suffix_len (λ c. c == 10) text

-- one more is one more
one_more : (text : List ℕ) → feeds (text ++ 10 ∷ []) ≡ 1 + feeds text
one_more text = ap (prefix_len (λ c. c == 10)) (reverse-append text (10 ∷ []))

past_one : (text : List ℕ) → before_feeds (text ++ 10 ∷ []) ≡ before_feeds text
past_one text =
    let size : length (text ++ 10 ∷ []) - feeds (text ++ 10 ∷ []) ≡ length text - feeds text =
    omega (arith, length-append text (10 ∷ []), one_more text) in
    ap (λ n. take n (text ++ 10 ∷ [])) size ∙ take-append-le (length text - feeds text) text (10 ∷ []) (omega arith)

-- none is none
none_first : (text : List ℕ) → ((rest : List ℕ) → text ≢ 10 ∷ rest) → prefix_len (λ c. c == 10) text ≡ 0
none_first [] absent = refl
none_first (c ∷ text) absent = rw (ne_eqb c 10 (λ e. absent text (ap (λ x. x ∷ text) e))) refl

past_none : (text : List ℕ) → ((front : List ℕ) → text ≢ front ++ 10 ∷ []) → before_feeds text ≡ text
past_none text absent =
    let none : feeds text ≡ 0 =
    none_first (reverse text)
    (λ rest e. absent (reverse rest) (sym (reverse-reverse text) ∙ ap reverse e ∙ reverse-append (10 ∷ []) rest)) in
    ap (λ n. take (length text - n) text) none ∙ ap (λ n. take n text) (sub-zero (length text)) ∙ take_all (length text) text (omega arith)

-- as many as there are come off
cut : (ns : List ℕ) (text rest : List ℕ) → CutsSuffixes (FindsCharSuffix 10) text ns rest → before_feeds text ≡ before_feeds rest
cut [] text rest is = ap before_feeds (sym is)
cut (n ∷ ns) text rest h =
    let more : List ℕ = h.0 in
    let last : drop (length more - n) more ≡ 10 ∷ drop (length more) more =
    drop_at_char 10 more (length more - n) (length more) h.2.1 (omega arith) in
    let whole : more ≡ rest ++ 10 ∷ [] =
    sym (take-append-drop (length more - n) more)
    ∙ ap (λ (xs : List ℕ). take (length more - n) more ++ xs) (last ∙ ap (λ (xs : List ℕ). 10 ∷ xs) (drop_all (length more) more (omega arith)))
    ∙ ap (λ (xs : List ℕ). xs ++ 10 ∷ []) (sym h.3) in
    cut ns text more h.1 ∙ ap before_feeds whole ∙ past_one rest

left : (text : List ℕ) (o : Option ℕ) → FindsCharSuffix 10 text o → IfSome o (λ n. n ≡ 0) → before_feeds text ≡ text
left text None finds none =
    past_none text
    (λ front e. finds front (e ∙ ap (λ (xs : List ℕ). front ++ xs) (sym (encode_ascii 10 (omega arith)))))
left text (Some n) finds none = absurd (omega (arith, finds.0, none, len_utf8_ascii 10 (omega arith)))

-- `trim_end_matches` at a line feed
pub feeds_are : (text rest : List ℕ) → IsTrimEndMatches (FindsCharSuffix 10) text rest → rest ≡ before_feeds text
feeds_are text rest h = sym (cut h.0.0 text rest h.0.1 ∙ left rest h.1.0 h.1.1 h.1.2)
