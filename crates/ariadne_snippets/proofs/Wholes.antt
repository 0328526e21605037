-- A text that is a line whole quotes it.
use Rattle.std.proofs.Common.{◌≡◌, ◌∙◌, ap, refl, subst, sym, ℕ, ◌+◌, Bool, true, false, eqb, cond, List, [], ◌∷◌, ◌++◌, drop, take, length, arith, min, Option, Some, None, option_map, eq-eqb}
use Rattle.std.specs.Prelude.{chars, is_some}
use Rattle.std.proofs.lemmas.Bool.{eqb-true}
use Rattle.ariadne_snippets.specs.Gutters.{gutter_in, GutterIn}
use Rattle.ariadne_snippets.specs.Snippets.{as_it_is, has_it, ShowsWhole}
use Rattle.ariadne_snippets.specs.Quotes.{begins_from, begins_in, ink_from, lead_begins, lead_length, shown_width, shows_mark, white_length, width_by}

-- each character stands for itself
same_width : (c : ℕ) (line quote : List ℕ) → shown_width c line (c ∷ quote) ≡ 1
unfolding width_by
same_width c line quote = rw (eq-eqb c c refl) refl

-- so each has a place
begins_same : (at : ℕ) (line : List ℕ) → (begins : List ℕ) × (begins_from at line line ≡ Some begins)
unfolding begins_from
begins_same at [] = (at ∷ [], refl)
begins_same at (c ∷ line) =
    let rest = begins_same (at + 1) line in (
      at ∷ rest.0,
      ap
          (λ n.
          cond (eqb n 0) None
          (option_map (λ begins. at ∷ begins) (begins_from (at + n) line (drop n (c ∷ line)))))
          (same_width c line line)
          ∙ ap (λ o. option_map (λ begins. at ∷ begins) o) rest.1,
    )

-- white space in front of it is all that isn't looked for; a byte order mark is shown
lead_by : (b : Bool) (c : ℕ) (line : List ℕ) → eqb c 65279 ≡ b
    → lead_length (c ∷ line) (drop (white_length (c ∷ line)) (c ∷ line)) ≡ white_length (c ∷ line)
unfolding lead_length
lead_by true c line e =
    subst (λ d. lead_length (d ∷ line) (drop (white_length (d ∷ line)) (d ∷ line)) ≡ white_length (d ∷ line))
    (sym (eqb-true c 65279 e)) refl
lead_by false c line e =
    ap
    (λ b.
    cond b (cond (shows_mark (drop (white_length (c ∷ line)) (c ∷ line))) 0 (1 + white_length line))
    (white_length (c ∷ line)))
    e

lead_same : (line : List ℕ) → lead_length line (drop (white_length line) line) ≡ white_length line
unfolding lead_length
lead_same [] = refl
lead_same (c ∷ line) = lead_by (eqb c 65279) c line refl

-- without strokes it begins behind its white space
start_is : (line : List ℕ) → ink_from (min 0 (length line)) line ≡ white_length line
start_is line =
    let none : min 0 (length line) ≡ 0 = omega arith in
    let start : 0 + white_length (drop 0 line) ≡ white_length line = omega arith in
    ap (λ n. n + white_length (drop n line)) none ∙ start

-- and the line is quoted
pub quotes_itself : (line : List ℕ) → is_some (begins_in line line 0) ≡ true
unfolding begins_in
quotes_itself line =
    let w = white_length line in
    let rest = begins_same w (drop w line) in
    ap
    (λ start.
    is_some
    (option_map (λ begins. lead_begins (take (lead_length line (drop start line)) line) start ++ begins)
    (begins_from start (drop (lead_length line (drop start line)) line) (drop start line))))
    (start_is line)
    ∙ ap
    (λ n. is_some (option_map (λ begins. lead_begins (take n line) w ++ begins) (begins_from w (drop n line) (drop w line))))
    (lead_same line)
    ∙ ap (λ o. is_some (option_map (λ begins. lead_begins (take w line) w ++ begins) o)) rest.1

-- so there are places in a quote of it
some_by : {X : Type 0} (f : X → List ℕ) (o : Option X) → is_some o ≡ is_some (option_map f o)
some_by f None = refl
some_by f (Some x) = refl

pub has_places : {X : Type 0} (f : X → List ℕ) (o : Option X) (line quote : List ℕ) (strokes : ℕ)
    → option_map f o ≡ begins_in line quote strokes → strokes ≡ 0 → line ≡ quote → is_some o ≡ true
has_places f o line quote strokes is none same =
    some_by f o ∙ ap is_some is ∙ ap (λ n. is_some (begins_in line quote n)) none
    ∙ ap (λ q. is_some (begins_in line q 0)) (sym same) ∙ quotes_itself line

-- what is there isn't missing
pub not_missing : {X : Type 0} (o : Option X) → is_some o ≡ true → ((x : X) → o ≡ Some x → ⊥) → ⊥
not_missing None is not = absurd (cc is)
not_missing (Some x) is not = not x refl

-- a row that shows a line whole has it behind its gutter, if it has one, or is it
pub shown_behind : (row : List ℕ) (source : Option (List ℕ)) (gutter : GutterIn) → gutter_in row ≡ Some gutter
    → ShowsWhole row source → (is_some gutter.number ≡ true) × (source ≡ Some (chars gutter.text))
shown_behind row source gutter has (as_it_is none from) = absurd (cc (sym has ∙ none))
shown_behind row source gutter has (has_it other is number from) =
    let same : gutter ≡ other = cc (sym has ∙ is) in (
      ap (λ (g : GutterIn). is_some g.number) same ∙ number,
      from ∙ ap (λ (g : GutterIn). Some (chars g.text)) (sym same),
    )

pub shown_plain : (row : List ℕ) (source : Option (List ℕ)) → gutter_in row ≡ None → ShowsWhole row source
    → source ≡ Some (chars row)
shown_plain row source none (as_it_is is from) = from
shown_plain row source none (has_it gutter is number from) = absurd (cc (sym none ∙ is))
