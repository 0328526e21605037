-- The names of a table's members, and the only member of one.
use Rattle.std.proofs.Common.{◌≡◌, ◌∙◌, ℕ, zero, suc, List, [], ◌∷◌, map, length, Some, None, Bool, true, false, not, refl, ap, sym, subst, Bor, ◌||◌, is_some, String, Global, string_bytes, arith, inl, inr}
use Rattle.std.proofs.lemmas.Bool.{cases_Bool}
use Rattle.std.proofs.lemmas.List.Folds.{list_all-map}
use Rattle.std.specs.List.{find, list_all, list_any, slice_get, Contains}
use Rattle.std.specs.Str.{bytes_eq}
use Rattle.std.specs.Map.{keys_of}
use Rattle.std.specs.Option.{option_map, unwrap_or}
use Rattle.toml.specs.Data.{as_str, as_table, Data}
use Rattle.toml.specs.View.{members_view, view}
use Rattle.toml.specs.declared.value.Value.{Value}
use Rattle.ariadne_matcher_tables.specs.TableMembers.{is_among, member_names, names_in, HasOnly}
use Rattle.ariadne_matcher_tables.specs.Patterns.{lone_in}

abbrev pub Entry : Type 0
Entry = String Global × Value

pub names_view : (es : List Entry) → names_in (members_view es) ≡ map string_bytes (keys_of es)
names_view [] = refl
names_view (e ∷ es) = ap (λ names. string_bytes e.0 ∷ names) (names_view es)

-- where none is found that is not so, all are
pub none_other : {X : Type 0} (is : X → Bool) (xs : List X) → find (λ x. not (is x)) xs ≡ None → list_all is xs ≡ true
none_other is [] none = refl
none_other is (x ∷ xs) none =
    elim (cases_Bool (is x)) [
      | inl so ↦ rw so (none_other is xs (rw so at none))
      | inr other ↦ let found : Some x ≡ None = rw other at none in absurd cc
    ]

-- one that is found is among them, and is not so
pub other_among : {X : Type 0} (is : X → Bool) (xs : List X) (x : X) → find (λ x. not (is x)) xs ≡ Some x → Contains xs x × (is x ≡ false)
other_among is [] x some = absurd cc
other_among is (y ∷ ys) x some =
    elim (cases_Bool (is y)) [
      | inl so ↦ let (within, other) = other_among is ys x (rw so at some) in
          ((suc within.0, omega (arith, within.1), within.2), other)
      | inr other ↦ let found : Some y ≡ Some x = rw other at some in
          let same : y ≡ x = cc in
          ((zero, omega arith, same), ap is (sym same) ∙ other)
    ]

-- what an item is seen as is among what the items are seen as
pub seen_among : {A B : Type 0} (seen : A → B) (xs : List A) (x : A) → Contains xs x → Contains (map seen xs) (seen x)
seen_among seen [] x h = absurd (omega (arith, h.1))
seen_among seen (y ∷ ys) x (zero, within, same) = (zero, omega arith, ap seen same)
seen_among seen (y ∷ ys) x (suc k, within, same) =
    let (i, lt, is) = seen_among seen ys x (k, omega (arith, within), same) in (suc i, omega (arith, lt), is)

-- ---- the only member

-- there is none where there are others, or none at all
pub lone_other : (es : List Entry) → (length es ≡ 1 → ⊥) → None ≡ lone_in (members_view es)
lone_other [] many = refl
lone_other (e ∷ []) many = absurd (many refl)
lone_other (e ∷ f ∷ es) many = refl

-- it is the first
pub lone_first : (es : List Entry) (e : Entry) → length es ≡ 1 → slice_get es 0 ≡ Some e
    → lone_in (members_view es) ≡ option_map (λ text. (string_bytes e.0, text)) (as_str (view e.1))
lone_first [] e one first = absurd (omega arith)
lone_first (d ∷ []) e one first = let same : d ≡ e = cc in ap (λ d. lone_in (members_view (d ∷ []))) same
lone_first (d ∷ f ∷ es) e one first = absurd (omega arith)

-- ---- the names of a table

module _ (known : List (List ℕ)) (given : Data) (es : List Entry) (is : Some (members_view es) ≡ as_table given) where
  names_are : member_names given ≡ map string_bytes (keys_of es)
  names_are = ap (λ o. unwrap_or (option_map names_in o) []) (sym is) ∙ names_view es

  -- none is unknown
  pub only_known : find (λ k. not (is_among known (string_bytes k))) (keys_of es) ≡ None → HasOnly known given
  only_known none = record {
    is_table = ap is_some (sym is);
    are_known = ap (list_all (is_among known)) names_are ∙ list_all-map (is_among known) string_bytes (keys_of es)
        ∙ none_other (λ k. is_among known (string_bytes k)) (keys_of es) none;
  }

  -- one is unknown
  pub one_unknown : (k : String Global) → find (λ k. not (is_among known (string_bytes k))) (keys_of es) ≡ Some k
      → Contains (member_names given) (string_bytes k) × (is_among known (string_bytes k) ≡ false)
  one_unknown k some =
      let (among, other) = other_among (λ k. is_among known (string_bytes k)) (keys_of es) k some in
      (subst (λ (names : List (List ℕ)). Contains names (string_bytes k)) (sym names_are) (seen_among string_bytes (keys_of es) k among), other)

-- a name is asked behind references
pub among_now : (known : List (Bor (List ℕ))) (name : List ℕ)
    → list_any (λ it. bytes_eq it.now name) known ≡ is_among (map (λ it. it.now) known) name
among_now [] name = refl
among_now (it ∷ known) name = ap (λ b. bytes_eq it.now name || b) (among_now known name)
