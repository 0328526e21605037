-- The entries of a table, one by one, and what is wrong with one.
use Rattle.std.proofs.Common.{◌≡◌, ◌∙◌, ℕ, ◌+◌, ◌<◌, ◌≤◌, false, ◌||◌, List, [], ◌∷◌, ◌++◌, map, length, get_or, take, Some, refl, ap, ap₂, sym, subst, string_bytes, inl}
use Rattle.std.proofs.lemmas.Cmp.{nat_list_eq_equiv}
use Rattle.std.proofs.lemmas.List.{map-append, map_more, take-map, take_all}
use Rattle.std.proofs.lemmas.Option.{slice_get-get_or, slice_get-map}
use Rattle.ariadne_matcher_tables.proofs.Zipped.{zip_push}
use Rattle.std.proofs.lemmas.Map.Keys.{IsDistinct-push}
use Rattle.std.specs.List.{list_any, IsDistinct}
use Rattle.std.specs.Str.{bytes_eq}
use Rattle.toml.specs.Data.{Data}
use Rattle.ariadne_matcher_tables.specs.TableRefusals.{called_by, whole_of, IsOfFault}
use Rattle.ariadne_matcher_tables.specs.MatcherTables.{has_name, AreEach, IsOfEach, IsOfEntry, IsOfEntryAt, IsOfTable, IsOfWhole, IsSecondOf}
use Rattle.ariadne_matcher_tables.specs.TableMembers.{text_at}
use Rattle.ariadne_matchers.specs.declared.entry.Entry.{Entry}
use Rattle.ariadne_matcher_tables.specs.declared.refusal.Fault.{Fault}
use Rattle.ariadne_matcher_tables.specs.declared.refusal.Fault.TheVariants as wrong
use Rattle.ariadne_matcher_tables.specs.declared.refusal.Refusal.{Refusal}
use Rattle.ariadne_matcher_tables.specs.declared.refusal.Refusal.TheVariants as refused
use Rattle.std.specs.Prelude.{◌⊎◌, codes, Option, option_map}

-- a fault that no entry has
pub of_whole : (given : Data) (fault : Fault) → IsOfWhole given fault → IsOfTable given (whole_of fault)
of_whole given (wrong.Memory error) h = inl tt
of_whole given _ h = inl h

-- one of an entry that is called so
pub of_called : (number : ℕ) (given : Data) (name : Option (List ℕ)) (fault : Fault) (it : Refusal) → name ≡ text_at (codes "name") given
    → IsOfFault (called_by number name) fault it → IsOfEntry given fault → IsOfEntryAt number given it
of_called number given name fault (refused.Memory error) same h wrong = tt
of_called number given name fault (refused.Text line what) same h wrong = h
of_called number given name fault (refused.Whole told) same h wrong = h
of_called number given name fault (refused.Entry called told) same h wrong =
    (h.0 ∙ ap (called_by number) same, subst (IsOfEntry given) (sym h.1) wrong)

-- ---- one more

name : Entry → List ℕ
name entry = string_bytes entry.name

-- none has the name, asked the other way round
none_named : (n : List ℕ) (all : List Entry) → list_any (bytes_eq n) (map name all) ≡ has_name all n
unfolding name
none_named n [] = refl
none_named n (entry ∷ all) = ap₂ (λ a b. a || b) (nat_list_eq_equiv.symm n (string_bytes entry.name)) (none_named n all)

module _ {V D : Type 0} (view : V → D) (Is : D → Entry → Type 0) (values : List V) where
  module _ (i : ℕ) (value : V) (all : List Entry) (within : i < length values) (is : value ≡ get_or values i value)
      (front : AreEach Is (map view (take i values)) all) where
    pub entries_more : (entry : Entry) → Is (view value) entry → has_name all (string_bytes entry.name) ≡ false
        → AreEach Is (map view (take (i + 1) values)) (all ++ entry ∷ [])
    unfolding name
    entries_more entry said new =
        let more : map view (take (i + 1) values) ≡ map view (take i values) ++ view value ∷ [] =
        map_more view values i value within ∙ ap (λ v. map view (take i values) ++ view v ∷ []) (sym is) in
        let names : map name (all ++ entry ∷ []) ≡ map name all ++ name entry ∷ [] = map-append name all (entry ∷ []) in
        record {
          are = rw more (zip_push Is (map view (take i values)) all (view value) entry front.are said);
          distinct = rw names (IsDistinct-push nat_list_eq_equiv (map name all) (name entry) front.distinct (none_named (name entry) all ∙ new));
        }

    -- this one is refused
    pub refused_here : (IsWrong : ℕ → D → Refusal → Type 0) (it : Refusal)
        → IsWrong (i + 1) (view value) it ⊎ IsSecondOf Is all (view value) it → IsOfEach Is IsWrong (map view values) it
    refused_here IsWrong it h = record {
      place = i;
      value = view value;
      there = slice_get-map view values i ∙ ap (option_map view) (slice_get-get_or values i value within ∙ ap Some (sym is));
      front = all;
      in_front = subst (λ (front : List D). AreEach Is front all) (sym (take-map view i values)) front;
      wrong = h;
    }

  -- none yet
  pub entries_none : (all : List Entry) → all ≡ [] → AreEach Is (map view (take 0 values)) all
  unfolding IsDistinct
  entries_none all none =
      subst (λ (those : List Entry). AreEach Is (map view (take 0 values)) those) (sym none) (record { are = tt; distinct = tt })

  -- all of them
  pub entries_all : (i : ℕ) (all : List Entry) → length values ≤ i → AreEach Is (map view (take i values)) all → AreEach Is (map view values) all
  entries_all i all past front =
      subst (λ (those : List V). AreEach Is (map view those) all) (take_all i values past) front
