-- The entries that are read of a table: one more of it.
use Rattle.std.proofs.Common.{◌≡◌, ◌∙◌, ℕ, ◌+◌, ◌<◌, Bool, true, false, cond, List, [], ◌∷◌, ◌++◌, get_or, length, map, take, sym, ap, ap₂, append-nil}
use Rattle.std.proofs.lemmas.List.{map-append}
use Rattle.std.proofs.lemmas.List.Elements.{filter_more}
use Rattle.std.specs.List.{filter}
use Rattle.ariadne_matchers.specs.MatchedRows.{entry_in, rows_of, Pattern}
use Rattle.ariadne_matchers.specs.declared.entry.Entry.{Entry}
use Rattle.ariadne_matchers.specs.declared.rows.EntrySearch.{EntrySearch}

abbrev pub searched : EntrySearch → Entry
searched search = search.entry.now

module _ (p : Entry → Bool) (all : List Entry) (i : ℕ) (entry : Entry) (within : i < length all) (read : entry ≡ get_or all i entry) where
  filter_at : filter p (take (i + 1) all) ≡ filter p (take i all) ++ cond (p entry) (entry ∷ []) []
  filter_at =
      filter_more p all i entry within
      ∙ ap (λ (it : Entry). filter p (take i all) ++ cond (p it) (it ∷ []) []) (sym read)

  -- it is read
  pub entry_more : (made : List EntrySearch) (new : EntrySearch) → p entry ≡ true → searched new ≡ entry
      → map searched made ≡ filter p (take i all) → map searched (made ++ new ∷ []) ≡ filter p (take (i + 1) all)
  entry_more made new is same so_far =
      map-append searched made (new ∷ []) ∙ ap₂ (λ (xs : List Entry) (x : Entry). xs ++ x ∷ []) so_far same
      ∙ sym (filter_at ∙ ap (λ (b : Bool). filter p (take i all) ++ cond b (entry ∷ []) []) is)

  -- it isn't
  pub entry_same : (made : List EntrySearch) → p entry ≡ false
      → map searched made ≡ filter p (take i all) → map searched made ≡ filter p (take (i + 1) all)
  entry_same made isnt so_far =
      so_far ∙ sym (filter_at ∙ ap (λ (b : Bool). filter p (take i all) ++ cond b (entry ∷ []) []) isnt ∙ append-nil (filter p (take i all)))

-- what is searched for is its rows
pub rows_more : (made : List EntrySearch) (new : EntrySearch) → rows_of new ≡ entry_in (searched new)
    → map rows_of made ≡ map entry_in (map searched made) → map rows_of (made ++ new ∷ []) ≡ map entry_in (map searched (made ++ new ∷ []))
rows_more made new same so_far =
    map-append rows_of made (new ∷ []) ∙ ap₂ (λ (xs : List (List Pattern)) (x : List Pattern). xs ++ x ∷ []) so_far same
    ∙ sym (ap (map entry_in) (map-append searched made (new ∷ [])) ∙ map-append entry_in (map searched made) (searched new ∷ []))
