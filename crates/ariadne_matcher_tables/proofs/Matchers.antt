-- Problem matchers of VS Code: their lists, rows and groups.
use Rattle.std.proofs.Common.{◌≡◌, ◌∙◌, ℕ, ◌+◌, ◌<◌, List, [], ◌∷◌, ◌++◌, map, take, length, get_or, Option, Some, None, true, false, cond, refl, ap, sym, subst, Bor, inl, inr}
use Rattle.std.proofs.lemmas.List.{get_or-map, length-map, map_more}
use Rattle.std.specs.List.{AllZip, Any}
use Rattle.std.specs.Option.{option_map, unwrap_or}
use Rattle.serde_json.specs.Data.{Data}
use Rattle.serde_json.specs.Find.{as_array}
use Rattle.serde_json.specs.Errors.{IsMemory}
use Rattle.serde_json.specs.Read.{read as read_text}
use Rattle.serde_json.specs.View.{items_view, view}
use Rattle.serde_json.specs.declared.error.Error.{Error}
use Rattle.serde_json.specs.declared.value.Value.{Value}
use Rattle.ariadne_matcher_tables.proofs.Zipped.{zip_push}
use Rattle.ariadne_matcher_tables.specs.Editors.{list_of, listed, matchers_in, name_at, say_message, whole_last, with_message, with_whole, IsOfEntries, IsOfEntry, IsOfEntryAt, IsOfRow, IsRefusalAt, IsRowAt}
use Rattle.ariadne_matcher_tables.specs.TableRefusals.{called_by, IsOfFault, IsOfJson}
use Rattle.ariadne_matchers.specs.declared.entry.Row.{Row}
use Rattle.ariadne_matcher_tables.specs.declared.refusal.Fault.{Fault}
use Rattle.ariadne_matcher_tables.specs.declared.refusal.Refusal.{Refusal}
use Rattle.ariadne_matcher_tables.specs.declared.refusal.Refusal.TheVariants.{Memory, Text, Whole, Entry}

-- ---- lists

list_view : (values : List Value) → list_of (items_view values) ≡ map view values
list_view [] = refl
list_view (value ∷ values) = ap (λ those. view value ∷ those) (list_view values)

pub listed_list : (value : Data) (values : List Value) → Some (items_view values) ≡ as_array value → map view values ≡ listed value
listed_list value values is = sym (ap (λ o. unwrap_or (option_map list_of o) (value ∷ [])) (sym is) ∙ list_view values)

pub listed_one : (value : Data) → None ≡ as_array value → value ∷ [] ≡ listed value
listed_one value none = ap (λ o. unwrap_or (option_map list_of o) (value ∷ [])) none

-- what stands behind a reference, or another
pub seen_or : (found : Option (Bor Value)) (other : Bor Value) (given : Option Data) → option_map (λ v. view v.now) found ≡ given
    → view (unwrap_or found other).now ≡ unwrap_or given (view other.now)
seen_or None other given is = ap (λ o. unwrap_or o (view other.now)) is
seen_or (Some v) other given is = ap (λ o. unwrap_or o (view other.now)) is

-- ---- rows

pub one_of : (values : List Value) (i : ℕ) (d : Value) (fault : Fault) → i < length values → d ≡ get_or values i d
    → IsOfRow (view d) fault → Any (λ row. IsOfRow row fault) (map view values)
one_of values i d fault within is h =
    (i, view d, simp length-map within, get_or-map view values i d (view d) within ∙ ap view (sym is), h)

pub rows_more : (values : List Value) (i : ℕ) (d : Value) (rows : List Row) (row : Row) → i < length values → d ≡ get_or values i d
    → AllZip IsRowAt (map view (take i values)) rows → IsRowAt (view d) row
    → AllZip IsRowAt (map view (take (i + 1) values)) (rows ++ row ∷ [])
rows_more values i d rows row within is before said =
    let more : map view (take (i + 1) values) ≡ map view (take i values) ++ view d ∷ [] =
    map_more view values i d within ∙ ap (λ v. map view (take i values) ++ view v ∷ []) (sym is) in
    rw more (zip_push IsRowAt (map view (take i values)) rows (view d) row before said)

-- ---- refusals

-- one of the matchers of a text is wrong
pub of_matchers : (text : List ℕ) (value : Data) (it : Refusal) → read_text text ≡ Some value → IsOfEntries (matchers_in value) it → IsRefusalAt text it
of_matchers text value (Memory none) read h = tt
of_matchers text value (Text line what) read h = absurd (elim h.wrong [ inl wrong ↦ wrong | inr second ↦ second.2 ])
of_matchers text value (Whole fault) read h = elim h.wrong [ inl wrong ↦ wrong | inr second ↦ second.2 ]
of_matchers text value (Entry name fault) read h = (value, read, h)

-- a text that its parser refuses
pub no_json : (text : List ℕ) (error : Error) (it : Refusal) → ((IsMemory error → ⊥) → read_text text ≡ None) → IsOfJson error it → IsRefusalAt text it
no_json text error (Memory none) refused h = tt
no_json text error (Text line what) refused h = refused h
no_json text error (Whole fault) refused h = h
no_json text error (Entry name fault) refused h = absurd h

-- one of an entry that is called so
pub of_called : (number : ℕ) (given : Data) (name : Option (List ℕ)) (fault : Fault) (it : Refusal) → name ≡ name_at given
    → IsOfFault (called_by number name) fault it → IsOfEntry given fault → IsOfEntryAt number given it
of_called number given name fault (Memory error) same h wrong = tt
of_called number given name fault (Text line what) same h wrong = h
of_called number given name fault (Whole told) same h wrong = h
of_called number given name fault (Entry called told) same h wrong =
    (h.0 ∙ ap (called_by number) same, subst (IsOfEntry given) (sym h.1) wrong)

-- ---- the message

-- a group is it
pub message_kept : (rows : List Row) → true ≡ say_message rows → rows ≡ with_message rows
message_kept rows said = ap (λ b. cond b rows (whole_last rows)) said

-- none is, and the last row has it
whole_pushed : (front : List Row) (last : Row) → whole_last (front ++ last ∷ []) ≡ front ++ with_whole last ∷ []
whole_pushed [] last = refl
whole_pushed (row ∷ []) last = refl
whole_pushed (row ∷ other ∷ front) last = ap (λ rows. row ∷ rows) (whole_pushed (other ∷ front) last)

pub message_last : (rows front : List Row) (last : Row) → false ≡ say_message rows → rows ≡ front ++ last ∷ []
    → front ++ with_whole last ∷ [] ≡ with_message rows
message_last rows front last silent is =
    sym (whole_pushed front last) ∙ ap whole_last (sym is) ∙ ap (λ b. cond b rows (whole_last rows)) silent
