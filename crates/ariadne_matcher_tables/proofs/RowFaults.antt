-- What is wrong with a row, and with rows.
use Rattle.std.proofs.Common.{◌≡◌, ◌∙◌, ℕ, ◌+◌, ◌<◌, List, [], ◌∷◌, ◌++◌, map, take, length, get_or, Some, ap, sym, subst, refl, inl}
use Rattle.std.proofs.lemmas.List.{get_or-map, length-map, map_more}
use Rattle.ariadne_matcher_tables.proofs.Zipped.{zip_push}
use Rattle.std.specs.List.{AllZip}
use Rattle.std.specs.Option.{option_map}
use Rattle.std.specs.Prelude.{Result, Ok, Err, IfErr, IsErrAnd}
use Rattle.regex.specs.Strings.{regex_names}
use Rattle.regex.specs.declared.string.regex.Regex.{Regex}
use Rattle.toml.specs.Data.{Data}
use Rattle.toml.specs.View.{view}
use Rattle.toml.specs.declared.value.Value.{Value}
use Rattle.ariadne_matcher_tables.specs.Patterns.{given_row, IsOfGroups, IsOfPattern, IsOfRow, IsOfRows, IsOfSource, IsRowOf}
use Rattle.ariadne_matchers.specs.declared.entry.Often.{Often}
use Rattle.ariadne_matchers.specs.declared.entry.Row.{Row}
use Rattle.ariadne_matcher_tables.specs.declared.refusal.Fault.{Fault}
use Rattle.ariadne_matcher_tables.specs.declared.refusal.Fault.TheVariants as wrong

-- a fault that is handed on is the same
pub handed_on : {T E : Type 0} (P : E → Type 0) (r : Result T E) (e : E) → IsErrAnd r (λ f. f ≡ e) → P e → IfErr r P
handed_on P (Ok x) e h p = tt
handed_on P (Err f) e h p = subst P (sym h) p

-- its pattern's
pub of_pattern : (given : Data) (often : Often) (text : List ℕ) (fault : Fault) → given_row given ≡ Some (often, text)
    → IsOfPattern text fault → IsOfRow given fault
of_pattern given often text (wrong.Memory error) told h = tt
of_pattern given often text (wrong.Pattern said error) told h =
    (ap (option_map (λ row. row.1)) told ∙ ap Some (sym h.0), rw h.0 h.1)
of_pattern given often text _ told h = absurd h

-- its groups'
pub of_groups : (given : Data) (often : Often) (text : List ℕ) (pattern : Regex) (fault : Fault) → given_row given ≡ Some (often, text)
    → IsOfSource text pattern → IsOfGroups (regex_names pattern) fault → IsOfRow given fault
of_groups given often text pattern (wrong.Memory error) told source h = tt
of_groups given often text pattern (wrong.Group name) told source h = (
  pattern,
  ap (option_map (λ row. row.1)) told ∙ ap Some (sym source.source),
  record { source = refl; config = source.config; read = source.read },
  h,
)
of_groups given often text pattern _ told source h = absurd h

-- one of the rows has it
pub of_one : (values : List Value) (i : ℕ) (d : Value) (fault : Fault) → i < length values → d ≡ get_or values i d
    → IsOfRow (view d) fault → IsOfRows (map view values) fault
of_one values i d fault within is h =
    inl (i, view d, simp length-map within, get_or-map view values i d (view d) within ∙ ap view (sym is), h)

-- one row more
pub rows_more : (values : List Value) (i : ℕ) (d : Value) (rows : List Row) (row : Row) → i < length values → d ≡ get_or values i d
    → AllZip IsRowOf (map view (take i values)) rows → IsRowOf (view d) row
    → AllZip IsRowOf (map view (take (i + 1) values)) (rows ++ row ∷ [])
rows_more values i d rows row within is before said =
    let more : map view (take (i + 1) values) ≡ map view (take i values) ++ view d ∷ [] =
    map_more view values i d within ∙ ap (λ v. map view (take i values) ++ view v ∷ []) (sym is) in
    rw more (zip_push IsRowOf (map view (take i values)) rows (view d) row before said)
