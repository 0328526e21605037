-- Lists of values, and their items.
use Rattle.std.proofs.Common.{◌≡◌, ap, refl, arith}
use Rattle.std.proofs.lemmas.Bool.{ne_eqb}
use Rattle.std.specs.Prelude.{◌<◌, ◌≤◌, ◌==◌, Bool, false, ◌&&◌, ◌||◌, List, [], ◌∷◌, length, Option, None}
use Rattle.std.specs.List.{list_all, list_any}
use Rattle.serde_json.specs.Data.{Data}
use Rattle.serde_json.specs.Find.{as_str}
use Rattle.serde_json.specs.View.{items_view, view}
use Rattle.serde_json.specs.declared.value.Value.{Value}
use Rattle.std.specs.List.{cons_option, filter_map}
use Rattle.ariadne_parse.specs.GccFixes.{change_of, changes_of}
use Rattle.ariadne_parse.specs.Members.{all_items, any_item, has_none}
use Rattle.ariadne_parse.specs.Proposed.{changes_by, Filed}
use Rattle.ariadne_parse.specs.Reports.{color_mixed, has_primary, is_primary, texts_in}
use Rattle.ariadne_parse.specs.ParsedDiagnostics.{is_gcc, is_gcc_list}

-- items pass where their values do
pub all_view : (test : Data → Bool) (values : List Value)
    → all_items test (items_view values) ≡ list_all (λ v. test (view v)) values
all_view test [] = refl
all_view test (v ∷ values) = ap (λ b. test (view v) && b) (all_view test values)

-- one of them does where one of its values does
pub any_view : (test : Data → Bool) (values : List Value)
    → any_item test (items_view values) ≡ list_any (λ v. test (view v)) values
any_view test [] = refl
any_view test (v ∷ values) = ap (λ b. test (view v) || b) (any_view test values)

-- there are no items where there are no values
pub none_view : (values : List Value) → (length values == 0) ≡ has_none (items_view values)
none_view [] = refl
none_view (v ∷ values) = ne_eqb (length (v ∷ values)) 0 (λ some. omega (arith, some))

-- no value is no list of gcc's
pub gcc_none : (values : List Value) → length values ≡ 0 → is_gcc_list (items_view values) ≡ false
gcc_none [] none = refl
gcc_none (v ∷ values) none = absurd (omega arith)

-- one at least is one where each is a diagnostic
pub gcc_some : (values : List Value) → 0 < length values
    → is_gcc_list (items_view values) ≡ list_all (λ v. is_gcc (view v)) values
gcc_some [] some = absurd (omega arith)
gcc_some (v ∷ values) some = ap (λ b. is_gcc (view v) && b) (all_view is_gcc values)

-- what fixes change grows by what the next one does
pub changes_past : (fixes : List Value) → changes_of (items_view fixes) ≡ filter_map (λ v. change_of (view v)) fixes
changes_past [] = refl
changes_past (v ∷ fixes) = ap (λ changes. cons_option (change_of (view v)) changes) (changes_past fixes)

-- the changes that values tell grow by that of the next one
pub changes_by_values : (change : Data → Option Filed) (values : List Value)
    → changes_by change (items_view values) ≡ filter_map (λ v. change (view v)) values
changes_by_values change [] = refl
changes_by_values change (v ∷ values) = ap (λ changes. cons_option (change (view v)) changes) (changes_by_values change values)

-- fewer than three parts make no colour, and neither do more
pub less_than_three : (parts : List Value) → length parts < 3 → color_mixed (items_view parts) ≡ None
less_than_three [] less = refl
less_than_three (r ∷ []) less = refl
less_than_three (r ∷ g ∷ []) less = refl
less_than_three (r ∷ g ∷ b ∷ parts) less = absurd (omega (arith, less))

pub more_than_three : (parts : List Value) → 4 ≤ length parts → color_mixed (items_view parts) ≡ None
more_than_three [] more = absurd (omega (arith, more))
more_than_three (r ∷ []) more = absurd (omega (arith, more))
more_than_three (r ∷ g ∷ []) more = absurd (omega (arith, more))
more_than_three (r ∷ g ∷ b ∷ []) more = absurd (omega (arith, more))
more_than_three (r ∷ g ∷ b ∷ a ∷ parts) more = refl

-- a label is primary where one of its values is
pub primary_view : (labels : List Value) → has_primary (items_view labels) ≡ list_any (λ v. is_primary (view v)) labels
primary_view [] = refl
primary_view (v ∷ labels) = ap (λ b. is_primary (view v) || b) (primary_view labels)

-- the texts of values grow by that of the next one
pub texts_past : (values : List Value) → texts_in (items_view values) ≡ filter_map (λ v. as_str (view v)) values
texts_past [] = refl
texts_past (v ∷ values) = ap (λ texts. cons_option (as_str (view v)) texts) (texts_past values)
