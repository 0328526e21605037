-- Members of a table in TOML, and what they say.
use Rattle.std.specs.Prelude.{ℕ, ◌≡◌, ◌^◌, nat_lt, Bool, true, if◌then◌else◌}
use Rattle.std.specs.Prelude.{List, [], ◌∷◌, ℤ, pos, negsuc}
use Rattle.std.specs.Prelude.{Option, Some, None, is_some, option_and_then, option_map, unwrap_or}
use Rattle.std.specs.List.{list_all, list_any}
use Rattle.std.specs.Str.{bytes_eq}
use Rattle.toml.specs.Data.{as_array, as_integer, as_str, as_table, get, Data, Items, no_items, item, Members, no_members, member}

-- a member that is a text
abbrev pub text_at : List ℕ → Data → Option (List ℕ)
text_at name given = option_and_then as_str (get name given)

-- a member that is a list
abbrev pub list_at : List ℕ → Data → Option Items
list_at name given = option_and_then as_array (get name given)

-- a number that 32 bits have
abbrev pub small : ℤ → Option ℕ
small (pos n) = if nat_lt n (2 ^ 32) then Some n else None
small (negsuc n) = None

abbrev pub number_in : Data → Option ℕ
number_in value = option_and_then small (as_integer value)

-- a member that is one
abbrev pub number_at : List ℕ → Data → Option ℕ
number_at name given = option_and_then number_in (get name given)

-- the texts of a list, if it has nothing else
abbrev pub text_before : Option (List (List ℕ)) → List ℕ → Option (List (List ℕ))
text_before others text = option_map (λ texts. text ∷ texts) others

abbrev pub texts_in : Items → Option (List (List ℕ))
texts_in no_items = Some []
texts_in (item value others) = option_and_then (text_before (texts_in others)) (as_str value)

-- a member that is a list of texts
abbrev pub texts_at : List ℕ → Data → Option (List (List ℕ))
texts_at name given = option_and_then texts_in (list_at name given)

-- ---- the names of members

abbrev pub names_in : Members → List (List ℕ)
names_in no_members = []
names_in (member name value others) = name ∷ names_in others

abbrev pub member_names : Data → List (List ℕ)
member_names given = unwrap_or (option_map names_in (as_table given)) []

-- a name is one of these
abbrev pub is_among : List (List ℕ) → List ℕ → Bool
is_among known name = list_any (λ it. bytes_eq it name) known

-- a value is a table, and has no members but these
pub record HasOnly (known : List (List ℕ)) (given : Data) : Type 0 where
  pub is_table : is_some (as_table given) ≡ true
  pub are_known : list_all (is_among known) (member_names given) ≡ true
