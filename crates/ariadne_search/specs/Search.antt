-- Where a file is looked for that a tool names: at the name itself, and below each of some folders. A
-- path is its bytes.
use Rattle.std.specs.Prelude.{ℕ, zero, suc, ◌==◌, Bool, not, if◌then◌else◌}
use Rattle.std.specs.Prelude.{List, [], ◌∷◌, ◌++◌, filter, map, slice_index}
use Rattle.std.specs.Prelude.{Option, Some, None, IsSomeAnd, option_and_then, option_map, String, string_bytes, chars}
use Rattle.std.specs.declared.alloc.Global.{Global}
use Rattle.std.specs.List.{list_all}
use Rattle.std.specs.Option.{option_to_list}
use Rattle.std.specs.Path.{path_buf_bytes, path_join, path_parent, slash, PathStartsWith}
use Rattle.ariadne_search.specs.declared.origin.Origin.{Origin}
use Rattle.ariadne_search.specs.declared.search.Search.{Search}

-- texts
abbrev pub texts_of : List (String Global) → List (List ℕ)
texts_of texts = map string_bytes texts

-- ---- folders

-- the folder that a path lies in, if there is a path and it names one
abbrev pub parent_of : Option (List ℕ) → Option (List ℕ)
parent_of path = option_and_then path_parent path

-- the folders above a path: the nearest first, n at most
unfoldable pub above : ℕ → Option (List ℕ) → List (List ℕ)
above zero path = []
above (suc n) path = option_to_list (parent_of path) ++ above n (parent_of path)

-- those that are looked into: the base, those above cargo's manifest, those that make has entered, and those
-- above the folder of the run
abbrev pub folders_of : Search → List (List ℕ)
folders_of search =
    option_to_list (option_map (λ base. base.now) search.base)
    ++ above 64 (option_map (λ manifest. manifest.now) search.manifest) ++ texts_of search.entered.now
    ++ above 64 (option_map (λ outer. outer.now) search.outer)

-- ---- paths

-- a path has no U+FFFD, which stands where the bytes of a name are no UTF-8
abbrev pub is_text : List ℕ → Bool
is_text path = list_all (λ c. not (c == 65533)) (chars path)

-- the paths of a name below folders
abbrev pub joined : List (List ℕ) → List ℕ → List (List ℕ)
joined folders name = filter is_text (map (λ folder. path_join folder name) folders)

-- below those that are looked into, for a name that does not begin with a slash
abbrev pub below : Search → List ℕ → List (List ℕ)
below search name = if slice_index name 0 == slash then [] else joined (folders_of search) name

-- where a file of a name is looked for: at the name itself and below folders, or the other way round, where
-- cargo's manifest lies elsewhere
abbrev pub candidates : Search → List ℕ → List (List ℕ)
candidates search name =
    if search.is_elsewhere then below search name ++ filter is_text (name ∷ [])
    else filter is_text (name ∷ []) ++ below search name

-- a manifest lies elsewhere than below the folder that the program runs in
abbrev pub IsElsewhere : Origin → Option (List ℕ) → Type 0
IsElsewhere origin None = ⊥
IsElsewhere origin (Some manifest) =
    IsSomeAnd origin.here (λ here. ¬ (PathStartsWith manifest (path_buf_bytes here)))

-- the folder that the program runs in counts where no manifest is named
abbrev pub outer_of : Origin → Option (List ℕ) → Option (List ℕ)
outer_of origin None = option_map path_buf_bytes origin.here
outer_of origin (Some manifest) = None
