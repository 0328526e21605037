-- The folders that make has entered and not left, as its lines tell it: the innermost first, 64 at most.
use Rattle.std.specs.Prelude.{ℕ, List, ◌∷◌, take, Option, Some, None}
use Rattle.std.specs.Set.{remove_key}
use Rattle.std.specs.Str.{bytes_eq}
use Rattle.ariadne_search.specs.Make.{Going, into, out_of}
use Rattle.ariadne_search.specs.Search.{texts_of}
use Rattle.ariadne_search.specs.declared.folders.Folders.{Folders}

-- the folders that are held
abbrev pub entered_in : Folders → List (List ℕ)
entered_in folders = texts_of folders.entered.items

-- those that are left behind one: the innermost of its name is gone
abbrev pub left_of : List ℕ → List (List ℕ) → List (List ℕ)
left_of folder folders = remove_key (λ entered. bytes_eq entered folder) folders

-- those behind a line that says where make goes, if it says so
abbrev pub followed : Option Going → List (List ℕ) → List (List ℕ)
followed None folders = folders
followed (Some (into folder)) folders = take 64 (folder ∷ folders)
followed (Some (out_of folder)) folders = left_of folder folders
