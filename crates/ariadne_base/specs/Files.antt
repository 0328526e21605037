-- What a cache of files shows. It holds sources under paths; a path is found by its text, whichever
-- type the id that asks for it has.
use Rattle.std.specs.Prelude.{ℕ, List, map, Option, Some, None, String, string_bytes, codes}
use Rattle.std.specs.Borrow.{Bor}
use Rattle.std.specs.declared.alloc.Global.{Global}
use Rattle.std.specs.declared.io.Error.{Error}
use Rattle.ariadne_base.specs.Listing.{Listing}
use Rattle.ariadne_base.specs.declared.cache.file.FileError.{FileError}
use Rattle.ariadne_base.specs.declared.cache.file.FileError.TheVariants.{Read, NotUtf8}

-- the sources under the bytes of their paths
abbrev pub by_path : List (String Global × Listing) → List (List ℕ × Listing)
by_path sources = map (λ e. (string_bytes e.0, e.1)) sources

-- the sources under their paths as lent texts
abbrev pub by_text : List (String Global × Listing) → List (Bor (List ℕ) × Listing)
by_text sources = map (λ e. (record { ref_ptr = (0, 0); now = string_bytes e.0 }, e.1)) sources

-- what is printed of an error
abbrev pub file_error_text : FileError → List ℕ
file_error_text (Read _) = codes "file can't be read"
file_error_text NotUtf8 = codes "file isn't UTF-8"

-- the fault that the system returned, where it is one of reading
abbrev pub file_fault : FileError → Option Error
file_fault (Read fault) = Some fault
file_fault NotUtf8 = None
