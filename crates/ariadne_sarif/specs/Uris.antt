-- The path of a file that a URI names. Characters stand as their numbers: 47 is a slash.
use Rattle.std.specs.Prelude.{ℕ, ◌==◌, Bool, ◌||◌, if◌then◌else◌, List, [], ◌++◌, codes, length}
use Rattle.std.specs.Prelude.{Option, Some, None, option_map, unwrap_or}
use Rattle.std.specs.Str.{is_utf8}
use Rattle.percent_encoding.specs.Percent.{percent_decode}
use Rattle.ariadne_parse.specs.TextPieces.{begins_with, behind_text, closes_with, contains, split_once}

-- what stands behind a host, which goes up to the first slash
abbrev pub behind_host : List ℕ → Option (List ℕ × List ℕ) → List ℕ
behind_host text None = []
behind_host text (Some parts) = unwrap_or (behind_text parts.0 text) []

abbrev pub from_slash : List ℕ → List ℕ
from_slash text = behind_host text (split_once 47 text)

-- what stands behind the scheme of files, and the host, if there are these
abbrev pub behind_scheme : List ℕ → Option (List ℕ) → List ℕ
behind_scheme uri None = uri
behind_scheme uri (Some rest) = unwrap_or (option_map from_slash (behind_text (codes "//") rest)) rest

abbrev pub local_part : List ℕ → List ℕ
local_part uri = behind_scheme uri (behind_text (codes "file:") uri)

-- a text with the bytes of its escapes `%XX`, if it is one then
abbrev pub decoded : List ℕ → List ℕ
decoded text = if is_utf8 (percent_decode text) then percent_decode text else text

unfoldable pub path_of : List ℕ → List ℕ
path_of uri = decoded (local_part uri)

-- ---- bases

-- a URI is not relative to another
abbrev pub is_rooted : List ℕ → Bool
is_rooted uri = begins_with (codes "/") uri || begins_with (codes "file:") uri || contains (codes "://") uri

-- a base ends in a slash
abbrev pub slash_behind : List ℕ → List ℕ
slash_behind base = if length base == 0 || closes_with (codes "/") base then [] else codes "/"

-- a URI behind its base, where it is relative
unfoldable pub joined : List ℕ → List ℕ → List ℕ
joined base uri = if is_rooted uri then uri else base ++ slash_behind base ++ uri
