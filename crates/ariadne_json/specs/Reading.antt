-- The value that a text is: as it stands, or else as it is mended.
use Rattle.std.specs.Prelude.{ℕ, if◌then◌else◌, List, Option, None}
use Rattle.std.specs.Option.{option_or}
use Rattle.std.specs.Str.{is_utf8}
use Rattle.serde_json.specs.Data.{Data}
use Rattle.serde_json.specs.Read.{read}
use Rattle.ariadne_json.specs.Mended.{mended}

-- the value that bytes are, if they are UTF-8
abbrev pub read_bytes : List ℕ → Option Data
read_bytes bytes = if is_utf8 bytes then read bytes else None

-- the value that a text is, or that it is when it is mended
abbrev pub value_in : List ℕ → Option Data
value_in text = option_or (read text) (read_bytes (mended text))
