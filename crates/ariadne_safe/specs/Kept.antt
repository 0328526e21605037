-- What is shown of a text as it is: characters that no sign stands for.
use Rattle.std.specs.Prelude.{ℕ, ◌≡◌, ◌<◌, ◌≤◌, Bool, true, ◌||◌, List, ◌++◌, chars, take, drop}
use Rattle.std.specs.Prelude.{length, slice_index}
use Rattle.std.specs.Str.{IsCharBoundary}
use Rattle.ariadne_safe.specs.declared.text.TextKind.{TextKind}
use Rattle.ariadne_safe.specs.declared.text.TextKind.TheVariants.{OneRow, Aside, Lines}
use Rattle.ariadne_safe.specs.declared.text.TextKind.TheVariants.{CompilerLines}
use Rattle.ariadne_safe.specs.Visible.{is_between, visible_text}

-- the first n bytes of a text are whole characters, and shown as they are
pub record IsKept (kind : TextKind) (text : List ℕ) (n : ℕ) : Type 0 where
  pub cut : IsCharBoundary text n
  pub shown : visible_text kind (chars text)
      ≡ chars (take n text) ++ visible_text kind (chars (drop n text))

-- the controls of ASCII that stay in a text of this kind wherever they stand, by the first and the
-- last; a blank where none does
abbrev pub first_kept : TextKind → ℕ
first_kept OneRow = 32
first_kept Aside = 10
first_kept Lines = 9
first_kept CompilerLines = 9

abbrev pub last_kept : TextKind → ℕ
last_kept OneRow = 32
last_kept Aside = 10
last_kept Lines = 13
last_kept CompilerLines = 10

-- a byte is printable ASCII, or one of these
unfoldable pub is_plain : ℕ → ℕ → ℕ → Bool
is_plain first last b = is_between 32 126 b || is_between first last b

-- the first n bytes are
pub record IsPlainRun (first last : ℕ) (bytes : List ℕ) (n : ℕ) : Type 0 where
  pub fits : n ≤ length bytes
  pub plain : (k : ℕ) → k < n → is_plain first last (slice_index bytes k) ≡ true
