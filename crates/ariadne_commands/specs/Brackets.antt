-- Balanced texts, and the first offence of a text. A text is its characters, and offsets count them
-- from 0. Nothing here says how an offence is found.
use Rattle.std.specs.Prelude.{ℕ, ◌≡◌, ◌+◌, ◌<◌, ◌≤◌, Bool, false, nat_eq, List, [], ◌∷◌, ◌++◌}
use Rattle.std.specs.Prelude.{length, take, drop, codes, slice_get, Option, Some, None, IsSomeAnd}
use Rattle.std.specs.Prelude.{IsSome}
use Rattle.std.specs.List.{list_any, zip}
use Rattle.std.specs.Map.{lookup}
use Rattle.ariadne_commands.specs.declared.offence.Offence.{Offence}
use Rattle.ariadne_commands.specs.declared.offence.Offence.TheVariants.{Unopened, Mismatched}
use Rattle.ariadne_commands.specs.declared.offence.Offence.TheVariants.{Unclosed}

-- ---- brackets

-- the opening brackets, and beside each the closing one of its kind
abbrev pub openings : List ℕ
openings = codes "([{"

abbrev pub closings : List ℕ
closings = codes ")]}"

-- the bracket that closes an opening one
unfoldable pub closing_of : ℕ → Option ℕ
closing_of c = lookup (nat_eq c) (zip openings closings)

unfoldable pub is_closing : ℕ → Bool
is_closing c = list_any (nat_eq c) closings

-- any other character
pub record IsPlain (c : ℕ) : Type 0 where
  pub opens_none : closing_of c ≡ None
  pub closes_none : is_closing c ≡ false

-- ---- balanced texts, by how they are built

pub data IsBalanced : List ℕ → Type 0 where
  empty : IsBalanced []
  plain : (c : ℕ) → IsPlain c → IsBalanced (c ∷ [])
  enclosed : (opening closing : ℕ) (inside : List ℕ) → closing_of opening ≡ Some closing
      → IsBalanced inside
      → IsBalanced (opening ∷ inside ++ closing ∷ [])
  joined : (first second : List ℕ) → IsBalanced first → IsBalanced second
      → IsBalanced (first ++ second)

-- a text that some balanced text begins with
abbrev pub BeginsBalanced : List ℕ → Type 0
BeginsBalanced text = (rest : List ℕ) × IsBalanced (text ++ rest)

-- each beginning of the text begins a balanced text
abbrev pub AllBegin : List ℕ → Type 0
AllBegin text = (n : ℕ) → BeginsBalanced (take n text)

-- the character at p is the last one of the shortest beginning that begins no balanced text
pub record BreaksAt (text : List ℕ) (p : ℕ) : Type 0 where
  pub within : p < length text
  pub begins_none : ¬ BeginsBalanced (take (p + 1) text)
  pub shortest : (n : ℕ) → n ≤ p → BeginsBalanced (take n text)

-- the character at o is an opening bracket
abbrev pub OpensAt : List ℕ → ℕ → Type 0
OpensAt text o = IsSomeAnd (slice_get text o) (λ c. IsSome (closing_of c))

-- ---- offences

-- the text breaks at p, where nothing is open
pub record IsUnopened (text : List ℕ) (p : ℕ) : Type 0 where
  pub breaks : BreaksAt text p
  pub balanced : IsBalanced (take p text)

-- the text breaks at p, where the bracket at o is the one to be closed
pub record IsMismatched (text : List ℕ) (o p : ℕ) : Type 0 where
  pub breaks : BreaksAt text p
  pub unbalanced : ¬ IsBalanced (take p text)
  pub opens : OpensAt text o
  pub before : o < p
  pub balanced : IsBalanced (drop (o + 1) (take p text))

-- the text breaks nowhere and is not balanced, and the bracket at o is the last one that is open
pub record IsUnclosed (text : List ℕ) (o : ℕ) : Type 0 where
  pub all_begin : AllBegin text
  pub unbalanced : ¬ IsBalanced text
  pub opens : OpensAt text o
  pub balanced : IsBalanced (drop (o + 1) text)

-- the first offence of a text, or none, where it is balanced
abbrev pub IsFirstOffence : List ℕ → Option Offence → Type 0
IsFirstOffence text None = IsBalanced text
IsFirstOffence text (Some (Unopened p)) = IsUnopened text p
IsFirstOffence text (Some (Mismatched o p)) = IsMismatched text o p
IsFirstOffence text (Some (Unclosed o)) = IsUnclosed text o
