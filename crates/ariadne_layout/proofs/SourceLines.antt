-- The lines of a source as they are read: their extents, their texts, and how many characters they have.
use Rattle.std.proofs.Common.{◌≡◌, ◌∙◌, ℕ, zero, suc, ◌+◌, ◌<◌, ◌^◌, true, List, [], ◌∷◌, ◌++◌, length, refl, sym, ap, subst, arith, sum_by, Some, None}
use Rattle.std.specs.Prelude.{Option, chars, encode_utf8_all, flat_map, slice_get}
use Rattle.std.specs.Option.{IsSome, IsSomeAnd}
use Rattle.std.specs.Str.{IsUtf8}
use Rattle.std.proofs.Math.Utf8.{scalars}
use Rattle.std.proofs.lemmas.Bool.{and_parts}
use Rattle.std.proofs.lemmas.List.Sums.{sum_by-cons}
use Rattle.std.proofs.lemmas.Option.{slice_get-get_or}
use Rattle.std.proofs.lemmas.Str.{chars-encodes, encodes-chars, length-le-encodes, scalars-chars}
use Rattle.ariadne_base.specs.Lines.{lines_of}
use Rattle.ariadne_base.specs.Locations.{line_text}
use Rattle.ariadne_base.specs.Table.{LineExtent, line_extent, line_table}
use Rattle.ariadne_base.proofs.LineLaws.{lines_joined, lines_length}
use Rattle.ariadne_base.proofs.LocationLemmas.{get_or-line_table}
use Rattle.ariadne_base.proofs.TableLemmas.{length-line_table}
use Rattle.ariadne_picture.specs.Lists.{total}
use Rattle.ariadne_picture.proofs.Lists.Elements.{both-true}

-- the two sums of a list are one
pub total_is : {X : Type 0} (f : X → ℕ) (xs : List X) → total f xs ≡ sum_by f xs
unfolding total
total_is f [] = refl
total_is f (x ∷ xs) = ap (λ n. f x + n) (total_is f xs) ∙ sym (sum_by-cons f x xs)

-- ---- extents

-- the line of a number is in the table
pub line-there : (ls : List (List ℕ)) (n : ℕ) → n < length ls → slice_get (line_table ls) n ≡ Some (line_extent ls n)
line-there ls n h =
    let rows = length-line_table ls in
    slice_get-get_or (line_table ls) n (line_extent ls n) (omega arith) ∙ ap Some (get_or-line_table ls n (line_extent ls n) h)

-- so it is the one that the code reads
pub line-read : (o : Option LineExtent) (ls : List (List ℕ)) (n : ℕ) (e : LineExtent) → o ≡ slice_get (line_table ls) n → o ≡ Some e → n < length ls
    → e ≡ line_extent ls n
line-read o ls n e a b h = let there = line-there ls n h in cc

-- the length of an extent is that of its line
pub len-is : (ls : List (List ℕ)) (n : ℕ) → (line_extent ls n).len ≡ length (line_text ls n)
unfolding line_extent
len-is ls n = refl

-- ---- characters

-- both parts of a text of characters are
scalars-parts : (xs ys : List ℕ) → scalars (xs ++ ys) ≡ true → (scalars xs ≡ true) × (scalars ys ≡ true)
scalars-parts [] ys h = (refl, h)
scalars-parts (x ∷ xs) ys h =
    let both = and_parts _ _ h in let rest = scalars-parts xs ys both.1 in (both-true _ _ both.0 rest.0, rest.1)

-- so is each of many
scalars-part : (ls : List (List ℕ)) (l : ℕ) → scalars (flat_map (λ l. l) ls) ≡ true → scalars (line_text ls l) ≡ true
scalars-part [] l h = refl
scalars-part (x ∷ ls) zero h = (scalars-parts x (flat_map (λ l. l) ls) h).0
scalars-part (x ∷ ls) (suc l) h = scalars-part ls l (scalars-parts x (flat_map (λ l. l) ls) h).1

-- the characters of a text are scalars, and so are those of each line of it
pub lines-scalars : (text : List ℕ) → IsUtf8 text → (l : ℕ) → scalars (line_text (lines_of (chars text)) l) ≡ true
lines-scalars text utf8 l = scalars-part (lines_of (chars text)) l (ap scalars (lines_joined (chars text)) ∙ scalars-chars text utf8)

-- the characters that the bytes of a line spell are those of the line
pub line-chars : (bs cs : List ℕ) → scalars cs ≡ true → bs ≡ encode_utf8_all cs → chars bs ≡ cs
line-chars bs cs h e = ap chars e ∙ chars-encodes cs h

-- a value of which something holds is there
pub some-and : {T : Type 0} (o : Option T) (P : T → Type 0) → IsSomeAnd o P → IsSome o
some-and None P h = absurd h
some-and (Some x) P h = refl

-- and it holds of the value
pub of-some : {T : Type 0} (o : Option T) (P : T → Type 0) (x : T) → IsSomeAnd o P → o ≡ Some x → P x
of-some o P x h e = subst (λ o. IsSomeAnd o P) e h

-- the lines of a text in memory have few characters
pub text-fits : (text : List ℕ) → IsUtf8 text → length text < 2 ^ 63 → total length (lines_of (chars text)) < 2 ^ 63
text-fits text utf8 small =
    let bytes = length-le-encodes (chars text) in
    let spelled = ap length (encodes-chars text utf8) in
    let sum : total length (lines_of (chars text)) ≡ length (chars text) = total_is length (lines_of (chars text)) ∙ lines_length (chars text) in
    omega arith
