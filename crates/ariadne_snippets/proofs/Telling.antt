-- What lines of output tell.
use Rattle.std.proofs.Common.{◌≡◌, refl, List, ℕ, Option, None, Some, Result, Ok, Err, IfOk, IfSome, IsSomeAnd, sym, subst}
use Rattle.ariadne_snippets.specs.Ends.{IsEnd}
use Rattle.ariadne_snippets.specs.Snippets.{in_row, EndsBy, HasEnded, RowTells, TellsOf}
use Rattle.ariadne_snippets.specs.declared.quoted.Quoted.{Quoted}
use Rattle.ariadne_snippets.specs.declared.snippet.Snippet.{Snippet}
use Rattle.ariadne_snippets.specs.declared.taken.Taken.{Taken}
use Rattle.ariadne_snippets.specs.declared.taken.Taken.TheVariants.{NotOfSnippet, Nothing, Ranges, Labels, Begun, Fixes, Note, Help, More, At, Elsewhere}
use Rattle.ariadne_snippets.proofs.Endings.{in_by_end, in_further}

-- what a row tells, a line tells that ends in it
pub row_tells : (quoted : Quoted) (row line : List ℕ) (taken : Taken) → IsEnd row line → RowTells quoted row taken
    → TellsOf (Some quoted) line taken
row_tells quoted row line NotOfSnippet end tells = tt
row_tells quoted row line Nothing end tells = tt
row_tells quoted row line (Ranges marks) end tells =
    (tells.0, in_further tells.0 row line tells.1 (in_by_end row line end), tells.2)
row_tells quoted row line (Labels labels) end tells = (row, in_by_end row line end, tells)
row_tells quoted row line (Begun mark start) end tells = absurd tells
row_tells quoted row line (Fixes fixes) end tells = in_row row (in_by_end row line end) tells
row_tells quoted row line (Note text) end tells = absurd tells
row_tells quoted row line (Help text) end tells = absurd tells
row_tells quoted row line (More text) end tells = absurd tells
row_tells quoted row line (At place) end tells = absurd tells
row_tells quoted row line (Elsewhere place) end tells = absurd tells

-- a snippet that has ended may have taken anything
pub ended : (snippet : Snippet) (taken : Taken) → HasEnded snippet → EndsBy snippet taken
ended snippet NotOfSnippet end = end
ended snippet Nothing end = tt
ended snippet (Ranges marks) end = tt
ended snippet (Labels labels) end = tt
ended snippet (Begun mark start) end = tt
ended snippet (Fixes fixes) end = tt
ended snippet (Note text) end = tt
ended snippet (Help text) end = tt
ended snippet (More text) end = tt
ended snippet (At place) end = tt
ended snippet (Elsewhere place) end = tt

-- and one that has taken a line need not have ended
pub not_ended : (snippet : Snippet) (taken : Taken) → (taken ≡ NotOfSnippet → ⊥) → EndsBy snippet taken
not_ended snippet NotOfSnippet is = absurd (is refl)
not_ended snippet Nothing is = tt
not_ended snippet (Ranges marks) is = tt
not_ended snippet (Labels labels) is = tt
not_ended snippet (Begun mark start) is = tt
not_ended snippet (Fixes fixes) is = tt
not_ended snippet (Note text) is = tt
not_ended snippet (Help text) is = tt
not_ended snippet (More text) is = tt
not_ended snippet (At place) is = tt
not_ended snippet (Elsewhere place) is = tt

-- what a call gives says more
pub ok_weaker : {X E : Type 0} (P Q : X → Type 0) (r : Result X E) → ((x : X) → P x → Q x) → IfOk r P → IfOk r Q
ok_weaker P Q (Ok x) h is = h x is
ok_weaker P Q (Err e) h is = tt

-- what may be there says more
pub some_weaker : {X : Type 0} (P Q : X → Type 0) (o : Option X) → ((x : X) → P x → Q x) → IfSome o P → IfSome o Q
some_weaker P Q None h is = tt
some_weaker P Q (Some x) h is = h x is

-- what is said of what is there
pub some_and : (P : Quoted → Type 0) (o : Option Quoted) (q : Quoted) → o ≡ Some q → P q → IsSomeAnd o P
some_and P o q e is = let Q : Option Quoted → Type 0 = λ x. IsSomeAnd x P in subst Q (sym e) is
