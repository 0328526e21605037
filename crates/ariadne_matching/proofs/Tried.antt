-- Which entries are tried.
use Rattle.std.proofs.Common.{◌≡◌, ◌≢◌, ◌∙◌, ◌⊎◌, inl, inr, ℕ, Bool, true, false, if◌then◌else◌, List, [], ◌∷◌, Option, Some, None, is_some, Result, Ok, Err, ap, refl, subst, sym, IfSome, OnOk}
use Rattle.std.specs.Borrow.{Bor}
use Rattle.std.specs.List.{slice_get}
use Rattle.std.specs.Option.{option_or}
use Rattle.std.proofs.Math.Seq.{drop-nil}
use Rattle.std.proofs.lemmas.Bool.{eqb-true}
use Rattle.regex.specs.Patterns.{find_str, Re}
use Rattle.ariadne_matchers.specs.MatchedRows.{takes, texts, Pattern, Taking}
use Rattle.ariadne_matchers.specs.Readers.{first_fit, fitting_told, rows_in}
use Rattle.ariadne_matchers.specs.declared.reader.Fitting.{Fitting}
use Rattle.ariadne_matchers.specs.declared.reader.Fitting.TheVariants as fitting
use Rattle.ariadne_matchers.specs.declared.reader.Reader.{Reader}
use Rattle.ariadne_matching.specs.TriedMatchers.{as_own, as_programs, begins_of, begins_with, behind, fits_program, foremost, is_place, program_rows, rows_read, tried}
use Rattle.ariadne_matching.specs.TriedMatchers.{AreKept, IsReached}
use Rattle.ariadne_matching.specs.declared.matchers.EntryAt.{EntryAt}
use Rattle.ariadne_matching.specs.declared.matchers.EntryAt.TheVariants.{Own, Program as Programs}
use Rattle.ariadne_matching.specs.declared.matchers.Matchers.{Matchers}

-- places that are one
pub same_place : (a b : EntryAt) → is_place a b ≡ true → a ≡ b
same_place (Own a) (Own b) is = let same : a ≡ b = eqb-true a b is in ap Own same
same_place (Own a) (Programs b) is = absurd (cc is)
same_place (Programs a) (Own b) is = absurd (cc is)
same_place (Programs a) (Programs b) is = let same : a ≡ b = eqb-true a b is in ap Programs same

-- an own entry that counts comes before the program's
pub own_first : (found : Fitting) (other : Option (EntryAt × Taking)) → (found ≢ fitting.Nothing)
    → option_or (as_own (fitting_told found)) other ≡ as_own (fitting_told found)
own_first fitting.Nothing other not = absurd (not refl)
own_first (fitting.Open number) other not = refl
own_first (fitting.Fits fit) other not = refl

-- where none counts the program's do
pub own_none : (found : Option (ℕ × Taking)) (other : Option (EntryAt × Taking)) → found ≡ None → option_or (as_own found) other ≡ other
own_none found other none = rw none refl

-- none of the program's is tried
pub none_begins : (begins : Re) (rows : List (List Pattern)) (from : ℕ) (is_all : Bool) (lines : List (List ℕ))
    → begins_with begins lines ≡ false → fits_program begins rows from is_all lines ≡ None
none_begins begins rows from is_all lines is = rw is refl

-- they are tried
pub one_begins : (begins : Re) (rows : List (List Pattern)) (from : ℕ) (is_all : Bool) (lines : List (List ℕ))
    → begins_with begins lines ≡ true → fits_program begins rows from is_all lines ≡ first_fit from rows is_all lines
one_begins begins rows from is_all lines is = rw is refl

-- the first line tells whether they are
pub begins_there : (begins : Re) (lines : List (Bor (List ℕ))) (line : Bor (List ℕ)) → slice_get lines 0 ≡ Some line
    → begins_with begins (texts lines) ≡ is_some (find_str begins line.now 0)
begins_there begins [] line is = absurd (cc is)
begins_there begins (first ∷ lines) line is =
    let same : first ≡ line = cc is in ap (λ (it : Bor (List ℕ)). is_some (find_str begins it.now 0)) same

pub begins_nowhere : (begins : Re) (lines : List (Bor (List ℕ))) → slice_get lines 0 ≡ None → begins_with begins (texts lines) ≡ false
begins_nowhere begins [] is = refl
begins_nowhere begins (first ∷ lines) is = absurd (cc is)

-- ---- what stays

or_kept : {A : Type 0} (x y y' : Option A) (one : A) → (y ≡ Some one → y' ≡ Some one) → option_or x y ≡ Some one → option_or x y' ≡ Some one
or_kept None y y' one kept is = kept is
or_kept (Some it) y y' one kept is = is

-- of no entries none counts
none_first : (from : ℕ) (is_all : Bool) (lines : List (List ℕ)) → first_fit from [] is_all lines ≡ None
unfolding first_fit
none_first from is_all lines = rw (drop-nil {A = List Pattern} from) refl

none_either : {A : Type 0} (b : Bool) (x : Option A) → x ≡ None → (if b then x else None) ≡ None
none_either true x none = none
none_either false x none = refl

none_of_none : (begins : Re) (from : ℕ) (is_all : Bool) (lines : List (List ℕ)) → fits_program begins [] from is_all lines ≡ None
none_of_none begins from is_all lines =
    none_either (begins_with begins lines) (first_fit from [] is_all lines) (none_first from is_all lines)

-- one of the program's counts where further ones are read
fits_kept : (begins : Re) (rows rows' : List (List Pattern)) → (rows ≡ []) ⊎ (rows' ≡ rows)
    → (is_all : Bool) (lines : List (List ℕ)) (from : ℕ) (one : EntryAt × Taking)
    → as_programs (fits_program begins rows from is_all lines) ≡ Some one → as_programs (fits_program begins rows' from is_all lines) ≡ Some one
fits_kept begins rows rows' kept is_all lines from one is =
    let told : List (List Pattern) → Type 0 = λ (it : List (List Pattern)). as_programs (fits_program begins it from is_all lines) ≡ Some one in
    elim kept [
      | inl none ↦
          let not : None ≡ Some one = ap as_programs (sym (none_of_none begins from is_all lines)) ∙ subst told none is in
          absurd (cc not)
      | inr same ↦ subst told (sym same) is
    ]

-- one that counts does so while further ones are read
pub tried_kept : (before after : Matchers) → AreKept before after → (from : EntryAt) (is_all : Bool) (lines : List (List ℕ)) (one : EntryAt × Taking)
    → tried before from is_all lines ≡ Some one → tried after from is_all lines ≡ Some one
tried_kept before after kept (Own from) is_all lines one is =
    let own = as_own (first_fit from (rows_in before.own) is_all lines) in
    let theirs : Re → List (List Pattern) → Option (EntryAt × Taking) = λ (begins : Re) (rows : List (List Pattern)). as_programs (fits_program begins rows 0 is_all lines) in
    rw (kept.own, kept.begins)
    (or_kept own (theirs (begins_of before) (program_rows before.program)) (theirs (begins_of before) (program_rows after.program)) one
    (fits_kept (begins_of before) (program_rows before.program) (program_rows after.program) kept.program is_all lines 0 one) is)
tried_kept before after kept (Programs from) is_all lines one is =
    rw kept.begins
    (fits_kept (begins_of before) (program_rows before.program) (program_rows after.program) kept.program is_all lines from one is)

pub reached_kept : {before after : Matchers} (is_all : Bool) (lines : List (List ℕ)) → AreKept before after → {from : EntryAt}
    → IsReached before is_all lines from → IsReached after is_all lines from
reached_kept is_all lines kept foremost = foremost
reached_kept {before} {after} is_all lines kept (behind {from} {place} {caught} reached fits) =
    behind (reached_kept is_all lines kept reached) (tried_kept before after kept from is_all lines (place, takes caught) fits)

-- the program's entries do once they were read
pub read_kept : (held held' : Option Reader) (reader after : Reader) → held' ≡ held → IfSome held' (λ it. reader ≡ it)
    → rows_in after ≡ rows_in reader → (rows_read held ≡ []) ⊎ (rows_in after ≡ rows_read held)
read_kept None held' reader after same taken rows = inl refl
read_kept (Some it) held' reader after same taken rows =
    let is : reader ≡ it = subst (λ (o : Option Reader). IfSome o (λ held. reader ≡ held)) same taken in
    inr (rows ∙ ap rows_in is)

pub on_ok : {T E : Type 0} (r : Result T E) (P : Type 0) → P → OnOk r P
on_ok (Ok x) P is = is
on_ok (Err e) P is = tt
