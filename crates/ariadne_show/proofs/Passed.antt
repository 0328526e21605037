-- Lines that have passed, and diagnostics that were written.
use Rattle.std.proofs.Common.{◌≡◌, ◌∙◌, ◌+◌, ◌++◌, ◌∷◌, [], ℕ, List, Option, ap, append-nil, append_assoc, subst, sym, take, refl}
use Rattle.std.specs.Prelude.{true, false, Result, Ok, Err, OnOk, Vec}
use Rattle.std.specs.declared.alloc.Global.{Global}
use Rattle.std.specs.Io.KnownBytes.{Appends}
use Rattle.std.proofs.lemmas.Grind.{flat_map-append}
use Rattle.std.proofs.lemmas.List.{map-append}
use Rattle.ariadne_blocks.specs.declared.message.MessageLine.{MessageLine}
use Rattle.ariadne_parse.specs.declared.diagnostic.Diagnostic.{Diagnostic}
use Rattle.ariadne_show.specs.FoundSpans.{files_of}
use Rattle.ariadne_show.specs.WaitingLines.{bytes_in, bytes_of, lines_of, passing_of}
use Rattle.ariadne_show.specs.Limits.{drawn_after, is_drawn, limits_of}
use Rattle.ariadne_show.specs.ReadFiles.{sources_in}
use Rattle.ariadne_show.specs.Sums.{counted}
use Rattle.ariadne_show.specs.Writing.{behind_line, is_document, out_of, passing_bytes, HasPassed, HavePassed}
use Rattle.ariadne_show.specs.Writing.{IsShownOnce, IsWritten, beside_it, counted_alone, counted_and_written, none_passed, one_passed_more}
use Rattle.ariadne_show.specs.Writing.{to_output, Out}
use Rattle.ariadne_show.specs.declared.front.WaitingLine.{WaitingLine}
use Rattle.ariadne_show.specs.declared.limits.DrawnCount.{DrawnCount}
use Rattle.ariadne_show.specs.declared.options.Options.{Options}
use Rattle.ariadne_show.specs.declared.shelf.Shelf.{Shelf}
use Rattle.ariadne_show.specs.declared.sum.Sum.{Sum}
use Rattle.ariadne_show.specs.declared.writing.Shown.{Shown}
use Rattle.ariadne_show.specs.declared.writing.Written.{Written}

-- what was shown, beside what each stream has
abbrev out_with : Shown → Option (List ℕ) → Option (List ℕ) → Out
out_with shown output beside = out_of shown (record { output = output; beside = beside })

-- ---- a line

-- it has passed to the output
pub passed_to_output : (options : Options) (line bytes : List ℕ) (shown : Shown) (written : Written) (o p b : Option (List ℕ))
    → is_document options.output ≡ false → bytes ≡ passing_bytes options line → Appends o p bytes
    → written ≡ behind_line line
    → HasPassed options line (out_with shown o b)
    (out_with (record shown { written = written; is_told_last = false }) p b)
passed_to_output options line bytes shown written o p b text same got behind =
    to_output text (subst (λ (sent : List ℕ). Appends o p sent) same got) refl
    (ap (λ (w : Written). record shown { written = w; is_told_last = false }) behind)

-- it has passed beside a document, after Ok
pub passed_beside_if : {T E : Type 0} (r : Result T E) (options : Options) (line bytes : List ℕ) (shown : Shown)
    (o b c : Option (List ℕ)) → is_document options.output ≡ true → bytes ≡ passing_bytes options line
    → OnOk r (Appends b c bytes)
    → OnOk r (HasPassed options line (out_with shown o b) (out_with (record shown { is_told_last = false }) o c))
passed_beside_if (Ok x) options line bytes shown o b c document same got =
    beside_it document (subst (λ (sent : List ℕ). Appends b c sent) same got) refl refl
passed_beside_if (Err e) options line bytes shown o b c document same got = tt

-- ---- lines, one behind the other

-- those behind others
have_behind : (options : Options) (front : List (List ℕ)) (a : Out) (lines : List (List ℕ)) (b c : Out)
    → HavePassed options lines b c → HavePassed options front a b → HavePassed options (front ++ lines) a c
have_behind options front a lines b c (none_passed {a = x}) first =
    subst (λ (l : List (List ℕ)). HavePassed options l a x) (sym (append-nil front)) first
have_behind options front a lines b c (one_passed_more {lines = so} {a = x} {b = y} {c = z} so_far line now) first =
    subst (λ (l : List (List ℕ)). HavePassed options l a z) (append_assoc front so (line ∷ []))
    (one_passed_more (have_behind options front a so x y so_far first) line now)

-- those of one more that waits
pub waiting_more : (options : Options) (all : List WaitingLine) (i : ℕ) (line : WaitingLine) (lines : List (Vec ℕ Global)) (a b c : Out)
    → take (i + 1) all ≡ take i all ++ line ∷ [] → lines ≡ line.lines.items
    → HavePassed options (passing_of (take i all)) a b → HavePassed options (bytes_in lines) b c
    → HavePassed options (passing_of (take (i + 1) all)) a c
waiting_more options all i line lines a b c more same so_far now =
    subst (λ (l : List (List ℕ)). HavePassed options l a c)
    (sym (ap passing_of more ∙ flat_map-append lines_of (take i all) (line ∷ [])
    ∙ ap (λ l. passing_of (take i all) ++ l) (append-nil (lines_of line))))
    (have_behind options (passing_of (take i all)) a (lines_of line) b c
    (subst (λ (l : List (Vec ℕ Global)). HavePassed options (bytes_in l) b c) same now) so_far)

-- one more of lines
pub lines_more : (options : Options) (all : List (Vec ℕ Global)) (i : ℕ) (line : Vec ℕ Global) (bytes : List ℕ) (a b c : Out)
    → take (i + 1) all ≡ take i all ++ line ∷ [] → bytes ≡ line.items
    → HavePassed options (bytes_in (take i all)) a b → HasPassed options bytes b c
    → HavePassed options (bytes_in (take (i + 1) all)) a c
lines_more options all i line bytes a b c more same so_far now =
    subst (λ (lines : List (List ℕ)). HavePassed options lines a c)
    (sym (ap bytes_in more ∙ map-append (λ (w : Vec ℕ Global). w.items) (take i all) (line ∷ [])))
    (one_passed_more so_far line.items (subst (λ (l : List ℕ). HasPassed options l b c) same now))

-- and of those that turned out to be none of a message
pub behind_more : (options : Options) (all : List MessageLine) (i : ℕ) (line : MessageLine) (bytes : List ℕ) (a b c : Out)
    → take (i + 1) all ≡ take i all ++ line ∷ [] → bytes ≡ line.bytes.items
    → HavePassed options (bytes_of (take i all)) a b → HasPassed options bytes b c
    → HavePassed options (bytes_of (take (i + 1) all)) a c
behind_more options all i line bytes a b c more same so_far now =
    subst (λ (lines : List (List ℕ)). HavePassed options lines a c)
    (sym (ap bytes_of more ∙ map-append (λ (w : MessageLine). w.bytes.items) (take i all) (line ∷ [])))
    (one_passed_more so_far line.bytes.items (subst (λ (l : List ℕ). HasPassed options l b c) same now))

-- ---- a diagnostic

-- it was counted alone
pub counted_only : (options : Options) (shelf : Shelf) (parsed : Diagnostic) (shown : Shown) (sum : Sum) (drawn : DrawnCount)
    (o b : Option (List ℕ)) → sum ≡ counted parsed shown.sum → drawn ≡ drawn_after (limits_of options) parsed shown.drawn
    → is_drawn (limits_of options) parsed shown.drawn ≡ false
    → IsShownOnce options shelf parsed (out_with shown o b) (out_with (record shown { sum = sum; drawn = drawn; is_told_last = true }) o b)
counted_only options shelf parsed shown sum drawn o b summed taken none =
    subst (λ (s : Sum). IsShownOnce options shelf parsed (out_with shown o b) (out_with (record shown { sum = s; drawn = drawn; is_told_last = true }) o b))
    (sym summed)
    (subst (λ (d : DrawnCount). IsShownOnce options shelf parsed (out_with shown o b)
    (out_with (record shown { sum = counted parsed shown.sum; drawn = d; is_told_last = true }) o b))
    (sym taken) (counted_alone none refl))

-- it was counted and written
pub counted_written : (options : Options) (shelf : Shelf) (parsed : Diagnostic) (shown : Shown) (sum : Sum) (drawn : DrawnCount)
    (written : Written) (o p b : Option (List ℕ)) → sum ≡ counted parsed shown.sum
    → drawn ≡ drawn_after (limits_of options) parsed shown.drawn → is_drawn (limits_of options) parsed shown.drawn ≡ true
    → IsWritten options (files_of shelf) (sources_in shelf) parsed shown.written written o p
    → IsShownOnce options shelf parsed (out_with shown o b)
    (out_with (record shown { sum = sum; drawn = drawn; written = written; is_told_last = true }) p b)
counted_written options shelf parsed shown sum drawn written o p b summed taken some it =
    subst (λ (s : Sum). IsShownOnce options shelf parsed (out_with shown o b)
    (out_with (record shown { sum = s; drawn = drawn; written = written; is_told_last = true }) p b))
    (sym summed)
    (subst (λ (d : DrawnCount). IsShownOnce options shelf parsed (out_with shown o b)
    (out_with (record shown { sum = counted parsed shown.sum; drawn = d; written = written; is_told_last = true }) p b))
    (sym taken) (counted_and_written written some it refl refl))
