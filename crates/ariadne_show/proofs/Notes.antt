-- Notes and helps, one after the other.
use Rattle.std.proofs.Common.{◌≡◌, ◌∙◌, ℕ, ap, sym, append-nil, append_assoc, []}
use Rattle.std.proofs.lemmas.List.{map-append}
use Rattle.std.proofs.lemmas.List.Elements.{filter-append}
use Rattle.std.specs.Prelude.{Bool, true, false, not, List, ◌∷◌, ◌++◌, cond, map}
use Rattle.std.specs.Prelude.{String, string_bytes}
use Rattle.std.specs.declared.alloc.Global.{Global}
use Rattle.std.specs.declared.ops.Range.{Range}
use Rattle.ariadne.specs.Report.{ReportFields}
use Rattle.ariadne_safe.specs.Visible.{visible_bytes}
use Rattle.ariadne_safe.specs.declared.text.TextKind.TheVariants.{Aside}
use Rattle.ariadne_parse.specs.declared.diagnostic.Span.{Span}
use Rattle.ariadne_show.specs.Asides.{aside_notes, aside_text, missing, missing_notes, location_text, with_helps, with_notes}
use Rattle.ariadne_show.specs.FoundSpans.{Files, is_found}
use Rattle.ariadne_show.specs.Wrapped.{wrapped}

-- no note more
pub no_notes : (r : ReportFields (ℕ × Range ℕ)) → r ≡ with_notes [] r
no_notes r = ap (λ (l : List (List ℕ)). record r { notes = l }) (sym (append-nil r.notes))

pub no_helps : (r : ReportFields (ℕ × Range ℕ)) → r ≡ with_helps [] r
no_helps r = ap (λ (l : List (List ℕ)). record r { helps = l }) (sym (append-nil r.helps))

-- some, and some more
pub notes_more : (r0 r s : ReportFields (ℕ × Range ℕ)) (xs ys : List (List ℕ)) → r ≡ with_notes xs r0
    → s ≡ with_notes ys r → s ≡ with_notes (xs ++ ys) r0
notes_more r0 r s xs ys is more =
    more ∙ ap (with_notes ys) is
    ∙ ap (λ (l : List (List ℕ)). record r0 { notes = l }) (append_assoc r0.notes xs ys)

pub helps_more : (r0 r s : ReportFields (ℕ × Range ℕ)) (xs ys : List (List ℕ)) → r ≡ with_helps xs r0
    → s ≡ with_helps ys r → s ≡ with_helps (xs ++ ys) r0
helps_more r0 r s xs ys is more =
    more ∙ ap (with_helps ys) is
    ∙ ap (λ (l : List (List ℕ)). record r0 { helps = l }) (append_assoc r0.helps xs ys)

-- those of texts, and that of one more
pub texts_more : (n : ℕ) (xs all : List (String Global)) (x : String Global) (text : List ℕ)
    → text ≡ wrapped n (string_bytes x) → all ≡ xs ++ x ∷ []
    → aside_notes n xs ++ visible_bytes Aside text ∷ [] ≡ aside_notes n all
texts_more n xs all x text same more =
    ap (λ t. aside_notes n xs ++ visible_bytes Aside t ∷ []) same
    ∙ sym (map-append (λ (t : String Global). aside_text n (string_bytes t)) xs (x ∷ []))
    ∙ ap (aside_notes n) (sym more)

-- ---- the spans that can't be drawn

note_of : ℕ → Span → List ℕ
note_of n span = aside_text n (location_text span (string_bytes span.text))

pub missing_more : (n : ℕ) (files : Files) (xs all : List Span) (x : Span) → all ≡ xs ++ x ∷ []
    → missing_notes n files xs ++ missing_notes n files (x ∷ []) ≡ missing_notes n files all
unfolding note_of
missing_more n files xs all x more =
    sym (map-append (note_of n) (missing files xs) (missing files (x ∷ [])))
    ∙ ap (map (note_of n)) (sym (filter-append (λ (span : Span). not (is_found files span)) xs (x ∷ [])))
    ∙ ap (missing_notes n files) (sym more)

pub not_missing : (n : ℕ) (files : Files) (x : Span) → is_found files x ≡ true → missing_notes n files (x ∷ []) ≡ []
unfolding note_of
not_missing n files x found = ap (λ (b : Bool). map (note_of n) (cond (not b) (x ∷ []) [])) found

pub one_missing : (n : ℕ) (files : Files) (x : Span) → is_found files x ≡ false
    → missing_notes n files (x ∷ []) ≡ aside_text n (location_text x (string_bytes x.text)) ∷ []
unfolding note_of
one_missing n files x found = ap (λ (b : Bool). map (note_of n) (cond (not b) (x ∷ []) [])) found
