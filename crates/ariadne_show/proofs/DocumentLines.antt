-- Documents of many lines, by what their lines do, and what is told of them.
use Rattle.std.proofs.Common.{◌≡◌, ◌∙◌, ℕ, List, Option, Some, None, ap, subst, sym, refl}
use Rattle.std.specs.Prelude.{[], true, false, Result, Ok, Err, OnOk, Vec}
use Rattle.std.specs.declared.alloc.Global.{Global}
use Rattle.ariadne_documents.specs.Documents.{step_of, text_with, value_of}
use Rattle.ariadne_documents.specs.declared.document.Step.{Step}
use Rattle.ariadne_documents.specs.declared.document.Step.TheVariants.{Broken, Ended, GoesOn}
use Rattle.ariadne_parse.specs.declared.diagnostic.Diagnostic.{Diagnostic}
use Rattle.ariadne_parse.specs.declared.sent.Sent.{Sent}
use Rattle.ariadne_parse.specs.declared.telling.Answer.{Answer}
use Rattle.ariadne_parse.specs.declared.telling.Answer.TheVariants as answer
use Rattle.ariadne_documents.specs.Answers.{is_whole, IsDocumentParsed}
use Rattle.ariadne_show.specs.RunOutput.{begins_document, holding_of, with_sent, At, Holding}
use Rattle.ariadne_show.specs.RunOutput.{AreAllShown, AreBytesShown, IsDocumentShown, IsFinished, IsHeldShown}
use Rattle.ariadne_show.specs.RunOutput.{IsInsideShown, IsLineShown, IsNextBehind, IsOutsideShown}
use Rattle.ariadne_show.specs.RunOutput.{document_begun, document_broken, document_ended, document_goes_on, line_shown}
use Rattle.ariadne_show.specs.RunOutput.{told_diagnostics, told_dropped, told_none}
use Rattle.ariadne_show.specs.declared.options.Options.{Options}

-- ---- a line, by what is held in front of it

pub next_inside_if : {T E : Type 0} (r : Result T E) (options : Options) (line text : List ℕ) (held : Option (List ℕ))
    (first : At) (last : Holding) → Some text ≡ held → OnOk r (IsInsideShown options text line first last)
    → OnOk r (IsNextBehind options line held first last)
next_inside_if (Ok x) options line text held first last is it =
    subst (λ (h : Option (List ℕ)). IsNextBehind options line h first last) is it
next_inside_if (Err e) options line text held first last is it = tt

pub next_outside_if : {T E : Type 0} (r : Result T E) (options : Options) (line : List ℕ) (held : Option (List ℕ))
    (first : At) (last : Holding) → None ≡ held → OnOk r (IsOutsideShown options line first last)
    → OnOk r (IsNextBehind options line held first last)
next_outside_if (Ok x) options line held first last is it =
    subst (λ (h : Option (List ℕ)). IsNextBehind options line h first last) is it
next_outside_if (Err e) options line held first last is it = tt

-- it begins a document
pub begun_here : (options : Options) (line text : List ℕ) (at : At) → begins_document options line ≡ true
    → text ≡ text_with [] line → IsOutsideShown options line at (holding_of (Some text) at)
begun_here options line text at so same = document_begun so (ap (λ (t : List ℕ). holding_of (Some t) at) same)

-- it was shown by itself
pub outside_if : {T E : Type 0} (r : Result T E) (options : Options) (line : List ℕ) (held : Option (List ℕ)) (first last : At)
    → begins_document options line ≡ false → held ≡ None → OnOk r (IsLineShown options line first last)
    → OnOk r (IsOutsideShown options line first (holding_of held last))
outside_if (Ok x) options line held first last not_so none it = line_shown not_so none it
outside_if (Err e) options line held first last not_so none it = tt

-- ---- a line behind those of a document

pub goes_on_here : (options : Options) (text line whole : List ℕ) (step : Step) (at : At) → step ≡ step_of text line
    → step ≡ GoesOn → whole ≡ text_with text line → IsInsideShown options text line at (holding_of (Some whole) at)
goes_on_here options text line whole step at is so same =
    document_goes_on (sym is ∙ so) (ap (λ (t : List ℕ). holding_of (Some t) at) same)

pub ended_if : {T E : Type 0} (r : Result T E) (options : Options) (text line whole : List ℕ) (held : Option (List ℕ))
    (step : Step) (first last : At) → step ≡ step_of text line → step ≡ Ended → whole ≡ text_with text line → held ≡ None
    → OnOk r (IsDocumentShown options whole first last)
    → OnOk r (IsInsideShown options text line first (holding_of held last))
ended_if (Ok x) options text line whole held step first last is so same none it =
    document_ended (sym is ∙ so) none (subst (λ (w : List ℕ). IsDocumentShown options w first last) same it)
ended_if (Err e) options text line whole held step first last is so same none it = tt

pub broken_if : {T E : Type 0} (r : Result T E) (options : Options) (text line kept : List ℕ) (step : Step)
    (first shown : At) (last : Holding) → step ≡ step_of text line → step ≡ Broken → kept ≡ text
    → AreBytesShown options kept first shown → OnOk r (IsOutsideShown options line shown last)
    → OnOk r (IsInsideShown options text line first last)
broken_if (Ok x) options text line kept step first shown last is so same bytes it =
    document_broken shown (sym is ∙ so) (subst (λ (t : List ℕ). AreBytesShown options t first shown) same bytes) it
broken_if (Err e) options text line kept step first shown last is so same bytes it = tt

-- ---- a document

pub diagnostics_if : {T E : Type 0} (r : Result T E) (options : Options) (bytes : List ℕ) (first last : At) (sent : Sent)
    (parsed : Answer) (all : Vec Diagnostic Global)
    → IsDocumentParsed options.reading.format (value_of bytes) first.known.sent sent parsed → parsed ≡ answer.Diagnostics all
    → OnOk r (AreAllShown options all.items (with_sent first sent) last)
    → OnOk r (IsDocumentShown options bytes first last)
diagnostics_if (Ok x) options bytes first last sent parsed all of_document is it =
    told_diagnostics sent all
    (subst (λ (a : Answer). IsDocumentParsed options.reading.format (value_of bytes) first.known.sent sent a) is of_document) it
diagnostics_if (Err e) options bytes first last sent parsed all of_document is it = tt

pub dropped_if : {T E : Type 0} (r : Result T E) (options : Options) (bytes : List ℕ) (first last : At) (sent : Sent)
    (parsed : Answer) → IsDocumentParsed options.reading.format (value_of bytes) first.known.sent sent parsed
    → parsed ≡ answer.Dropped → OnOk r (IsFinished options (with_sent first sent) last)
    → OnOk r (IsDocumentShown options bytes first last)
dropped_if (Ok x) options bytes first last sent parsed of_document is it =
    told_dropped sent
    (subst (λ (a : Answer). IsDocumentParsed options.reading.format (value_of bytes) first.known.sent sent a) is of_document) it
dropped_if (Err e) options bytes first last sent parsed of_document is it = tt

pub none_if : {T E : Type 0} (r : Result T E) (options : Options) (bytes kept : List ℕ) (first last : At) (sent : Sent)
    (parsed : Answer) → IsDocumentParsed options.reading.format (value_of bytes) first.known.sent sent parsed
    → is_whole parsed ≡ false → kept ≡ bytes → OnOk r (AreBytesShown options kept (with_sent first sent) last)
    → OnOk r (IsDocumentShown options bytes first last)
none_if (Ok x) options bytes kept first last sent parsed of_document not_so same it =
    told_none sent parsed of_document not_so
    (subst (λ (t : List ℕ). AreBytesShown options t (with_sent first sent) last) same it)
none_if (Err e) options bytes kept first last sent parsed of_document not_so same it = tt

-- ---- the lines of a document that doesn't end

pub held_if : {T E : Type 0} (r : Result T E) (options : Options) (text kept : List ℕ) (held : Option (List ℕ))
    (first last : At) → Some text ≡ held → kept ≡ text → OnOk r (AreBytesShown options kept first last)
    → OnOk r (IsHeldShown options held first last)
held_if (Ok x) options text kept held first last is same it =
    subst (λ (h : Option (List ℕ)). IsHeldShown options h first last) is
    (subst (λ (t : List ℕ). AreBytesShown options t first last) same it)
held_if (Err e) options text kept held first last is same it = tt

pub held_none : (options : Options) (held : Option (List ℕ)) (at : At) → None ≡ held → IsHeldShown options held at at
held_none options held at is = subst (λ (h : Option (List ℕ)). IsHeldShown options h at at) is refl
