-- Lines that are no row of a snippet, by what they tell.
use Rattle.std.proofs.Common.{◌≡◌, ◌∙◌, ℕ, List, None, subst, sym, refl}
use Rattle.std.specs.Prelude.{true, false, Bool, Result, Ok, Err, OnOk, Vec}
use Rattle.std.specs.declared.alloc.Global.{Global}
use Rattle.ariadne_blocks.specs.declared.block.Block.{Block}
use Rattle.ariadne_blocks.specs.declared.line.Line.{Line}
use Rattle.ariadne_documents.specs.Answers.{IsLineParsed}
use Rattle.ariadne_parse.specs.ParsedDiagnostics.{reads_text}
use Rattle.ariadne_parse.specs.declared.diagnostic.Diagnostic.{Diagnostic}
use Rattle.ariadne_parse.specs.declared.sent.Sent.{Sent}
use Rattle.ariadne_parse.specs.declared.telling.Answer.{Answer}
use Rattle.ariadne_parse.specs.declared.telling.Answer.TheVariants as answer
use Rattle.ariadne_show.specs.Finding.{IsHeldOpened, IsUnheldOpened}
use Rattle.ariadne_show.specs.WaitingLines.{added_row, bytes_in, IsRoleOf}
use Rattle.ariadne_show.specs.Known.{is_waited_for, IsAboutNone, IsGivenOut, IsMoreInFront, IsNoMore}
use Rattle.ariadne_show.specs.Known.{IsNoRowInFront, IsPlacedBy, MayNotGoOn, SpansNone, Waits, WaitsNot}
use Rattle.ariadne_show.specs.InputLines.{IsLineOf}
use Rattle.ariadne_show.specs.RunOutput.{dropped, head as told_head, note as told_note, of_no_form, of_text, whole, AreAllShown}
use Rattle.ariadne_show.specs.RunOutput.{IsLineShown}
use Rattle.ariadne_show.specs.RunOutput.{At, HaveBothPassed, IsAnswered, IsBegunBehind, IsFinished, IsFollowed, IsHeadShown, IsHeldNoteShown}
use Rattle.ariadne_show.specs.RunOutput.{IsLinePassed, IsNoteAddedTo, IsNoteShown, IsOtherShown, IsPlacedShown, IsReadShown}
use Rattle.ariadne_show.specs.RunOutput.{IsTextShown, all_passed, began, began_placed, goes_on, head_passed, names_span}
use Rattle.ariadne_show.specs.RunOutput.{no_row, note_added, note_began, note_passed, note_shown, other, passed, tally, waits_in_front}
use Rattle.ariadne_show.specs.Writing.{HasPassed, HavePassed, Out}
use Rattle.ariadne_show.specs.DroppedTallies.{is_tally_behind}
use Rattle.ariadne_show.specs.declared.finder.Finder.{Finder}
use Rattle.ariadne_show.specs.declared.front.PlacedHead.{PlacedHead}
use Rattle.ariadne_show.specs.declared.known.Known.{Known}
use Rattle.ariadne_show.specs.declared.options.Options.{Options}

-- ---- heads

pub head_began_if : {T E : Type 0} (r : Result T E) (options : Options) (line : Line) (parsed opened : Diagnostic) (known : Known)
    (finder : Finder) (a : Out) (last : At) → IsHeldOpened parsed known.finder finder opened
    → OnOk r (IsBegunBehind options line.text.now opened (record { known = record known { finder = finder }; out = a }) last)
    → OnOk r (IsHeadShown options line parsed (record { known = known; out = a }) last)
head_began_if (Ok x) options line parsed opened known finder a last held it = began opened finder held it
head_began_if (Err e) options line parsed opened known finder a last held it = tt

pub head_passed_if : {T E : Type 0} (r : Result T E) (options : Options) (line : Line) (parsed : Diagnostic) (known : Known)
    (finder : Finder) (a : Out) (last : At) → IsUnheldOpened parsed known.finder finder
    → OnOk r (IsLinePassed options line.bytes.now (record { known = record known { finder = finder }; out = a }) last)
    → OnOk r (IsHeadShown options line parsed (record { known = known; out = a }) last)
head_passed_if (Ok x) options line parsed known finder a last unheld it = head_passed finder unheld it
head_passed_if (Err e) options line parsed known finder a last unheld it = tt

-- those that waited
pub placed_began_if : {T E : Type 0} (r : Result T E) (options : Options) (line : Line) (head : PlacedHead) (opened : Diagnostic)
    (known : Known) (finder : Finder) (a : Out) (last : At) → IsHeldOpened head.parsed known.finder finder opened
    → OnOk r (IsBegunBehind options line.text.now opened (record { known = record known { finder = finder }; out = a }) last)
    → OnOk r (IsPlacedShown options line head (record { known = known; out = a }) last)
placed_began_if (Ok x) options line head opened known finder a last held it = began_placed opened finder held it
placed_began_if (Err e) options line head opened known finder a last held it = tt

pub all_passed_if : {T E : Type 0} (r : Result T E) (options : Options) (line : Line) (head : PlacedHead) (known : Known)
    (finder : Finder) (a : Out) (last : At) (lines : List (Vec ℕ Global)) → IsUnheldOpened head.parsed known.finder finder
    → lines ≡ head.lines.items
    → OnOk r (HaveBothPassed options (bytes_in lines) line.bytes.now (record { known = record known { finder = finder }; out = a }) last)
    → OnOk r (IsPlacedShown options line head (record { known = known; out = a }) last)
all_passed_if (Ok x) options line head known finder a last lines unheld same gone =
    all_passed finder unheld (subst (λ (l : List (Vec ℕ Global)). HaveBothPassed options (bytes_in l) line.bytes.now
    (record { known = record known { finder = finder }; out = a }) last) same gone)
all_passed_if (Err e) options line head known finder a last lines unheld same gone = tt

-- both passed, after Ok
pub both_passed_if : {T E : Type 0} (r : Result T E) (options : Options) (lines : List (List ℕ)) (line : List ℕ) (first : At)
    (finished between last : Known) (b c d : Out) → IsFinished options first (record { known = finished; out = b })
    → between ≡ finished → HavePassed options lines b c → last ≡ between → OnOk r (HasPassed options line c d)
    → OnOk r (HaveBothPassed options lines line first (record { known = last; out = d }))
both_passed_if (Ok x) options lines line first finished between last b c d before kept all kept_too one = record {
  finished = record { known = finished; out = b };
  before = before;
  between = c;
  lines_passed = all;
  line_passed = one;
  known = kept_too ∙ kept;
}
both_passed_if (Err e) options lines line first finished between last b c d before kept all kept_too one = tt

-- ---- notes

pub note_added_if : {T E : Type 0} (r : Result T E) (options : Options) (line : Line) (note : Diagnostic) (known out : Known)
    (a : Out) (last : At) (block : Block) → IsGivenOut note known out block
    → OnOk r (IsNoteAddedTo options block note (record { known = out; out = a }) last)
    → OnOk r (IsHeldNoteShown options line note (record { known = known; out = a }) last)
note_added_if (Ok x) options line note known out a last block given it =
    note_added block given.held given.about
    (subst (λ (k : Known). IsNoteAddedTo options block note (record { known = k; out = a }) last) given.known it)
note_added_if (Err e) options line note known out a last block given it = tt

pub note_began_if : {T E : Type 0} (r : Result T E) (options : Options) (line : Line) (note : Diagnostic) (known out : Known)
    (a : Out) (last : At) → IsAboutNone note known out
    → OnOk r (IsBegunBehind options line.text.now note (record { known = out; out = a }) last)
    → OnOk r (IsHeldNoteShown options line note (record { known = known; out = a }) last)
note_began_if (Ok x) options line note known out a last none it =
    note_began none.none
    (subst (λ (k : Known). IsBegunBehind options line.text.now note (record { known = k; out = a }) last) none.same it)
note_began_if (Err e) options line note known out a last none it = tt

pub note_shown_if : {T E : Type 0} (r : Result T E) (options : Options) (line : Line) (note opened : Diagnostic) (known : Known)
    (finder : Finder) (a : Out) (last : At) → IsHeldOpened note known.finder finder opened
    → OnOk r (IsHeldNoteShown options line opened (record { known = record known { finder = finder }; out = a }) last)
    → OnOk r (IsNoteShown options line note (record { known = known; out = a }) last)
note_shown_if (Ok x) options line note opened known finder a last held it = note_shown opened finder held it
note_shown_if (Err e) options line note opened known finder a last held it = tt

pub note_passed_if : {T E : Type 0} (r : Result T E) (options : Options) (line : Line) (note : Diagnostic) (known : Known)
    (finder : Finder) (a : Out) (last : At) → IsUnheldOpened note known.finder finder
    → OnOk r (IsLinePassed options line.bytes.now (record { known = record known { finder = finder }; out = a }) last)
    → OnOk r (IsNoteShown options line note (record { known = known; out = a }) last)
note_passed_if (Ok x) options line note known finder a last unheld it = note_passed finder unheld it
note_passed_if (Err e) options line note known finder a last unheld it = tt

-- ---- other lines

pub tally_if : {T E : Type 0} (r : Result T E) (options : Options) (line : Line) (first last : At) (is : Bool)
    → is ≡ is_tally_behind line.text.now first.known first.out.shown → is ≡ true → OnOk r (IsFinished options first last)
    → OnOk r (IsOtherShown options line first last)
tally_if (Ok x) options line first last is behind so it = tally (sym behind ∙ so) it
tally_if (Err e) options line first last is behind so it = tt

pub other_passed_if : {T E : Type 0} (r : Result T E) (options : Options) (line : Line) (first finished followed : At) (known : Known)
    (b : Out) (is : Bool) → is ≡ is_tally_behind line.text.now first.known first.out.shown → is ≡ false
    → IsFinished options first finished → IsFollowed line.text.now finished followed → known ≡ followed.known
    → OnOk r (HasPassed options line.bytes.now followed.out b)
    → OnOk r (IsOtherShown options line first (record { known = known; out = b }))
other_passed_if (Ok x) options line first finished followed known b is same no_tally before moved kept it =
    passed finished followed (sym same ∙ no_tally) before moved it kept
other_passed_if (Err e) options line first finished followed known b is same no_tally before moved kept it = tt

-- ---- lines of text

pub named_if : {T E : Type 0} (r : Result T E) (options : Options) (line : Line) (first known : Known) (a : Out) (head : PlacedHead)
    (last : At) → IsPlacedBy line.text.now first known head
    → OnOk r (IsPlacedShown options line head (record { known = known; out = a }) last)
    → OnOk r (IsTextShown options line (record { known = first; out = a }) last)
named_if (Ok x) options line first known a head last placed shown = names_span known head placed shown
named_if (Err e) options line first known a head last placed shown = tt

-- a line spans none, in the state that it was
pub none_placed : (text : List ℕ) (first known : Known) → SpansNone text first known → SpansNone text first first
none_placed text first known none = record { none = none.none; same = refl }

pub waited : (options : Options) (line : Line) (first placed last : Known) (a : Out) → SpansNone line.text.now first placed
    → Waits line placed last
    → IsTextShown options line (record { known = first; out = a }) (record { known = last; out = a })
waited options line first placed last a none waits =
    waits_in_front (none_placed line.text.now first placed none)
    (subst (λ (k : Known). Waits line k last) none.same waits) refl

-- a line waits not, in the state that it was
pub not_waited : (options : Options) (line : Line) (first placed waiting : Known) → SpansNone line.text.now first placed
    → WaitsNot line placed waiting → WaitsNot line first first
not_waited options line first placed waiting none not = record {
  adds_none = subst (λ (k : Known). added_row k.front.items line.text.now ≡ None) none.same not.adds_none;
  role = subst (λ (k : Known). IsRoleOf (is_waited_for k) line.text.now None) none.same not.role;
  same = refl;
}

pub gone_on : (options : Options) (line : Line) (first placed waiting last : Known) (a : Out)
    → SpansNone line.text.now first placed → WaitsNot line placed waiting
    → IsMoreInFront line waiting last
    → IsTextShown options line (record { known = first; out = a }) (record { known = last; out = a })
gone_on options line first placed waiting last a none not more =
    goes_on (none_placed line.text.now first placed none) (not_waited options line first placed waiting none not)
    (subst (λ (k : Known). IsMoreInFront line k last) (not.same ∙ none.same) more) refl

pub other_if : {T E : Type 0} (r : Result T E) (options : Options) (line : Line) (first placed waiting known : Known) (a : Out)
    (last : At) → SpansNone line.text.now first placed → WaitsNot line placed waiting
    → IsNoMore line waiting known → OnOk r (IsOtherShown options line (record { known = known; out = a }) last)
    → OnOk r (IsTextShown options line (record { known = first; out = a }) last)
other_if (Ok x) options line first placed waiting known a last none not ends shown =
    other (none_placed line.text.now first placed none) (not_waited options line first placed waiting none not)
    (subst (λ (k : Known). MayNotGoOn line k) (not.same ∙ none.same) ends.none)
    (subst (λ (k : Known). IsOtherShown options line (record { known = k; out = a }) last)
    (ends.same ∙ not.same ∙ none.same) shown)
other_if (Err e) options line first placed waiting known a last none not ends shown = tt

-- ---- lines

pub told_if : {T E : Type 0} (r : Result T E) (options : Options) (line : Line) (first tried : Known) (sent : Sent) (a : Out)
    (answer : Answer) (last : At) → IsNoRowInFront first tried
    → IsLineParsed options.reading line.text.now tried.sent sent answer
    → OnOk r (IsAnswered options line (record { known = record tried { sent = sent }; out = a }) last answer)
    → OnOk r (IsReadShown options line (record { known = first; out = a }) last)
told_if (Ok x) options line first tried sent a answer last none parsed shown =
    no_row tried (record tried { sent = sent }) answer none parsed refl shown
told_if (Err e) options line first tried sent a answer last none parsed shown = tt

-- ---- by what a line tells

pub text_if : {T E : Type 0} (r : Result T E) (options : Options) (line : Line) (first last : At) (parsed : Answer) (reads : Bool)
    → parsed ≡ answer.Nothing → reads ≡ reads_text options.reading.format → reads ≡ true
    → OnOk r (IsTextShown options line first last) → OnOk r (IsAnswered options line first last parsed)
text_if (Ok x) options line first last parsed reads nothing is so it =
    subst (λ (a : Answer). IsAnswered options line first last a) (sym nothing) (of_text (sym is ∙ so) it)
text_if (Err e) options line first last parsed reads nothing is so it = tt

pub formless_if : {T E : Type 0} (r : Result T E) (options : Options) (line : Line) (first last : At) (parsed : Answer) (reads : Bool)
    → parsed ≡ answer.Nothing → reads ≡ reads_text options.reading.format → reads ≡ false
    → OnOk r (IsLinePassed options line.bytes.now first last) → OnOk r (IsAnswered options line first last parsed)
formless_if (Ok x) options line first last parsed reads nothing is not_so it =
    subst (λ (a : Answer). IsAnswered options line first last a) (sym nothing) (of_no_form (sym is ∙ not_so) it)
formless_if (Err e) options line first last parsed reads nothing is not_so it = tt

pub dropped_if : {T E : Type 0} (r : Result T E) (options : Options) (line : Line) (first last : At) (parsed : Answer)
    → parsed ≡ answer.Dropped → OnOk r (IsFinished options first last) → OnOk r (IsAnswered options line first last parsed)
dropped_if (Ok x) options line first last parsed is it =
    subst (λ (a : Answer). IsAnswered options line first last a) (sym is) (dropped it)
dropped_if (Err e) options line first last parsed is it = tt

pub whole_if : {T E : Type 0} (r : Result T E) (options : Options) (line : Line) (first last : At) (parsed : Answer)
    (all : Vec Diagnostic Global) → parsed ≡ answer.Diagnostics all → OnOk r (AreAllShown options all.items first last)
    → OnOk r (IsAnswered options line first last parsed)
whole_if (Ok x) options line first last parsed all is it =
    subst (λ (a : Answer). IsAnswered options line first last a) (sym is) (whole all it)
whole_if (Err e) options line first last parsed all is it = tt

pub head_if : {T E : Type 0} (r : Result T E) (options : Options) (line : Line) (first last : At) (parsed : Answer)
    (one : Diagnostic) → parsed ≡ answer.Head one → OnOk r (IsHeadShown options line one first last)
    → OnOk r (IsAnswered options line first last parsed)
head_if (Ok x) options line first last parsed one is it =
    subst (λ (a : Answer). IsAnswered options line first last a) (sym is) (told_head one it)
head_if (Err e) options line first last parsed one is it = tt

pub note_if : {T E : Type 0} (r : Result T E) (options : Options) (line : Line) (first last : At) (parsed : Answer)
    (one : Diagnostic) → parsed ≡ answer.Note one → OnOk r (IsNoteShown options line one first last)
    → OnOk r (IsAnswered options line first last parsed)
note_if (Ok x) options line first last parsed one is it =
    subst (λ (a : Answer). IsAnswered options line first last a) (sym is) (told_note one it)
note_if (Err e) options line first last parsed one is it = tt

-- a line of these bytes
pub line_if : {T E : Type 0} (r : Result T E) (options : Options) (bytes : List ℕ) (line : Line) (first last : At)
    → IsLineOf bytes line → OnOk r (IsReadShown options line first last) → OnOk r (IsLineShown options bytes first last)
line_if (Ok x) options bytes line first last read shown = record { line = line; read = read; shown = shown }
line_if (Err e) options bytes line first last read shown = tt
