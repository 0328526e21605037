-- Lines that waited go to the diagnostic behind them, or pass.
use Rattle.std.proofs.Common.{◌≡◌, ◌∙◌, [], ℕ, List, Option, Some, ap, subst, sym, refl}
use Rattle.std.specs.Prelude.{false, Result, Ok, Err, OnOk, Vec}
use Rattle.std.specs.declared.alloc.Global.{Global}
use Rattle.ariadne_blocks.specs.Blocks.{IsBegun}
use Rattle.ariadne_blocks.specs.declared.block.Block.{Block}
use Rattle.ariadne_parse.specs.declared.diagnostic.Diagnostic.{Diagnostic}
use Rattle.ariadne_parse.specs.declared.diagnostic.Span.{Span}
use Rattle.ariadne_show.specs.Finding.{caret_at, is_held, IsSpanSettled}
use Rattle.ariadne_show.specs.WaitingLines.{bytes_in}
use Rattle.ariadne_show.specs.RunOutput.{giving, tells_span, At, AreGiven, Giving, HasLineGone}
use Rattle.ariadne_show.specs.RunOutput.{IsBegunBehind, IsBlockFinished, IsFrontGiven, IsNoteAddedTo, IsNoteGiven, IsSpanGone, passed_placeless, passed_unread, told_span}
use Rattle.ariadne_show.specs.Writing.{HavePassed, Out}
use Rattle.ariadne_show.specs.declared.finder.Finder.{Finder}
use Rattle.ariadne_show.specs.declared.front.Role.TheVariants as role
use Rattle.ariadne_show.specs.declared.front.WaitingLine.{WaitingLine}
use Rattle.ariadne_show.specs.declared.known.Known.{Known}
use Rattle.ariadne_show.specs.declared.options.Options.{Options}

-- ---- one line

-- its span is in a file that can't be read, and it passed, after Ok
pub unread_if : {T E : Type 0} (r : Result T E) (options : Options) (lines : List (List ℕ)) (span settled : Span)
    (finder after last : Finder) (block : Block) (a b : Out) → IsSpanSettled span settled finder after
    → is_held after settled ≡ false → last ≡ after → OnOk r (HavePassed options lines a b)
    → OnOk r (IsSpanGone options lines span (record { finder = finder; block = block; out = a })
    (record { finder = last; block = block; out = b }))
unread_if (Ok x) options lines span settled finder after last block a b looked none kept passed =
    subst (λ (f : Finder). IsSpanGone options lines span (record { finder = finder; block = block; out = a })
    (record { finder = f; block = block; out = b }))
    (sym kept) (passed_unread settled looked none passed refl)
unread_if (Err e) options lines span settled finder after last block a b looked none kept passed = tt

-- its span went
pub told_if : {T E : Type 0} (r : Result T E) (options : Options) (line : WaitingLine) (lines : List (Vec ℕ Global)) (span : Span)
    (first last : Giving) → line.role ≡ role.Span span → lines ≡ line.lines.items
    → OnOk r (IsSpanGone options (bytes_in lines) span first last) → OnOk r (HasLineGone options line first last)
told_if (Ok x) options line lines span first last parsed same gone =
    told_span span parsed (subst (λ (l : List (Vec ℕ Global)). IsSpanGone options (bytes_in l) span first last) same gone)
told_if (Err e) options line lines span first last parsed same gone = tt

-- it tells no span, and passed
pub placeless_if : {T E : Type 0} (r : Result T E) (options : Options) (line : WaitingLine) (lines : List (Vec ℕ Global))
    (finder : Finder) (block : Block) (a b : Out) → tells_span line.role ≡ false → lines ≡ line.lines.items
    → OnOk r (HavePassed options (bytes_in lines) a b)
    → OnOk r (HasLineGone options line (record { finder = finder; block = block; out = a })
    (record { finder = finder; block = block; out = b }))
placeless_if (Ok x) options line lines finder block a b parsed same passed =
    passed_placeless parsed (subst (λ (l : List (Vec ℕ Global)). HavePassed options (bytes_in l) a b) same passed) refl refl
placeless_if (Err e) options line lines finder block a b parsed same passed = tt

-- ---- all of them

-- no line waits then
pub front_given : (options : Options) (first : At) (block : Block) (last : At) (given : Block) (lines : List WaitingLine)
    (front : Vec WaitingLine Global) → lines ≡ first.known.front.items
    → AreGiven options lines (giving first block) (giving last given) → front.items ≡ []
    → last.known ≡ record first.known { finder = last.known.finder; front = front }
    → IsFrontGiven options first block last given
front_given options first block last given lines front same all none known = record {
  lines = subst (λ (l : List WaitingLine). AreGiven options l (giving first block) (giving last given)) same all;
  none = ap (λ (k : Known). k.front.items) known ∙ none;
  known = known ∙ sym (ap (λ (k : Known). record first.known { finder = last.known.finder; front = k.front }) known);
}

-- ---- a diagnostic that has them is held

pub begun_if : {T E : Type 0} (r : Result T E) (options : Options) (head : List ℕ) (parsed : Diagnostic) (first : At)
    (finished given last : Known) (a b : Out) (caret : Option ℕ) (begun block : Block)
    → IsBlockFinished options first (record { known = finished; out = a }) → caret ≡ caret_at finished.finder parsed
    → IsBegun parsed head caret begun → last ≡ record given { block = Some block }
    → OnOk r (IsFrontGiven options (record { known = finished; out = a }) begun (record { known = given; out = b }) block)
    → OnOk r (IsBegunBehind options head parsed first (record { known = last; out = b }))
begun_if (Ok x) options head parsed first finished given last a b caret begun block before points it held front = record {
  finished = record { known = finished; out = a };
  before = before;
  begun = begun;
  head_parsed = subst (λ (c : Option ℕ). IsBegun parsed head c begun) points it;
  given = record { known = given; out = b };
  block = block;
  front = front;
  held = ap (λ (k : Known). record { known = k; out = b }) held;
}
begun_if (Err e) options head parsed first finished given last a b caret begun block before points it held front = tt

pub note_held_if : {T E : Type 0} (r : Result T E) (options : Options) (before noted : Block) (note : Diagnostic) (first : At)
    (given last : Known) (b : Out) → last ≡ record given { block = Some noted }
    → OnOk r (IsNoteGiven options note first before (record { known = given; out = b }) noted)
    → OnOk r (IsNoteAddedTo options before note first (record { known = last; out = b }))
note_held_if (Ok x) options before noted note first given last b held it = record {
  given = record { known = given; out = b };
  noted = noted;
  note_given = it;
  held = ap (λ (k : Known). record { known = k; out = b }) held;
}
note_held_if (Err e) options before noted note first given last b held it = tt
