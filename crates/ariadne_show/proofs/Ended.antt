-- What is held is written, and lines pass behind it.
use Rattle.std.proofs.Common.{◌≡◌, ◌∙◌, [], ℕ, List, Option, Some, None, ap, subst, sym, refl}
use Rattle.std.specs.Prelude.{Result, Ok, Err, IfOk, OnOk, Vec}
use Rattle.std.specs.Result.{result_and}
use Rattle.std.specs.declared.alloc.Global.{Global}
use Rattle.ariadne_blocks.specs.Blocks.{lines_behind, parsed_of}
use Rattle.ariadne_blocks.specs.declared.block.Block.{Block}
use Rattle.ariadne_parse.specs.declared.diagnostic.Diagnostic.{Diagnostic}
use Rattle.ariadne_show.specs.Finding.{AreChangedFound, IsOpened}
use Rattle.ariadne_show.specs.WaitingLines.{passing_of}
use Rattle.ariadne_show.specs.Known.{AreMarksSettled}
use Rattle.ariadne_show.specs.RunOutput.{At, AreAllShown, AreShown, HasNoRepeats, IsBlockFinished, IsBlockWritten, IsFinished}
use Rattle.ariadne_show.specs.RunOutput.{IsLinePassed, IsReadWritten, IsSettledShown, IsWholeShown}
use Rattle.ariadne_show.specs.RunOutput.{block_written, no_block}
use Rattle.ariadne_show.specs.Writing.{HasPassed, HavePassed, IsShownOnce, Out}
use Rattle.ariadne_show.specs.declared.finder.Finder.{Finder}
use Rattle.ariadne_show.specs.declared.front.WaitingLine.{WaitingLine}
use Rattle.ariadne_show.specs.declared.known.Known.{Known}
use Rattle.ariadne_show.specs.declared.options.Options.{Options}

-- a diagnostic was written, after Ok
pub read_written_if : {T E : Type 0} (r : Result T E) (options : Options) (read parsed : Diagnostic) (lines : List (List ℕ))
    (first marked last : Known) (a b c : Out) → AreMarksSettled read parsed first marked
    → IsSettledShown options parsed (record { known = marked; out = a }) (record { known = last; out = b })
    → OnOk r (HavePassed options lines b c)
    → OnOk r (IsReadWritten options read lines (record { known = first; out = a }) (record { known = last; out = c }))
read_written_if (Ok x) options read parsed lines first marked last a b c settled once behind = record {
  parsed = parsed;
  marked = marked;
  settled = settled;
  shown = record { known = last; out = b };
  once = once;
  behind = behind;
  known = refl;
}
read_written_if (Err e) options read parsed lines first marked last a b c settled once behind = tt

-- one that was held
pub written_if : {T E : Type 0} (r : Result T E) (options : Options) (block : Block) (read : Diagnostic) (lines : List (List ℕ))
    (first last : At) → read ≡ parsed_of block → lines ≡ lines_behind block
    → OnOk r (IsReadWritten options read lines first last) → OnOk r (IsBlockWritten options block first last)
written_if r options block read lines first last is same =
    subst (λ (d : Diagnostic). OnOk r (IsReadWritten options read lines first last) → OnOk r (IsReadWritten options d (lines_behind block) first last)) is
    (subst (λ (l : List (List ℕ)). OnOk r (IsReadWritten options read lines first last) → OnOk r (IsReadWritten options read l first last)) same (λ it. it))

-- the one in front was, if there is one
pub finished_some_if : {T E : Type 0} (r : Result T E) (options : Options) (known : Known) (a : Out) (taken : Option Block)
    (block : Block) (last : At) → Some block ≡ known.block → taken ≡ None
    → OnOk r (IsBlockWritten options block (record { known = record known { block = taken }; out = a }) last)
    → OnOk r (IsBlockFinished options (record { known = known; out = a }) last)
finished_some_if (Ok x) options known a taken block last held none written =
    block_written block (sym held)
    (subst (λ (b : Option Block). IsBlockWritten options block (record { known = record known { block = b }; out = a }) last)
    none written)
finished_some_if (Err e) options known a taken block last held none written = tt

pub finished_none : (options : Options) (known : Known) (a : Out) (taken : Option Block) → None ≡ known.block → taken ≡ None
    → IsBlockFinished options (record { known = known; out = a }) (record { known = record known { block = taken }; out = a })
finished_none options known a taken none after =
    no_block (sym none)
    (ap (λ (b : Option Block). record { known = record known { block = b }; out = a }) (after ∙ none))

-- and the lines that waited passed
pub finished_if : {T E : Type 0} (r : Result T E) (options : Options) (first : At) (ended : Known) (a b : Out)
    (front : Vec WaitingLine Global) (lines : List WaitingLine) → IsBlockFinished options first (record { known = ended; out = a })
    → lines ≡ ended.front.items → front.items ≡ []
    → OnOk r (HavePassed options (passing_of lines) a b)
    → OnOk r (IsFinished options first (record { known = record ended { front = front }; out = b }))
finished_if (Ok x) options first ended a b front lines block same none passed = record {
  ended = record { known = ended; out = a };
  block = block;
  front = subst (λ (l : List WaitingLine). HavePassed options (passing_of l) a b) same passed;
  none = none;
  known = refl;
}
finished_if (Err e) options first ended a b front lines block same none passed = tt

-- behind that a line did
pub line_passed_if : {T E : Type 0} (r : Result T E) (options : Options) (line : List ℕ) (first : At) (finished known : Known)
    (a b : Out) → IsFinished options first (record { known = finished; out = a }) → known ≡ finished
    → OnOk r (HasPassed options line a b) → OnOk r (IsLinePassed options line first (record { known = known; out = b }))
line_passed_if (Ok x) options line first finished known a b before same passed = record {
  finished = record { known = finished; out = a };
  before = before;
  line_passed = passed;
  known = same;
}
line_passed_if (Err e) options line first finished known a b before same passed = tt

-- ---- a diagnostic that is whole

pub whole_if : {T E : Type 0} (r : Result T E) (options : Options) (parsed opened single : Diagnostic) (known : Known)
    (finder : Finder) (a : Out) (last : At) → IsOpened parsed opened known.finder finder → HasNoRepeats opened single
    → OnOk r (IsSettledShown options single (record { known = record known { finder = finder }; out = a }) last)
    → OnOk r (IsWholeShown options parsed (record { known = known; out = a }) last)
whole_if (Ok x) options parsed opened single known finder a last files none it =
    record { opened = opened; finder = finder; files = files; single = single; repeats = none; shown = it }
whole_if (Err e) options parsed opened single known finder a last files none it = tt

-- ---- a diagnostic whose spans are settled

pub settled_shown_if : {T E : Type 0} (r : Result T E) (options : Options) (parsed found : Diagnostic) (known last : Known)
    (finder : Finder) (a b : Out) → AreChangedFound parsed found known.finder finder → last ≡ record known { finder = finder }
    → OnOk r (IsShownOnce options finder.shelf found a b)
    → OnOk r (IsSettledShown options parsed (record { known = known; out = a }) (record { known = last; out = b }))
settled_shown_if (Ok x) options parsed found known last finder a b changed kept it =
    subst (λ (k : Known). IsSettledShown options parsed (record { known = known; out = a }) (record { known = k; out = b }))
    (sym kept) (record { found = found; changed = changed; once = it; known = refl })
settled_shown_if (Err e) options parsed found known last finder a b changed kept it = tt

-- what a call leaves on Ok holds of what is returned then
pub on_ok_and : {A B E P : Type 0} (r : Result A E) {s : Result B E} {x : B} (Q : B → Type 0) → s ≡ result_and r (Ok x)
    → (P → Q x) → OnOk r P → IfOk s Q
on_ok_and (Ok v) Q is told p = subst (λ t. IfOk t Q) (sym is) (told p)
on_ok_and (Err e) Q is told p = subst (λ t. IfOk t Q) (sym is) tt

-- all of several
pub all_shown_if : {T E : Type 0} (r : Result T E) (options : Options) (all : List Diagnostic) (first finished last : At)
    → IsFinished options first finished → OnOk r (AreShown options all finished last)
    → OnOk r (AreAllShown options all first last)
all_shown_if (Ok x) options all first finished last before shown =
    record { finished = finished; before = before; whole = shown }
all_shown_if (Err e) options all first finished last before shown = tt
