-- What a run knows, as a line changes it that is held.
use Rattle.std.proofs.lemmas.Bool.{eqb-true, not-false}
use Rattle.std.proofs.Common.{arith, ◌≡◌, ◌∙◌, ◌++◌, ◌∷◌, [], ℕ, List, Option, Some, None, ap, sym, refl}
use Rattle.std.specs.Prelude.{true, false, Bool, not, ◌&&◌, ◌==◌, length, is_some, Result, Ok, Err, IfOk, Vec}
use Rattle.std.specs.declared.alloc.Global.{Global}
use Rattle.ariadne_blocks.specs.Blocks.{may_go_on, view_of, IsMore}
use Rattle.ariadne_blocks.specs.declared.block.Block.{Block}
use Rattle.ariadne_blocks.specs.declared.line.Line.{Line}
use Rattle.ariadne_show.specs.Known.{goes_not_on, has_open_block, has_waiting_lines, not_of_it, IsMoreTaken}
use Rattle.ariadne_show.specs.Known.{IsPlacedAt, IsPlacedNow, IsRowTaken, IsTriedAsRow}
use Rattle.ariadne_parse.specs.declared.diagnostic.Location.{Location}
use Rattle.ariadne_show.specs.declared.finder.Finder.{Finder}
use Rattle.ariadne_show.specs.declared.front.PlacedHead.{PlacedHead}
use Rattle.ariadne_show.specs.declared.front.WaitingLine.{WaitingLine}
use Rattle.ariadne_show.specs.declared.known.Known.{Known}

-- ---- no diagnostic is open

and_false : (a b : Bool) → b ≡ false → (a && b) ≡ false
and_false true b none = none
and_false false b none = refl

-- where lines wait
pub closed_by_front : (known : Known) (wait : Bool) → wait ≡ has_waiting_lines known → wait ≡ true
    → has_open_block known ≡ false
closed_by_front known wait is so =
    and_false (is_some known.block) (not (has_waiting_lines known)) (ap not (sym is ∙ so))

none_wait_at : (lines : List WaitingLine) → not (length lines == 0) ≡ false → lines ≡ []
none_wait_at [] none = refl
none_wait_at (line ∷ lines) none =
    let h : length (line ∷ lines) ≡ 0 = eqb-true (length (line ∷ lines)) 0 (not-false (length (line ∷ lines) == 0) none) in
    absurd (omega arith)

-- no line waits
pub none_wait : (known : Known) (wait : Bool) → wait ≡ has_waiting_lines known → wait ≡ false → known.front.items ≡ []
none_wait known wait is so = none_wait_at known.front.items (sym is ∙ so)

-- where none is held
pub closed_by_block : (known : Known) → known.block ≡ None → has_open_block known ≡ false
closed_by_block known none = ap (λ (b : Option Block). is_some b && not (has_waiting_lines known)) none

-- ---- rows

pub row_in_front_if : {E : Type 0} (r : Result Bool E) (line : Line) (known : Known) (finder : Finder) (before after : Block)
    → known.block ≡ Some before → known.front.items ≡ []
    → IfOk r (IsRowTaken line known.finder finder before after)
    → IfOk r (IsTriedAsRow line known (record known { finder = finder; block = Some after }))
row_in_front_if (Ok true) line known finder before after held alone row = record {
  before = before;
  after = after;
  held = held;
  alone = alone;
  row = row;
  known = refl;
}
row_in_front_if (Ok false) line known finder before after held alone row =
    not_of_it before after held row.ends row.block
    (ap (λ (f : Finder). record known { finder = f; block = Some after }) row.finder)
row_in_front_if (Err e) line known finder before after held alone row = tt

-- ---- lines that go on

pub more_in_front_if : {E : Type 0} (r : Result Bool E) (line : Line) (known : Known) (before after : Block)
    → known.block ≡ Some before → known.front.items ≡ []
    → IfOk r (λ more. more ≡ may_go_on line.text.now (view_of before))
    → IfOk r (λ more. more ≡ true → IsMore line.bytes.now line.text.now before after)
    → IfOk r (λ more. more ≡ false → after ≡ before)
    → IfOk r (IsMoreTaken line known (record known { block = Some after }))
more_in_front_if (Ok true) line known before after held alone may more same = record {
  before = before;
  after = after;
  held = held;
  alone = alone;
  more = more refl;
  known = refl;
}
more_in_front_if (Ok false) line known before after held alone may more same = record {
  none = goes_not_on before held (sym may);
  same = ap (λ (b : Option Block). record known { block = b }) (ap Some (same refl) ∙ sym held);
}
more_in_front_if (Err e) line known before after held alone may more same = tt

-- ---- heads that waited

pub placed_at_if : {E : Type 0} (r : Result (Option PlacedHead) E) (arrow : List ℕ × Location × Bool) (known : Known)
    (front : Vec WaitingLine Global) (waiting : WaitingLine) → known.front.items ≡ front.items ++ waiting ∷ []
    → IfOk r (IsPlacedNow arrow waiting) → IfOk r (IsPlacedAt arrow known (record known { front = front }))
placed_at_if (Ok None) arrow known front waiting waited placed = placed
placed_at_if (Ok (Some head)) arrow known front waiting waited placed = record {
  waiting = waiting;
  has_span = placed;
  waited = waited;
  known = refl;
}
placed_at_if (Err e) arrow known front waiting waited placed = tt
