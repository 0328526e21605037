use Rattle.std.proofs.Common.{◌≡◌, ℕ, ◌+◌, ◌*◌, ◌^◌, ◌<◌, ◌≤◌, ◌++◌, List, [], ◌∷◌, false, get_or, refl, inl, inr, length, map, take, replicate, ap, sym, ◌∙◌, arith, string_bytes, string_len}
use Rattle.std.specs.Prelude.{Result, Ok, Err, OnOk, is_ok, true}
use Rattle.std.specs.String.{string_capacity}
use Rattle.std.proofs.lemmas.Bool.{cases_lt, eq-eqb, eqb-true, true≢false}
use Rattle.std.proofs.Math.Nat.{mul-le-mul_left}
use Rattle.std.proofs.lemmas.List.{length-map, length-replicate, length-take-le, map_more, replicate_more, take_all}
use Rattle.ariadne_base.specs.Locations.{upto}
use Rattle.ariadne_picture.specs.declared.label_info.LabelInfo.{LabelInfo}
use Rattle.ariadne_picture.specs.Pieces.{column_size, spaces}
use Rattle.ariadne_render.specs.Gutters.{GutterFields, columns}
use Rattle.ariadne_render.proofs.GutterState.{columns-none, columns-some, ready-none, ready-free}
use Rattle.ariadne_render.proofs.gutter.Gutter.begin.Goals as goal
use Rattle.ariadne_render.proofs.gutter.Gutter.begin.Goals.{Joined-is_empty, then-is_empty, else-is_empty}

-- what holds on Ok holds where it is Ok
on-ok : {T E P : Type 0} (r : Result T E) → is_ok r ≡ true → OnOk r P → P
on-ok (Ok x) e p = p
on-ok (Err y) e p = absurd (true≢false (sym e))

-- what holds anyway holds on Ok
anyway : {T E P : Type 0} (r : Result T E) → P → OnOk r P
anyway (Ok x) p = p
anyway (Err y) p = tt

-- a column has at most two bytes, and there is at most one column more than labels
small : (c : Joined-is_empty) → c.if-is_empty.columns * c.column_size-size.result < 2 ^ 64
small c =
    let few = mul-le-mul_left c.if-is_empty.columns c.column_size-size.ensures.few in
    let some : c.if-is_empty.columns ≤ length c.args.labels.now + 1 = elim c.if-is_empty.branch [
      | then-is_empty w ↦ omega (arith, w.columns-is)
      | else-is_empty w ↦ omega (arith, w.columns-is)
    ] in
    omega (arith, few)

pub overflow_mul-columns : goal.overflow_mul-columns
overflow_mul-columns c = let h = small (goal.at.overflow_mul-columns c).Joined-is_empty in omega arith

pub overflow_mul-columns-2 : goal.overflow_mul-columns-2
overflow_mul-columns-2 c = let h = small (goal.at.overflow_mul-columns-2 c).Joined-is_empty in omega arith

pub push_multiples-requires-clause-fits : goal.push_multiples-requires-clause-fits
push_multiples-requires-clause-fits c = small (goal.at.push_multiples-requires-clause-fits c).Joined-is_empty

-- nothing is there yet, and there is room
pub push_multiples-requires-clause-room : goal.push_multiples-requires-clause-room
push_multiples-requires-clause-room c = rw c.loop-label.invariant.starts c.in_ok-reserve-4.ensures.ok

pub loop-label-init : goal.loop-label-init
loop-label-init c = record {
  positions = c.reserve.ensures.items ∙ c.clear.ensures.items;
  positions_room = omega (arith, c.in_ok-reserve.ensures.ok);
  bars = c.reserve-2.ensures.items ∙ c.clear-2.ensures.items;
  bars_room = omega (arith, c.in_ok-reserve-2.ensures.ok);
  page = refl;
  text = refl;
  starts = refl;
}

-- one label more
pub push_reserved-requires : goal.push_reserved-requires
push_reserved-requires c =
    let kept = c.loop-label.invariant in
    let first = take c.loop-label.label-index c.args.labels.now in
    omega (
      arith,
      c.loop-label.self-inside.positions.ok.0,
      ap length kept.positions,
      length-map first (λ (a : LabelInfo). a.position),
      length-take-le c.loop-label.label-index c.args.labels.now (omega arith),
      kept.positions_room,
    )

pub push_reserved-requires-in-loop-label : goal.push_reserved-requires-in-loop-label
push_reserved-requires-in-loop-label c =
    let kept = c.loop-label.invariant in
    omega (arith, c.loop-label.self-inside.bars.ok.0, ap length kept.bars, length-replicate c.loop-label.label-index false, kept.bars_room)

mapped : (f : LabelInfo → ℕ) (now new : List ℕ) (xs : List LabelInfo) (i : ℕ) (d : LabelInfo) → i < length xs → now ≡ map f (take i xs)
    → new ≡ now ++ f (get_or xs i d) ∷ [] → new ≡ map f (take (i + 1) xs)
mapped f now new xs i d h e g = g ∙ ap (λ t. t ++ f (get_or xs i d) ∷ []) e ∙ sym (map_more f xs i d h)

pub loop-label-preserved : goal.loop-label-preserved
loop-label-preserved c =
    let kept = c.loop-label.invariant in
    record {
      positions = mapped (λ (a : LabelInfo). a.position) c.loop-label.self-inside.positions.items _ c.args.labels.now c.loop-label.label-index _
          c.loop-label-test.true kept.positions c.push_reserved.ensures.items;
      positions_room = omega (arith, c.push_reserved.ensures.capacity, kept.positions_room);
      bars = c.push_reserved-in-loop-label.ensures.items ∙ ap (λ t. t ++ false ∷ []) kept.bars ∙ replicate_more c.loop-label.label-index false;
      bars_room = omega (arith, c.push_reserved-in-loop-label.ensures.capacity, kept.bars_room);
      page = kept.page;
      text = kept.text;
      starts = kept.starts;
    }

-- all labels have their columns
pub returns : goal.returns
returns c =
    let labels = c.args.labels.now in
    let kept = c.loop-label.invariant in
    let all : c.loop-label.label-index ≡ length labels = omega arith in
    let page = ap (λ p. p.now) kept.page ∙ ap (λ (g : GutterFields). g.page) c.self.view_is in
    let positions = kept.positions ∙ ap (map (λ (a : LabelInfo). a.position)) (take_all c.loop-label.label-index labels (omega arith)) in
    let bars = kept.bars ∙ ap (λ n. replicate n false) all in
    anyway c.push_blanks.result (λ i. record { page = page i; positions = positions i; bars = bars i })

-- where there is no memory for the positions nothing is there
pub invariant_of-self : goal.invariant_of-self
invariant_of-self c =
    ready-none _ _ _ (c.reserve.ensures.items ∙ c.clear.ensures.items) c.clear-2.ensures.items c.clear-3.ensures.bytes c.clear-4.ensures.items

-- nor for the bars
pub invariant_of-self-in_err-reserve-2 : goal.invariant_of-self-in_err-reserve-2
invariant_of-self-in_err-reserve-2 c =
    ready-none _ _ _ (c.reserve.ensures.items ∙ c.clear.ensures.items) (c.reserve-2.ensures.items ∙ c.clear-2.ensures.items)
    c.clear-3.ensures.bytes c.clear-4.ensures.items

-- nor for the text
pub invariant_of-self-in_err-reserve-3 : goal.invariant_of-self-in_err-reserve-3
invariant_of-self-in_err-reserve-3 c =
    ready-none _ _ _ (c.reserve.ensures.items ∙ c.clear.ensures.items) (c.reserve-2.ensures.items ∙ c.clear-2.ensures.items)
    (c.reserve-3.ensures.bytes ∙ c.clear-3.ensures.bytes) c.clear-4.ensures.items

-- nor for the offsets
pub invariant_of-self-in_err-reserve-4 : goal.invariant_of-self-in_err-reserve-4
invariant_of-self-in_err-reserve-4 c =
    ready-none _ _ _ (c.reserve.ensures.items ∙ c.clear.ensures.items) (c.reserve-2.ensures.items ∙ c.clear-2.ensures.items)
    (c.reserve-3.ensures.bytes ∙ c.clear-3.ensures.bytes) (c.reserve-4.ensures.items ∙ c.clear-4.ensures.items)

-- for the blanks there is room, so all columns are there
pub invariant_of-self-2 : goal.invariant_of-self-2
invariant_of-self-2 c =
    let labels = c.args.labels.now in
    let now = c.loop-label.self-inside in
    let kept = c.loop-label.invariant in
    let g : GutterFields = record { page = now.page.now; positions = now.positions.items; bars = now.bars.items } in
    let m = c.if-is_empty.columns in
    let all : c.loop-label.label-index ≡ length labels = omega arith in
    let off : g.bars ≡ replicate (length labels) false = kept.bars ∙ ap (λ n. replicate n false) all in
    let bars : length g.bars ≡ length labels = ap length off ∙ length-replicate (length labels) false in
    let positions : length g.positions ≡ length labels =
    ap length (kept.positions ∙ ap (λ n. map (λ (a : LabelInfo). a.position) (take n labels)) all)
    ∙ length-map (take (length labels) labels) (λ (a : LabelInfo). a.position) ∙ length-take-le (length labels) labels (omega arith) in
    let count : m ≡ columns g = elim c.if-is_empty.branch [
      | then-is_empty w ↦
          w.columns-is ∙ sym (columns-none g (bars ∙ eqb-true (length labels) 0 (sym c.is_empty.ensures ∙ w.if-is_empty.true)))
      | else-is_empty w ↦
          let some : 0 < length g.bars = elim (cases_lt 0 (length g.bars)) [
            | inl less ↦ less
            | inr more ↦ absurd (true≢false (sym (eq-eqb (length labels) 0 (omega (arith, bars))) ∙ sym c.is_empty.ensures ∙ w.if-is_empty.false))
          ] in
          omega (arith, w.columns-is, columns-some g 0 some, bars)
    ] in
    let size : c.column_size-size.result ≡ column_size g.page.switches =
    c.column_size-size.ensures.size ∙ ap column_size (c.switches.ensures.switches) ∙ ap column_size (sym (ap (λ p. p.now.switches) kept.page)) in
    let text : string_bytes now.text ≡ [] = ap string_bytes kept.text ∙ c.reserve-3.ensures.bytes ∙ c.clear-3.ensures.bytes in
    let starts : now.starts.items ≡ [] = ap (λ v. v.items) kept.starts ∙ c.reserve-4.ensures.items ∙ c.clear-4.ensures.items in
    let room : string_len now.text + m * c.column_size-size.result ≤ string_capacity now.text = rw kept.text c.in_ok-reserve-3.ensures.ok in
    let blanks = on-ok c.push_blanks.result (c.push_blanks.ensures.room room) c.push_blanks.ensures.bytes in
    ready-free g (length labels) off (string_bytes c.push_blanks.new.out) c.push_multiples.new.out.items m c.column_size-size.result positions count size
    (blanks ∙ ap (λ t. t ++ spaces (m * c.column_size-size.result)) text)
    (c.push_multiples.ensures ∙ ap (λ t. t ++ map (λ k. k * c.column_size-size.result) (upto m)) starts)
