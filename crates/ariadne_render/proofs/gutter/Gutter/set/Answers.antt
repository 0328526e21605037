use Rattle.std.proofs.Common.{◌≡◌, ◌+◌, ◌-◌, ◌<◌, ◌++◌, get_or, set, take, drop, length, sym, ap, ◌∙◌, arith, string_bytes}
use Rattle.std.specs.Bool.{then_some}
use Rattle.std.specs.List.{replace_range}
use Rattle.std.proofs.lemmas.List.{append-nil, drop_all, get_or_read, take_all}
use Rattle.ariadne_picture.specs.declared.cell.Glyph.TheVariants.{Vbar}
use Rattle.ariadne_render.specs.Gutters.{GutterFields, IsReady, bar_ink, bar_of, bars_ink, column_bytes, columns, start_of}
use Rattle.ariadne_render.proofs.GutterState.{ready-for, columns-some, offsets-len, offset-at, text-cut, start-next, start-holds, bar-after, ready-same, ready-set}
use Rattle.ariadne_render.proofs.gutter.Gutter.set.Goals as goal

-- the column is there
pub start-start-requires : goal.start-start-requires
start-start-requires c = record { column = omega (arith, columns-some c.args.self.now c.args.column c.requires.column) }

-- and so is the next one
pub start-end-requires : goal.start-end-requires
start-end-requires c = record { column = omega (arith, columns-some c.args.self.now c.args.column c.requires.column) }

-- they rise
pub replace_range-requires-clause-start_le_end : goal.replace_range-requires-clause-start_le_end
replace_range-requires-clause-start_le_end c =
    omega (arith, c.start-start.ensures, c.start-end.ensures, start-next c.args.self.now c.args.column)

-- they lie within the text
pub replace_range-requires-clause-in_bounds : goal.replace_range-requires-clause-in_bounds
replace_range-requires-clause-in_bounds c =
    let g = c.args.self.now in
    let k = c.args.column in
    let ready = ready-for _ g _ _ c.self.view_is c.self.invariant in
    let some = columns-some g k c.requires.column in
    let cut = text-cut g _ _ ready (k + 1) (omega (arith, some)) in
    omega (arith, c.start-end.ensures, cut.0, c.self.inside.text.bytes.ok.0)

-- which may be cut where the column begins
pub replace_range-requires-clause-start_boundary : goal.replace_range-requires-clause-start_boundary
replace_range-requires-clause-start_boundary c =
    let g = c.args.self.now in
    let k = c.args.column in
    let ready = ready-for _ g _ _ c.self.view_is c.self.invariant in
    let some = columns-some g k c.requires.column in
    let cut = text-cut g _ _ ready k (omega (arith, some)) in
    rw c.start-start.ensures (cut.0, λ _. cut.1)

-- and behind the column
pub replace_range-requires-clause-end_boundary : goal.replace_range-requires-clause-end_boundary
replace_range-requires-clause-end_boundary c =
    let g = c.args.self.now in
    let k = c.args.column in
    let ready = ready-for _ g _ _ c.self.view_is c.self.invariant in
    let some = columns-some g k c.requires.column in
    let cut = text-cut g _ _ ready (k + 1) (omega (arith, some)) in
    rw c.start-end.ensures (cut.0, λ _. cut.1)

-- the column's length is no less than nothing
pub overflow_sub-end : goal.overflow_sub-end
overflow_sub-end c = omega (arith, c.start-start.ensures, c.start-end.ensures, start-next c.args.self.now c.args.column)

-- those behind it begin no earlier than it ends
pub shift-requires-clause-behind : goal.shift-requires-clause-behind
shift-requires-clause-behind c = λ j low high.
    let g = c.args.self.now in
    let k = c.args.column in
    let ready = ready-for _ g _ _ c.self.view_is c.self.invariant in
    let items = c.deref_mut.ensures.value in
    let within : j < columns g = omega (arith, ap length items, offsets-len g _ _ ready) in
    let at = ap (λ t. get_or t j 0) items ∙ offset-at g _ _ ready j within in
    omega (arith, c.start-end.ensures, at, start-holds g k j (omega arith))

-- all lengths are those of texts
pub shift-requires-clause-fits : goal.shift-requires-clause-fits
shift-requires-clause-fits c = λ j high.
    let g = c.args.self.now in
    let ready = ready-for _ g _ _ c.self.view_is c.self.invariant in
    let items = c.deref_mut.ensures.value in
    let within : j < columns g = omega (arith, ap length items, offsets-len g _ _ ready) in
    let at = ap (λ t. get_or t j 0) items ∙ offset-at g _ _ ready j within in
    let cut = text-cut g _ _ ready j (omega arith) in
    let text = c.self.inside.text.bytes in
    let cells = c.push_column.new.out.bytes in
    omega (arith, at, cut.0, text.ok.0, text.ok.1, text.small, c.len.ensures, cells.ok.1, cells.small)

-- the text and the offsets are those of the bars again
pub invariant_of-self-2 : goal.invariant_of-self-2
unfolding bars_ink
invariant_of-self-2 c =
    let k = c.args.column in
    let old = c.self.inside in
    let on = c.args.stands in
    let bytes = string_bytes old.text in
    let offsets = old.starts.items in
    let g : GutterFields = record { page = old.page.now; positions = old.positions.items; bars = old.bars.items } in
    let new : GutterFields = record g { bars = set g.bars k on } in
    let ready : IsReady g bytes offsets = c.self.invariant in
    let inside : k < length g.bars = omega (arith, ap (λ (v : GutterFields). length v.bars) c.self.view_is, c.requires.column) in
    let from : c.start-start.result ≡ start_of g k = c.start-start.ensures ∙ ap (λ (v : GutterFields). start_of v k) (sym c.self.view_is) in
    let to : c.start-end.result ≡ start_of g (k + 1) = c.start-end.ensures ∙ ap (λ (v : GutterFields). start_of v (k + 1)) (sym c.self.view_is) in
    let read = get_or_read g.positions k _ (omega (arith, ready.positions)) c.index.ensures 0 in
    let bar : c.then_some-bar.result ≡ bar_of new k =
    c.then_some-bar.ensures ∙ ap (then_some on) read ∙ bar-after g k on inside in
    let cell = column_bytes g.page (bars_ink Vbar new k) in
    let cells : string_bytes c.push_column.new.out ≡ cell =
    c.in_ok-push_column.ensures ∙ (λ i. c.clear.ensures.bytes i ++ column_bytes g.page (bar_ink Vbar (bar i))) in
    let size : c.len.result ≡ length cell = c.len.ensures ∙ c.push_column.new.out.bytes.ok.0 ∙ ap length cells in
    let text : string_bytes c.replace_range.new.self ≡ replace_range bytes (start_of g k) (start_of g (k + 1)) cell =
    c.in_ok-replace_range.ensures.bytes ∙ (λ i. replace_range bytes (from i) (to i) ((c.deref.ensures ∙ cells) i)) in
    let moved = c.shift.new.starts in
    let items = c.deref_mut.ensures.value in
    let len : length moved ≡ length offsets = c.shift.auto.starts ∙ ap length items in
    let all : take old.starts.len (moved ++ drop (length moved) offsets) ≡ moved =
    ap (λ t. take old.starts.len (moved ++ t)) (drop_all (length moved) offsets (omega (arith, len)))
    ∙ ap (take old.starts.len) (append-nil moved) ∙ take_all old.starts.len moved (omega (arith, len, old.starts.ok.0)) in
    ready-same new (replace_range bytes (start_of g k) (start_of g (k + 1)) cell) moved (string_bytes c.replace_range.new.self) _ text all
    (ready-set g k on inside bytes offsets moved ready len (λ j h. c.shift.ensures.kept j h ∙ ap (λ t. get_or t j 0) items)
    (λ j low high. c.shift.ensures.moved j low (omega (arith, ap length items))
    ∙ (λ i. get_or (items i) j 0 + size i - (to i - from i))))
