use Rattle.std.proofs.Common.{◌≡◌, ℕ, ◌+◌, ◌-◌, ◌*◌, ◌<◌, true, false, get_or, length, refl, sym, ap, ◌∙◌, arith}
use Rattle.std.proofs.lemmas.Result.{on_ok_weaker}
use Rattle.ariadne_picture.specs.declared.cell.Glyph.TheVariants.{Hbar, Xbar}
use Rattle.ariadne_picture.specs.Cells.{paint_of, turn_glyph}
use Rattle.ariadne_picture.specs.Pieces.{column_size}
use Rattle.ariadne_render.specs.Gutters.{GutterFields, bar_in, columns, columns_bytes, turn_row_ink}
use Rattle.ariadne_render.proofs.GutterLevels.{run_bytes, turn-before, turn-own, turn-bar, turn-level, turn-gap, turned, level-written, level-more}
use Rattle.ariadne_render.proofs.GutterLevels.{level-all, level-crossed, owes-same}
use Rattle.ariadne_render.proofs.Drawn.{page_kept}
use Rattle.ariadne_render.proofs.GutterState.{bar-read, bar-past, columns-some, offsets-len, ready-for}
use Rattle.ariadne_render.proofs.gutter.Gutter.push_turn.Goals as goal
use Rattle.ariadne_render.proofs.gutter.Gutter.push_turn.Goals.{then-index+in_ok-push_run+in_ok-push_stroke-2, else-index}

-- its column is there
pub push_before-requires : goal.push_before-requires
push_before-requires c = record { column = c.requires.column }

-- a column has a cell at least
pub overflow_sub-level : goal.overflow_sub-level
overflow_sub-level c = c.column_size-size.ensures.some

-- its column is one of the gutter
pub overflow_sub-columns : goal.overflow_sub-columns
overflow_sub-columns c =
    let g = c.args.self.now in
    let ready = ready-for _ g _ _ c.self.view_is c.self.invariant in
    let some = columns-some g c.args.own.now.gutter_column c.requires.column in
    omega (arith, some, offsets-len g _ _ ready, c.len.ensures, c.self.inside.starts.ok.0, c.requires.column)

-- so there is a cell to write the corner in
pub overflow_sub-columns-then-switches : goal.overflow_sub-columns-then-switches
overflow_sub-columns-then-switches c =
    let g = c.args.self.now in
    let own = c.args.own.now.gutter_column in
    let ready = ready-for _ g _ _ c.self.view_is c.self.invariant in
    let some = columns-some g own c.requires.column in
    let behind : c.len.result - own ≡ (length g.bars - own) + 1 =
    omega (arith, some, offsets-len g _ _ ready, c.len.ensures, c.self.inside.starts.ok.0, c.requires.column) in
    rw behind (omega (arith, c.column_size-size.ensures.some))

-- where bars are not crossed the horizontal goes through in one run
pub returns-then-switches : goal.returns-then-switches
returns-then-switches c =
    let g = c.args.self.now in
    let x = c.args.own.now in
    let own = x.gutter_column in
    let n = c.column_size-size.result in
    let k : ℕ = length g.bars - own in
    let ready = ready-for _ g _ _ c.self.view_is c.self.invariant in
    let some = columns-some g own c.requires.column in
    let size = c.column_size-size.ensures.size ∙ ap column_size (c.switches-switches.ensures.switches ∙ ap (λ (v : GutterFields). v.page.switches) c.self.view_is) in
    let gap = ap (λ w. w.cross_gap) (sym (c.switches-switches.ensures.switches ∙ ap (λ (v : GutterFields). v.page.switches) c.self.view_is)) ∙ c.if-switches.true in
    let behind : c.len.result - own ≡ k + 1 =
    omega (arith, some, offsets-len g _ _ ready, c.len.ensures, c.self.inside.starts.ok.0, c.requires.column) in
    let count : (n - 1) + k * n ≡ (c.len.result - own) * n - 1 = rw behind (omega (arith, c.column_size-size.ensures.some)) in
    let all : (own + 1) + k ≡ columns g = omega (arith, some, c.requires.column) in
    let corner = turned g (turn_row_ink g x) own x.info (turn_glyph x.side) c.turn_glyph.result c.args.pen.now c.push_before.new.pen c.push_stroke.new.self n
    (sym c.requires.page) c.turn_glyph.ensures size (turn-before g x) (turn-own g x) c.in_ok-push_before.ensures c.in_ok-push_stroke.ensures in
    let owed = owes-same c.args.pen.now c.push_stroke.new.self _ _ _ _ (ap (run_bytes g.page Hbar (paint_of x.info)) count)
    (ap (columns_bytes g.page (turn_row_ink g x)) all)
    (level-all g.page (turn_row_ink g x) x.info c.args.pen.now c.push_stroke.new.self (n - 1) n (own + 1) k size
    (λ j low. turn-gap g x j (omega arith) gap) corner) in
    on_ok_weaker c.push_run.result
    (level-written g.page (paint_of x.info) c.args.pen.now c.push_stroke.new.self c.push_run.new.self ((c.len.result - own) * n - 1) _
    (sym c.requires.page) owed) c.push_run.ensures

-- the columns before its own are written, and the first cell of its own
pub loop-column-init : goal.loop-column-init
loop-column-init c =
    let g = c.args.self.now in
    let x = c.args.own.now in
    let size = c.column_size-size.ensures.size ∙ ap column_size (c.switches-switches.ensures.switches ∙ ap (λ (v : GutterFields). v.page.switches) c.self.view_is) in
    record {
      written = turned g (turn_row_ink g x) x.gutter_column x.info (turn_glyph x.side) c.turn_glyph.result c.args.pen.now c.push_before.new.pen
          c.push_stroke.new.self c.column_size-size.result (sym c.requires.page) c.turn_glyph.ensures size
          (turn-before g x) (turn-own g x) c.in_ok-push_before.ensures c.in_ok-push_stroke.ensures;
      few = omega (arith, c.column_size-size.ensures.few);
    }

-- a turn goes on by a column: a bar is crossed, or its place is owed
pub loop-column-preserved : goal.loop-column-preserved
loop-column-preserved c =
    let g = c.args.self.now in
    let x = c.args.own.now in
    let k = c.loop-column.column in
    let switches = c.switches-switches.ensures.switches ∙ ap (λ (v : GutterFields). v.page.switches) c.self.view_is in
    let size = c.column_size-size.ensures.size ∙ ap column_size switches in
    let crossed = ap (λ w. w.cross_gap) (sym switches) ∙ c.if-switches.false in
    let len = ap (λ (v : GutterFields). length v.bars) c.self.view_is in
    let inside : k < length g.bars = omega (arith, len, c.len-column-end.ensures, c.self.inside.bars.ok.0) in
    let read = bar-read g k c.index.result.now inside (c.index.ensures ∙ ap (λ (v : GutterFields). get_or v.bars k c.index.result.now) c.self.view_is) in
    elim c.if-index.branch [
      | then-index+in_ok-push_run+in_ok-push_stroke-2 w ↦
          let on : bar_in g.bars k ≡ true = sym read ∙ w.if-index.true in
          let run = w.push_run-then-index.new.self in
          let level = level-written g.page (paint_of x.info) c.args.pen.now c.loop-column.pen run c.loop-column.level _ (sym c.requires.page)
          c.loop-column.invariant.written w.in_ok-push_run.ensures in
          let page = page_kept c.args.pen.now run _ level ∙ sym c.requires.page in
          record {
            written = rw (w.pen-is, w.level-is)
                (level-crossed g.page (turn_row_ink g x) x.info Xbar c.args.pen.now run w.push_stroke-then-index.new.self k c.column_size-size.result page size
                (turn-bar g x k (omega arith) on crossed) level w.in_ok-push_stroke-2.ensures);
            few = omega (arith, w.level-is, c.column_size-size.ensures.few);
          }
      | else-index w ↦
          let off : bar_in g.bars k ≡ false = sym read ∙ w.if-index.false in
          record {
            written = rw (w.pen-is, w.level-is)
                (level-more g.page (turn_row_ink g x) x.info c.args.pen.now c.loop-column.pen c.loop-column.level c.column_size-size.result k size
                (turn-level g x k (omega arith) off) c.loop-column.invariant.written);
            few = omega (arith, w.level-is, c.column_size-size.ensures.few, c.loop-column.invariant.few);
          }
    ]

-- a column has two cells at most
pub overflow_add-level-2 : goal.overflow_add-level-2
overflow_add-level-2 c =
    let g = c.args.self.now in
    let ready = ready-for _ g _ _ c.self.view_is c.self.invariant in
    let some = columns-some g c.args.own.now.gutter_column c.requires.column in
    let len = ap (λ (v : GutterFields). length v.bars) c.self.view_is in
    let last : c.loop-column.column ≡ length g.bars = omega (arith, len, c.len-column-end.ensures, c.self.inside.bars.ok.0) in
    let starts = c.self.inside.starts in
    omega (arith, last, some, offsets-len g _ _ ready, starts.ok.0, starts.ok.1, starts.small, c.loop-column.invariant.few, c.column_size-size.ensures.few)

-- the last column is owed too, and all that is owed is written
pub returns : goal.returns
returns c =
    let g = c.args.self.now in
    let x = c.args.own.now in
    let n = c.column_size-size.result in
    let some = columns-some g x.gutter_column c.requires.column in
    let size = c.column_size-size.ensures.size ∙ ap column_size (c.switches-switches.ensures.switches ∙ ap (λ (v : GutterFields). v.page.switches) c.self.view_is) in
    let len = ap (λ (v : GutterFields). length v.bars) c.self.view_is in
    let last : c.loop-column.column ≡ length g.bars = omega (arith, len, c.len-column-end.ensures, c.self.inside.bars.ok.0) in
    let off = bar-past g c.loop-column.column (omega (arith, last)) in
    let all : c.loop-column.column + 1 ≡ columns g = omega (arith, last, some) in
    let owed = owes-same c.args.pen.now c.loop-column.pen _ _ _ _ refl
    (ap (columns_bytes g.page (turn_row_ink g x)) all)
    (level-more g.page (turn_row_ink g x) x.info c.args.pen.now c.loop-column.pen c.loop-column.level n c.loop-column.column size
    (turn-level g x c.loop-column.column (omega arith) off) c.loop-column.invariant.written) in
    on_ok_weaker c.push_run-2.result
    (level-written g.page (paint_of x.info) c.args.pen.now c.loop-column.pen c.push_run-2.new.self (c.loop-column.level + n) _
    (sym c.requires.page) owed) c.push_run-2.ensures
