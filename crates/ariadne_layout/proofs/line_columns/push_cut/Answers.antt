use Rattle.std.proofs.Common.{◌≡◌, ◌≤◌, ℕ, arith, refl}
use Rattle.ariadne_picture.specs.Columns.{column_of, shown}
use Rattle.ariadne_layout.specs.Knots.{AreRising, knot_column}
use Rattle.ariadne_layout.proofs.CutColumns.{behind-even, line-held, some-pushed}
use Rattle.ariadne_layout.proofs.Knots.{hold-last}
use Rattle.ariadne_layout.proofs.line_columns.push_cut.Goals as goal
use Rattle.ariadne_layout.proofs.line_columns.push_cut.Goals.{In_ok-push}

-- the columns of the line, of the places behind it, and of the last
held : (c : In_ok-push) → AreRising c.push.new.self.items
    × ((k : ℕ) → k ≤ c.args.len → knot_column 0 c.push.new.self.items k ≡ column_of c.args.switches.now c.args.layout.now k)
held c =
    let s = c.args.switches.now in
    let y = c.args.layout.now in
    let end = c.min-end.ensures in
    let size = c.shown_len.ensures in
    let parts = (c.in_ok-column.ensures {u = tt}) s (shown y) refl c.requires.whole (omega (arith, end, size)) in
    let line = line-held s c.parts.result.now y c.min-end.result c.push_parts.new.knots.items c.in_ok-column.column c.parts.ensures.sights c.requires.cut
    (omega (arith, end, size)) parts in
    let behind = (c.in_ok-column-2.ensures {u = tt}) (column_of s y) line (behind-even s y c.args.len c.min-end.result c.shown_len.result size end) in
    hold-last (column_of s y) c.push_even.new.knots.items c.push.new.self.items c.args.len c.in_ok-column-2.column behind (c.in_ok-push.ensures {u = tt}).items

pub returns-clause-rising : goal.returns-clause-rising
returns-clause-rising c = (held c).0

pub returns-clause-some : goal.returns-clause-some
returns-clause-some c = some-pushed c.push_even.new.knots.items c.push.new.self.items _ (c.in_ok-push.ensures {u = tt}).items

pub returns-clause-held : goal.returns-clause-held
returns-clause-held c = (held c).1
