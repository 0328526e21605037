use Rattle.std.proofs.Common.{◌≡◌, ◌+◌, rules}
use Rattle.ariadne_layout.proofs.Knots.{hold-place}
use Rattle.ariadne_layout.proofs.line_columns.push_place.Goals as goal

-- the place is held
pub returns : goal.returns
returns c = λ f a held up flat more.
    let next : c.in_ok-next.next ≡ c.args.column + c.args.width = search rules in
    hold-place f c.args.knots.now.items c.push.new.self.items a c.args.place c.args.column c.args.width c.in_ok-next.next held up flat more
    (c.in_ok-push.ensures {u = tt}).items next
