use Rattle.std.proofs.Common.{◌∙◌, subst, sym}
use Rattle.std.proofs.lemmas.Result.{on_ok_weaker}
use Rattle.ariadne_layout.specs.Tables.{AreColumns}
use Rattle.ariadne_layout.proofs.ColumnLists.{columns-plain}
use Rattle.ariadne_layout.proofs.CutColumns.{list-held}
use Rattle.ariadne_layout.proofs.Knots.{rising-none}
use Rattle.ariadne_layout.proofs.line_columns.LineColumns.fill.Goals as goal

-- no knots are held
pub invariant_of-self : goal.invariant_of-self
invariant_of-self c = (rising-none c.clear-2.new.self.items c.clear-2.ensures.items, λ some. c.clear-2.ensures.items)

pub invariant_of-self-then-len-ge-TOO_MANY : goal.invariant_of-self-then-len-ge-TOO_MANY
invariant_of-self-then-len-ge-TOO_MANY c = (rising-none c.clear-2.new.self.items c.clear-2.ensures.items, λ some. c.clear-2.ensures.items)

pub invariant_of-self-then-is_cut : goal.invariant_of-self-then-is_cut
invariant_of-self-then-is_cut c = (rising-none c.clear-2.new.self.items c.clear-2.ensures.items, λ some. c.clear-2.ensures.items)

pub invariant_of-self-else-is_cut : goal.invariant_of-self-else-is_cut
invariant_of-self-else-is_cut c = (rising-none c.clear-2.new.self.items c.clear-2.ensures.items, λ some. c.clear-2.ensures.items)

-- on a plain line each place is its column
pub returns-then-is_even : goal.returns-then-is_even
returns-then-is_even c =
    let s = c.args.switches.now in
    let y = c.args.layout.now in
    subst (AreColumns s y c.args.len)
    (sym (list-held c.clear.new.self.items c.clear-2.new.self.items c.self.inside.len c.clear-2.ensures.items ∙ c.clear.ensures.items))
    (columns-plain s y c.args.len (c.is_even.ensures.whole c.if-is_even.true) (c.is_even.ensures.plain c.if-is_even.true))

-- on another that is shown whole they are listed
pub returns-else-is_cut : goal.returns-else-is_cut
returns-else-is_cut c =
    let s = c.args.switches.now in
    let y = c.args.layout.now in
    on_ok_weaker c.push_list.result
    (λ columns. subst (AreColumns s y c.args.len)
    (sym (list-held c.push_list.new.list.items c.clear-2.new.self.items c.self.inside.len c.clear-2.ensures.items)) columns)
    c.push_list.ensures
