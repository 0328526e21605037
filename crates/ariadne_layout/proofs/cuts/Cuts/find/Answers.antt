use Rattle.std.proofs.Common.{◌≡◌, ◌∙◌, ◌++◌, length, option_to_list, sym, ap, subst, arith}
use Rattle.std.specs.List.Sorted.{IsPermutation}
use Rattle.ariadne_picture.specs.Columns.{context, needed_parts, shown, whole_column}
use Rattle.ariadne_layout.specs.declared.cuts.Cuts.{Cuts}
use Rattle.ariadne_layout.specs.Tables.{AreWholeColumns, column_in}
use Rattle.ariadne_layout.proofs.CutParts.{not-wide, too-wide, whole-listed}
use Rattle.ariadne_layout.proofs.JoinedParts.{cut-found, needed-more, none-apart}
use Rattle.ariadne_layout.proofs.cuts.Cuts.find.Goals as goal
use Rattle.ariadne_layout.proofs.cuts.Cuts.find.Goals.{After-column, After-widen}

-- the columns of the whole line
column : (c : After-column) → c.column.result ≡ whole_column c.args.switches.now.tab_width (shown c.args.layout.now) (length (shown c.args.layout.now))
column c =
    c.column.ensures ∙ ap (column_in c.fill.new.self) c.shown_len-len.ensures ∙ c.in_ok-fill.ensures {u = tt} (length (shown c.args.layout.now)) (omega arith)

-- nothing is cut where it has no more than are asked for
pub returns-then-column-switches-clause-apart : goal.returns-then-column-switches-clause-apart
returns-then-column-switches-clause-apart c = none-apart c.clear.new.self.items c.clear.ensures.items

pub returns-then-column-switches-clause-sights : goal.returns-then-column-switches-clause-sights
returns-then-column-switches-clause-sights c =
    let y = c.args.layout.now in
    let s = c.args.switches.now in
    let b = (goal.at.returns-then-column-switches-clause-sights c).After-column in
    whole-listed s y.offset (option_to_list y.margin ++ y.labels) (shown y) c.clear.new.self.items
    (not-wide s (shown y) c.column.result c.if-column-switches.true (column b)) c.clear.ensures.items

-- the columns that the parts are widened by
held : (c : After-widen) → AreWholeColumns c.args.switches.now.tab_width (shown c.args.layout.now) c.context.new.self.columns
held c =
    subst (AreWholeColumns c.args.switches.now.tab_width (shown c.args.layout.now))
    (sym (ap (λ (q : Cuts). q.columns) c.in_ok-context.ensures.others ∙ c.in_ok-find_needed.ensures.columns)) (c.in_ok-fill.ensures {u = tt})

-- another line has parts that stand apart
pub returns-clause-apart : goal.returns-clause-apart
returns-clause-apart c =
    let b = (goal.at.returns-clause-apart c).After-widen in
    c.widen.ensures.apart c.args.switches.now.tab_width (shown c.args.layout.now) (held b) (sym c.shown_len-len.ensures)

-- those that have to be shown, with as many places more as fit
pub returns-clause-sights : goal.returns-clause-sights
returns-clause-sights c =
    let b = (goal.at.returns-clause-sights c).After-widen in
    let y = c.args.layout.now in
    let s = c.args.switches.now in
    let text = shown y in
    let labels = option_to_list y.margin ++ y.labels in
    let size = sym c.shown_len-len.ensures in
    let e : c.deref.result.now ≡ c.find_needed.new.self.needed.items = c.deref.ensures.value ∙ ap (λ (q : Cuts). q.needed.items) c.in_ok-context.ensures.others in
    let same : IsPermutation (needed_parts s y.offset labels text) c.deref.result.now =
    subst (λ ps. IsPermutation (needed_parts s y.offset labels text) ps) (sym e) c.in_ok-find_needed.ensures.needed in
    let counted : AreWholeColumns s.tab_width text c.find_needed.new.self.columns =
    subst (AreWholeColumns s.tab_width text) (sym c.in_ok-find_needed.ensures.columns) (c.in_ok-fill.ensures {u = tt}) in
    let more = c.in_ok-context.ensures.context text counted size ∙ ap (context s text) (sym e) in
    cut-found c.widen.result s y.offset labels text c.deref.result.now c.widen.new.list.items c.in_ok-context.context
    (too-wide s text c.column.result c.requires.asked c.if-column-switches.false (column (goal.at.returns-clause-sights c).After-column))
    same more (c.widen.ensures.alike s.tab_width text (held b) size)
    (c.widen.ensures.some (needed-more s y.offset labels text c.deref.result.now same))
