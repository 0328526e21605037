use Rattle.std.proofs.Common.{◌≡◌, ◌∙◌, ap, arith, lit<, refl, sym}
use Rattle.std.proofs.lemmas.Bool.{lt-leb}
use Rattle.std.specs.Prelude.{nat_le}
use Rattle.std.specs.Str.Iter.{split_steps}
use Rattle.std.specs.Str.Pattern.{FindsChar}
use Rattle.std.proofs.lemmas.Iterator.Splits.{YieldsList-from_str_split}
use Rattle.ariadne_show.specs.Wrapped.{is_within, lines_in}
use Rattle.ariadne_show.proofs.InRows.{hangs_next, hangs_no_more, hangs_none, le_true}
use Rattle.ariadne_show.proofs.wrapping.are_within.Goals as goal

-- all rows are left at first
pub loop-row-init : goal.loop-row-init
loop-row-init c =
    rw c.into_iter-row-iterator.ensures.into_iter_gives (record {
      items = lines_in c.args.rows.now;
      left = YieldsList-from_str_split 10 c.args.rows.now (lit< tt) c.split-row-items.ensures.text
          c.split-row-items.ensures.has_more c.split-row-items.ensures.pattern;
      same = refl;
    })

-- one is wider
pub returns-then-branch-width : goal.returns-then-branch-width
returns-then-branch-width c =
    hangs_no_more (split_steps FindsChar (λ a b. b ≡ a)) (λ x. x.now) (is_within c.args.width) c.loop-row.row-iterator
    c.next.new.self c.in-Some.row _ c.loop-row.invariant c.in-Some.ensures.steps
    (ap (λ n. nat_le n c.args.width) (sym c.in_ok-columns_of.ensures)
    ∙ lt-leb c.in_ok-columns_of.field-0 c.args.width c.if-branch-width.true)

-- one is not
pub loop-row-preserved : goal.loop-row-preserved
loop-row-preserved c =
    hangs_next (split_steps FindsChar (λ a b. b ≡ a)) (λ x. x.now) (is_within c.args.width) c.loop-row.row-iterator
    c.next.new.self c.in-Some.row _ c.loop-row.invariant c.in-Some.ensures.steps
    (ap (λ n. nat_le n c.args.width) (sym c.in_ok-columns_of.ensures)
    ∙ le_true c.in_ok-columns_of.field-0 c.args.width (omega (arith, c.if-branch-width.false)))

-- none is left
pub returns : goal.returns
returns c =
    hangs_none (split_steps FindsChar (λ a b. b ≡ a)) (λ x. x.now) (is_within c.args.width) c.loop-row.row-iterator
    c.next.new.self _ c.loop-row.invariant c.in-None.ensures.steps
