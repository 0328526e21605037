use Rattle.std.proofs.Common.{◌≡◌, ◌∙◌, sym, lit<}
use Rattle.std.specs.Str.Iter.{split_steps}
use Rattle.std.specs.Str.Pattern.{FindsChar}
use Rattle.std.proofs.lemmas.Iterator.Splits.{YieldsList-from_str_split}
use Rattle.ariadne_outputs.proofs.Numbers.{kept_end, left_all, left_next, not_kept}
use Rattle.ariadne_outputs.proofs.sequence.are_kept.Goals as goal

-- all parts are left at first
pub loop-part-init : goal.loop-part-init
loop-part-init c =
    left_all (split_steps FindsChar (λ a b. b ≡ a)) (λ x. x.now) c.into_iter-part-iterator.result c.args.parameters.now
    (rw c.into_iter-part-iterator.ensures.into_iter_gives
    (YieldsList-from_str_split 59 c.args.parameters.now (lit< tt) c.split-part-items.ensures.text
    c.split-part-items.ensures.has_more c.split-part-items.ensures.pattern))

-- one more is kept
pub loop-part-preserved : goal.loop-part-preserved
loop-part-preserved c =
    left_next (split_steps FindsChar (λ a b. b ≡ a)) (λ x. x.now) c.loop-part.part-iterator c.next.new.self c.in-Some.part
    c.args.parameters.now c.loop-part.awaited c.loop-part.invariant c.in-Some.ensures.steps c.in-Some-behind_part.next
    (sym c.in-Some-behind_part.ensures)

-- one is not
pub returns-in-None-behind_part : goal.returns-in-None-behind_part
returns-in-None-behind_part c =
    sym (not_kept (split_steps FindsChar (λ a b. b ≡ a)) (λ x. x.now) c.loop-part.part-iterator c.next.new.self c.in-Some.part
    c.args.parameters.now c.loop-part.awaited c.loop-part.invariant c.in-Some.ensures.steps
    (sym c.in-None-behind_part.ensures))

-- all are
pub returns : goal.returns
returns c =
    c.is_whole.ensures ∙ sym (kept_end (split_steps FindsChar (λ a b. b ≡ a)) (λ x. x.now) c.loop-part.part-iterator
    c.next.new.self c.args.parameters.now c.loop-part.awaited c.loop-part.invariant c.in-None.ensures.steps)
