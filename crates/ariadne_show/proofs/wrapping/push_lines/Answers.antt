use Rattle.std.proofs.Common.{◌≡◌, ◌∙◌, ◌++◌, ap, arith, lit<}
use Rattle.std.specs.Prelude.{string_bytes}
use Rattle.std.specs.Str.Iter.{split_steps}
use Rattle.std.specs.Str.Pattern.{FindsChar}
use Rattle.std.proofs.lemmas.Iterator.Splits.{YieldsList-from_str_split}
use Rattle.ariadne_show.specs.Wrapped.{lines_in, wrapped_lines}
use Rattle.ariadne_show.proofs.InRows.{first_line, left_first, left_next, left_none, line_more, lines_behind, no_lines}
use Rattle.ariadne_show.proofs.wrapping.push_lines.Goals as goal

-- the first line begins a row
pub loop-line-init : goal.loop-line-init
loop-line-init c =
    let width = c.args.width in
    let rows = string_bytes c.args.rows.now in
    let more = string_bytes c.push_words.new.rows in
    rw c.into_iter-line-iterator.ensures.into_iter_gives
    (left_first (split_steps FindsChar (λ a b. b ≡ a)) (λ x. x.now) lines_behind c.split-lines.result c.next.new.self
    c.in-Some.first width rows more (wrapped_lines width) (lines_in c.args.text.now)
    (YieldsList-from_str_split 10 c.args.text.now (lit< tt) c.split-lines.ensures.text c.split-lines.ensures.has_more
    c.split-lines.ensures.pattern)
    c.in-Some.ensures.steps
    (λ others. first_line width rows more c.in-Some.first.now others c.in_ok-push_words.ensures))

-- another begins the next
pub loop-line-preserved : goal.loop-line-preserved
loop-line-preserved c =
    let width = c.args.width in
    let rows = string_bytes c.loop-line.rows in
    let more = string_bytes c.push_words-in-loop-line.new.rows in
    left_next (split_steps FindsChar (λ a b. b ≡ a)) (λ x. x.now) lines_behind c.loop-line.line-iterator
    c.next-in-loop-line.new.self c.in-Some-line.line width width rows more _ c.loop-line.invariant c.in-Some-line.ensures.steps
    (λ others. line_more width rows (string_bytes c.push.new.self) more c.in-Some-line.line.now others
    (c.in_ok-push.ensures.bytes ∙ ap (λ t. rows ++ t) (c.in_ok-push.ensures.ascii (omega arith)))
    c.in_ok-push_words-2.ensures)

-- none is left
pub returns : goal.returns
returns c =
    left_none (split_steps FindsChar (λ a b. b ≡ a)) (λ x. x.now) lines_behind c.loop-line.line-iterator
    c.next-in-loop-line.new.self c.args.width (string_bytes c.loop-line.rows) _ c.loop-line.invariant c.in-None.ensures.steps
    (no_lines c.args.width)
