use Rattle.std.proofs.Common.{◌∙◌, arith, rules}
use Rattle.ariadne_base.proofs.BlockMarks.{starts_below, plain_more, plain_block, plain_short}
use Rattle.ariadne_base.proofs.blocks.run.plain_bytes.Goals as goal

-- the run ends at the first mark of the block
pub returns-then-block-ne0-clause-plain : goal.returns-then-block-ne0-clause-plain
returns-then-block-ne0-clause-plain c =
    let bs = c.args.bytes.now in
    let at = c.loop-at.at in
    let first = c.lowest-first.result in
    let within = c.lowest-first.ensures.bound in
    let marks = c.block_at-block.ensures in
    plain_more bs at c.loop-at.chars c.block_at-block.result.separators first c.count_below.result c.loop-at.invariant
    marks.separators (omega arith) (omega arith) c.lowest-first.ensures.below
    (c.count_below.ensures ∙ starts_below bs at first c.block_at-block.result.starts (omega arith) marks.starts)

pub overflow_add-result-then-block-ne0 : goal.overflow_add-result-then-block-ne0
overflow_add-result-then-block-ne0 c =
    let run = returns-then-block-ne0-clause-plain c in
    let short = plain_short c.args.bytes.now _ _ run in
    search rules

-- a block without a mark belongs to the run
pub loop-at-preserved : goal.loop-at-preserved
loop-at-preserved c =
    let marks = c.block_at-block.ensures in
    plain_block c.args.bytes.now c.loop-at.at c.loop-at.chars c.block_at-block.result.separators c.block_at-block.result.starts
    c.loop-at.invariant marks.separators (omega arith) c.if-block-ne0.false marks.starts

pub overflow_add-chars : goal.overflow_add-chars
overflow_add-chars c =
    let short = plain_short c.args.bytes.now _ _ (loop-at-preserved c) in
    search rules
