use Rattle.std.proofs.Common.{◌+◌, ap, ◌∙◌, take, drop, arith, rules}
use Rattle.std.proofs.lemmas.List.{take_rest}
use Rattle.std.specs.Fmt.{is_char_start}
use Rattle.std.specs.List.{count_by}
use Rattle.std.specs.Int.RustNames.{count_ones}
use Rattle.std.proofs.lemmas.Simd.{ones-mask_l}
use Rattle.ariadne_base.proofs.CharStarts.{count_more, count-le, count_rest}
use Rattle.ariadne_base.proofs.blocks.count.count_starts.Goals as goal

-- a block's marks are its characters
pub overflow_add-count : goal.overflow_add-count
overflow_add-count c =
    let bs = c.args.bytes.now in
    let at = c.loop-at.at in
    let more = count_more bs at 64 c.loop-at.count _ c.loop-at.invariant.1
    (ap count_ones c.starts.ensures ∙ ones-mask_l is_char_start (take 64 (drop at bs))) in
    let below = count-le bs (at + 64) (omega arith) in
    search rules

pub loop-at-preserved : goal.loop-at-preserved
loop-at-preserved c =
    let bs = c.args.bytes.now in
    let at = c.loop-at.at in (
      omega arith,
      count_more bs at 64 c.loop-at.count _ c.loop-at.invariant.1
          (ap count_ones c.starts.ensures ∙ ones-mask_l is_char_start (take 64 (drop at bs))),
    )

pub returns : goal.returns
returns c = count_rest c.args.bytes.now c.loop-at.at _ _ c.loop-at.invariant.1
    (c.count_starts_plain.ensures ∙ ap (count_by is_char_start) (take_rest c.args.bytes.now c.loop-at.at))
