use Rattle.std.proofs.Common.{take, drop, ap, ◌∙◌, arith}
use Rattle.std.specs.Fmt.{is_char_start}
use Rattle.std.specs.Int.RustNames.{count_ones}
use Rattle.std.proofs.lemmas.Simd.{ones-mask_l}
use Rattle.ariadne_base.proofs.CharStarts.{count_more}
use Rattle.ariadne_base.proofs.blocks.place.place_of.Goals as goal

-- a block is passed where it has no more characters than are left
pub loop-at-preserved : goal.loop-at-preserved
loop-at-preserved c =
    let bs = c.args.bytes.now in
    let at = c.loop-at.at in
    let run = c.loop-at.invariant in
    record {
      fits = omega arith;
      few = omega arith;
      count = count_more bs at 64 c.loop-at.count _ run.count (ap count_ones c.starts.ensures ∙ ones-mask_l is_char_start (take 64 (drop at bs)));
    }
