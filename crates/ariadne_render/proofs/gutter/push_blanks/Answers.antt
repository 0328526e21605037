use Rattle.std.proofs.Common.{◌++◌, ◌∙◌, ap, lit<, length, string_bytes, arith}
use Rattle.ariadne_render.proofs.GutterBytes.{blanks-none, blanks-more}
use Rattle.ariadne_render.proofs.gutter.push_blanks.Goals as goal

-- no blank is written yet
pub loop-turn-init : goal.loop-turn-init
loop-turn-init c = record { bytes = blanks-none _; len = omega arith; room = omega arith }

-- a turn writes one blank more
pub loop-turn-preserved : goal.loop-turn-preserved
loop-turn-preserved c =
    let one = c.in_ok-push.ensures.ascii (lit< tt) in
    record {
      bytes = c.in_ok-push.ensures.bytes ∙ ap (λ t. string_bytes c.loop-turn.out ++ t) one
          ∙ blanks-more (string_bytes c.args.out.now) (string_bytes c.loop-turn.out) c.loop-turn._turn c.loop-turn.invariant.bytes;
      len = let e = ap length one in omega (arith, c.in_ok-push.ensures.len);
      room = omega (arith, c.in_ok-push.ensures.capacity);
    }
