use Rattle.std.proofs.Common.{arith, refl}
use Rattle.ariadne_report.proofs.Judging.{so_far_start}
use Rattle.ariadne_report.proofs.accept.accept.Goals as goal

-- before the first label nothing was fetched
pub loop-position-init : goal.loop-position-init
loop-position-init g c = record {
  within = omega arith;
  again = c.requires;
  naming = λ q. refl;
  grows = record { kept = λ q h. refl; only = λ q h. refl };
  so_far = rw (c.in_ok-infos.ensures.items, c.new-left_out.ensures.items) (so_far_start _ _ _ _ c.args.report.now.labels);
}
