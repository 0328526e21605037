-- so far the first multiples are written, and there is room for the others
use Rattle.std.proofs.Common.{◌≡◌, ◌+◌, ◌*◌, ◌≤◌, ◌++◌, map, vec_len, vec_capacity}
use Rattle.ariadne_base.specs.Locations.{upto}
use Rattle.ariadne_render.proofs.gutter.push_multiples.Given as goal

abbrev pub invariant-loop-k : goal.invariant-loop-k
invariant-loop-k l = record {
  items : l.out.items ≡ l.fn.out.items ++ map (λ k. k * l.number) (upto l.k);
  len : vec_len l.out ≡ vec_len l.fn.out + l.k;
  room : vec_capacity l.fn.out ≤ vec_capacity l.out;
}
