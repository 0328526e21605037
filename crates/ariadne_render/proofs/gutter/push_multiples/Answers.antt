use Rattle.std.proofs.Common.{◌≡◌, ℕ, ◌+◌, ◌*◌, ◌++◌, ◌∷◌, [], ◌∙◌, ap, sym, arith, append_assoc, map}
use Rattle.std.proofs.lemmas.List.FromFn.{map-range_with_len_more}
use Rattle.ariadne_base.specs.Locations.{upto}
use Rattle.ariadne_render.proofs.gutter.push_multiples.Goals as goal

-- a turn writes one multiple more
pub loop-k-preserved : goal.loop-k-preserved
loop-k-preserved c =
    let k = c.loop-k.k in
    let old = c.args.out.now.items in
    let f : ℕ → ℕ = λ j. j * c.args.number in
    let z : 0 + k ≡ k = omega arith in
    record {
      items = c.push_reserved.ensures.items ∙ ap (λ t. t ++ f k ∷ []) c.loop-k.invariant.items
          ∙ append_assoc old (map f (upto k)) (f k ∷ []) ∙ ap (λ t. old ++ t) (sym (map-range_with_len_more f 0 k k z));
      len = omega (arith, c.push_reserved.ensures.len);
      room = omega (arith, c.push_reserved.ensures.capacity);
    }
