use Rattle.std.proofs.Common.{rules, ◌≡◌, ◌++◌, ◌-◌, ◌*◌, ◌≤◌, ◌∙◌, ap, arith, encode_utf8, length, string_bytes, take}
use Rattle.std.proofs.lemmas.Str.{IsUtf8-encode}
use Rattle.ariadne_picture.specs.Pieces.{repeated}
use Rattle.ariadne_render.proofs.Copies.{length-copy, repeats_slice, IsCharBoundary-repeated, take-repeated}
use Rattle.ariadne_render.proofs.runs.push_repeated.Goals as goal

-- a turn writes 128 of those that are left
pub loop-left-preserved : goal.loop-left-preserved
loop-left-preserved c =
    let old = string_bytes c.args.out.now in
    let text = encode_utf8 c.args.c in
    let more = repeats_slice old (string_bytes c.loop-left.out) text c.args.count c.loop-left.left 128 c.loop-left.invariant (omega arith) in
    ap (λ t. t ++ repeated (c.loop-left.left - 128) text) (c.in_ok-push_str.ensures.bytes ∙ ap (λ t. string_bytes c.loop-left.out ++ t) c.in-Some.ensures) ∙ more

-- the slice ends behind a copy
pub range-requires-clause-end_boundary : goal.range-requires-clause-end_boundary
range-requires-clause-end_boundary c =
    let text = encode_utf8 c.args.c in
    let few : c.loop-left.left ≤ 128 = omega arith in
    let size = length-copy 128 text _ c.in-Some.ensures (omega arith) in
    rw (size, c.in-Some.ensures) (IsCharBoundary-repeated c.loop-left.left 128 text few (IsUtf8-encode c.args.c c.ranges.c.0))

-- the slice is what is left
pub returns : goal.returns
returns c =
    let text = encode_utf8 c.args.c in
    let left = c.loop-left.left in
    let few : left ≤ 128 = omega arith in
    let size = length-copy 128 text _ c.in-Some.ensures (omega arith) in
    let start : left * length text - 0 ≡ left * length text = omega arith in
    let slice : c.range.result.now ≡ repeated left text =
    rw (c.range.ensures.value, size, c.in-Some.ensures) (ap (λ n. take n (repeated 128 text)) start ∙ take-repeated left 128 text few) in
    rw (← c.loop-left.invariant, ← slice) (search rules)
