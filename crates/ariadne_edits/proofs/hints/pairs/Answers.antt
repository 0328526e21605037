use Rattle.std.proofs.Common.{◌≡◌, ◌∙◌, ◌++◌, ◌<◌, ℕ, List, ap, sym, refl, subst, length, arith}
use Rattle.std.specs.Str.{chars, IsUtf8}
use Rattle.std.specs.List.{AllByRecursion}
use Rattle.ariadne_base.specs.Lines.{lines_of}
use Rattle.ariadne_base.specs.Listing.{listed_lines}
use Rattle.ariadne_base.specs.Locations.{byte_len}
use Rattle.ariadne_base.proofs.LocationLemmas.{offset_none}
use Rattle.ariadne_edits.specs.KeptLines.{IsPaired}
use Rattle.ariadne_edits.specs.Stays.{AreStays, first_pairs, from_reaching, IsInside, pairs_in}
use Rattle.ariadne_edits.proofs.Untouched.{all_inside, first_pairs_more, next_offset, next_within, reach_on, untouched_paired}
use Rattle.ariadne_edits.proofs.hints.pairs.Goals as goal

pub loop-i-init : goal.loop-i-init
loop-i-init c = (sym (offset_none byte_len (listed_lines c.args.old.now)), (λ b h. refl), c.new-pairs.ensures.items)

-- what is left of the pieces lies within the edited text
pub push_pairs-requires-clause-inside : goal.push_pairs-requires-clause-inside
push_pairs-requires-clause-inside c =
    let pieces : AreStays (length c.text.result.now) (length c.text-2.result.now) 0 0 0 0 c.args.changes.now c.in_ok-stays.stays.items = c.in_ok-stays.ensures.are in
    subst (AllByRecursion (IsInside (length c.args.new.now.text) c.loop-i.begin))
    (sym (c.reaching-rest.ensures ∙ c.loop-i.invariant.1 c.loop-i.begin (omega arith) ∙ ap (from_reaching c.loop-i.begin) c.as_slice-rest.ensures.value))
    (subst (λ n. AllByRecursion (IsInside n c.loop-i.begin) (from_reaching c.loop-i.begin c.in_ok-stays.stays.items)) (ap length c.text-2.ensures)
    (all_inside (length c.text.result.now) (length c.text-2.result.now) c.loop-i.begin c.args.changes.now c.in_ok-stays.stays.items pieces))

pub overflow_add-begin : goal.overflow_add-begin
overflow_add-begin c =
    let text : List ℕ = c.args.old.now.text in
    let there : c.loop-i.i < length (lines_of (chars text)) = omega (arith, c.loop-i-test.true, c.len-i-end.ensures.value, c.lines.ensures.number) in
    let next = next_offset text c.text_of.result.now c.loop-i.i c.loop-i.begin c.text_of.utf8 there c.loop-i.invariant.0 c.text_of.ensures in
    let within = next_within text c.loop-i.i (subst IsUtf8 c.text.ensures c.text.utf8) there in
    omega (arith, next, within, c.in_ok-stays.ensures.fits, ap length c.text.ensures)

-- a line more
pub loop-i-preserved : goal.loop-i-preserved
loop-i-preserved c =
    let text : List ℕ = c.args.old.now.text in
    let old = listed_lines c.args.old.now in
    let new = listed_lines c.args.new.now in
    let stays = c.as_slice-rest.result.now in
    let there : c.loop-i.i < length (lines_of (chars text)) = omega (arith, c.loop-i-test.true, c.len-i-end.ensures.value, c.lines.ensures.number) in
    let left : c.reaching-rest.result.now ≡ from_reaching c.loop-i.begin stays = c.reaching-rest.ensures ∙ c.loop-i.invariant.1 c.loop-i.begin (omega arith) in
    let next = next_offset text c.text_of.result.now c.loop-i.i c.loop-i.begin c.text_of.utf8 there c.loop-i.invariant.0 c.text_of.ensures in (
      next,
      (λ b h. ap (from_reaching b) left ∙ reach_on c.loop-i.begin b stays (omega (arith, h))),
      c.in_ok-push_pairs.ensures
          ∙ ap (λ ps. ps ++ pairs_in new c.loop-i.i c.loop-i.begin c.reaching-rest.result.now) c.loop-i.invariant.2
          ∙ sym (first_pairs_more old new stays c.loop-i.i c.loop-i.begin c.reaching-rest.result.now c.loop-i.invariant.0 left),
    )

-- the pairs of all lines
pub returns : goal.returns
returns c = λ i clear.
    let text : List ℕ = c.args.old.now.text in
    let after : List ℕ = c.args.new.now.text in
    let old = lines_of (chars text) in
    let new = lines_of (chars after) in
    let stays = c.in_ok-stays.stays.items in
    let all : c.loop-i.i ≡ length old = omega (arith, c.loop-i-test.false, c.loop-i.auto.i-end, c.len-i-end.ensures.value, c.lines.ensures.number) in
    let pieces : AreStays (length c.text.result.now) (length c.text-2.result.now) 0 0 0 0 c.args.changes.now stays = c.in_ok-stays.ensures.are in
    let pieces_here : AreStays (length text) (length after) 0 0 0 0 c.args.changes.now stays =
    subst (λ n. AreStays n (length after) 0 0 0 0 c.args.changes.now stays) (ap length c.text.ensures)
    (subst (λ n. AreStays (length c.text.result.now) n 0 0 0 0 c.args.changes.now stays) (ap length c.text-2.ensures) pieces) in
    let found = untouched_paired text after (subst IsUtf8 c.text.ensures c.text.utf8) (subst IsUtf8 c.text-2.ensures c.text-2.utf8) c.args.changes.now stays c.requires.fit
    c.requires.edited pieces_here i clear in
    let same : c.loop-i.pairs.items ≡ first_pairs old new stays (length old) =
    c.loop-i.invariant.2 ∙ ap (λ ss. first_pairs old new ss c.loop-i.i) c.as_slice-rest.ensures.value ∙ ap (first_pairs old new stays) all in
    subst (λ ps. IsPaired old new ps i) (sym same) found
