-- Each turn takes three words, and the last turn the last of them.
use Rattle.std.proofs.Common.{◌≡◌, ◌<◌, length, arith, tests, ap, ◌∙◌, refl, sym}
use Rattle.std.proofs.lemmas.List.{map-append}
use Rattle.std.specs.Prelude.{string_bytes, Some}
use Rattle.std.specs.Slice.Iter.{chunks_rest, chunks_size}
use Rattle.ariadne_commands.specs.ReadWords.{label_asking}
use Rattle.ariadne_commands.proofs.Threes.{few_ask, label_more, none_before, three_ask}
use Rattle.ariadne_commands.specs.Words.{label_of}
use Rattle.ariadne_commands.proofs.words.read_labels.Goals as goal
use Rattle.ariadne_commands.proofs.words.read_labels.Goals.{in_default-via-then-three-lt3, in_default-via-else-three-lt3+else-three-lt4}

pub loop-three-init : goal.loop-three-init
loop-three-init c = record {
  threes = ap chunks_size c.into_iter-three-iterator.ensures.into_iter_gives ∙ c.chunks-three-items.ensures.size;
  asked = rw (c.new-labels.ensures.items, c.into_iter-three-iterator.ensures.into_iter_gives, c.chunks-three-items.ensures.rest) (none_before _);
}

pub loop-three-preserved : goal.loop-three-preserved
loop-three-preserved c =
    let steps = c.in-Some.ensures.steps in
    let start = string_bytes c.start-item.result in
    let end = string_bytes c.end-item.result in
    let text = string_bytes c.text-item.result in
    let label : label_of start end text ≡ Some (label_asking c.in-Some-read_label.label) =
    sym (rw (c.as_str.ensures.value, c.as_str-in-loop-three.ensures.value, c.as_str-in-loop-three-2.ensures.value) at c.in-Some-read_label.ensures) in
    let taken = three_ask _ _ _ c.start-item.result c.end-item.result c.text-item.result c.in-len3.len_at_least c.in-len3.len_below
    c.start-item.is c.end-item.is c.text-item.is steps.1.0 in
    record {
      threes = steps.0 ∙ c.loop-three.invariant.threes;
      asked = c.loop-three.invariant.asked
          ∙ (rw (taken, label, c.in_ok-push.ensures.items, map-append) (label_more _ _ _));
    }

pub returns-in_default : goal.returns-in_default
returns-in_default c =
    let steps = c.in-Some.ensures.steps in
    let rest = chunks_rest c.loop-three.three-iterator in
    let threes : chunks_size c.loop-three.three-iterator ≡ 3 = c.loop-three.invariant.threes in
    let few : length rest < 3 = elim c.in_default.branch [
      | in_default-via-then-three-lt3 w ↦ grind (arith, tests, steps.1.1, steps.1.2)
      | in_default-via-else-three-lt3+else-three-lt4 w ↦ grind (arith, tests, steps.1.1, steps.1.2)
    ] in
    c.loop-three.invariant.asked ∙ (rw (few_ask rest steps.1.2 few) refl)
