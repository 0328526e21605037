use Rattle.std.proofs.Common.{◌≡◌, ◌∙◌, ◌&&◌, sym, false, string_bytes}
use Rattle.std.proofs.lemmas.Bool.{and_from, and_left, and_right}
use Rattle.ariadne_outputs.specs.SequenceViews.{sequence_of}
use Rattle.ariadne_outputs.specs.Sequences.{is_kept}
use Rattle.ariadne_outputs.proofs.Passed.{dropped_passed, kept_result, none_passed}
use Rattle.ariadne_outputs.proofs.passing.push_part.Goals as goal
use Rattle.ariadne_outputs.proofs.passing.push_part.Goals.{then-colors+else-is_kept, else-colors}

-- a sequence that is kept
pub returns-in-Some : goal.returns-in-Some
returns-in-Some c =
    let s = sequence_of c.in-Some.sequence in
    kept_result c.args.colors c.args.part.now s c.args.is_painted (string_bytes c.args.shown.now)
    (string_bytes c.push_kept.new.shown) c.push_kept.result c.utf8.part (sym c.in-Some.ensures)
    (and_from c.args.colors (is_kept s) c.if-colors.true (sym c.if-is_kept.ensures)) c.push_kept.ensures.bytes
    c.push_kept.ensures.painted

-- one that is dropped
pub returns-in_ok-push_visible-in-Some-2 : goal.returns-in_ok-push_visible-in-Some-2
returns-in_ok-push_visible-in-Some-2 c =
    let s = sequence_of c.in-Some.sequence in
    let dropped : (c.args.colors && is_kept s) ≡ false =
    elim c.if-colors.branch [
      | then-colors+else-is_kept w ↦
          and_right c.args.colors (is_kept s) (sym w.is_kept.ensures ∙ w.if-is_kept.false)
      | else-colors w ↦ and_left c.args.colors (is_kept s) w.if-colors.false
    ] in
    dropped_passed c.args.colors c.args.part.now s c.utf8.part (sym c.in-Some.ensures) c.args.is_painted
    (string_bytes c.args.shown.now) (string_bytes c.push_visible.new.shown) dropped c.in_ok-push_visible-in-Some-2.ensures

-- none
pub returns-in_ok-push_other-in-None : goal.returns-in_ok-push_other-in-None
returns-in_ok-push_other-in-None c =
    none_passed c.args.colors c.args.part.now c.args.is_painted (string_bytes c.args.shown.now)
    (string_bytes c.push_other.new.shown) c.utf8.part (sym c.in-None.ensures) c.in_ok-push_other-in-None.ensures
