use Rattle.std.proofs.Common.{sym, ◌∙◌, true, false, add-zero, get_or, arith}
use Rattle.ariadne_base.proofs.CharStarts.{starts_low, count-le}
use Rattle.ariadne_base.proofs.BlockMarks.{printable_apart, plain_byte}
use Rattle.ariadne_base.proofs.blocks.run.plain_bytes_from.Goals as goal
use Rattle.ariadne_base.proofs.blocks.run.plain_bytes_from.Goals.{then-is_printable_ascii, else-is_printable_ascii+else-begins_at+then-begins_char, else-is_printable_ascii+else-begins_at+else-begins_char}

-- each byte but a separator's first belongs to the run
pub loop-at-preserved : goal.loop-at-preserved
loop-at-preserved c =
    let bs = c.args.bytes.now in
    let at = c.loop-at.at in
    let run = c.loop-at.invariant in
    let within = c.loop-at-test.true in
    elim c.if-is_printable_ascii.branch [
      | then-is_printable_ascii w ↦
          let range = c.is_printable_ascii.ensures.0 w.if-is_printable_ascii.true in
          rw w.chars-is (plain_byte bs at c.loop-at.chars true run within
          (printable_apart (get_or bs at 0) _ _ range.0 range.1) (starts_low (get_or bs at 0) (omega arith)))
      | else-is_printable_ascii+else-begins_at+then-begins_char w ↦
          rw w.chars-is (plain_byte bs at c.loop-at.chars true run within
          (sym w.begins_at.ensures ∙ w.if-begins_at.false) (sym w.begins_char.ensures ∙ w.if-begins_char.true))
      | else-is_printable_ascii+else-begins_at+else-begins_char w ↦
          rw (w.chars-is, ← add-zero c.loop-at.chars) (plain_byte bs at c.loop-at.chars false run within
          (sym w.begins_at.ensures ∙ w.if-begins_at.false) (sym w.begins_char.ensures ∙ w.if-begins_char.false))
    ]

-- at most as many characters begin as bytes were passed
pub overflow_add-chars : goal.overflow_add-chars
overflow_add-chars c =
    let run = c.loop-at.invariant in omega (arith, count-le c.args.bytes.now c.loop-at.at run.fits, run.count)

pub overflow_add-chars-then-begins_char : goal.overflow_add-chars-then-begins_char
overflow_add-chars-then-begins_char c =
    let run = c.loop-at.invariant in omega (arith, count-le c.args.bytes.now c.loop-at.at run.fits, run.count)

-- the run ends at a separator, or with the text
pub returns-then-begins_at-clause-end : goal.returns-then-begins_at-clause-end
returns-then-begins_at-clause-end c = λ _. sym c.begins_at.ensures ∙ c.if-begins_at.true

pub returns-after-loop-at-clause-end : goal.returns-after-loop-at-clause-end
returns-after-loop-at-clause-end c = λ l. absurd (omega arith)
