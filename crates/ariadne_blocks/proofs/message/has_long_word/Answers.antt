use Rattle.std.proofs.Common.{◌≡◌}
use Rattle.std.specs.Prelude.{false, not, ◌&&◌, ◌==◌, if◌then◌else◌}
use Rattle.std.specs.Str.Iter.{chars_rest}
use Rattle.ariadne_blocks.proofs.Words.{blank_ends, flips, keeps, missing_all, missing_end, missing_first, missing_next, other_goes, quoted_goes}
use Rattle.ariadne_blocks.proofs.message.has_long_word.Goals as goal
use Rattle.ariadne_blocks.proofs.message.has_long_word.Goals.{else-character-eq32-via-then-character-eq32+else-not-is_quoted, else-character-eq32-via-else-character-eq32, then-character-eq34, else-character-eq34}

-- nothing was read yet
pub loop-character-init : goal.loop-character-init
loop-character-init c =
    rw (c.into_iter-character-iterator.ensures.into_iter_gives, c.chars-character-items.ensures.rest)
    (missing_first c.args.text.now c.args.least c.utf8.text)

-- a character more was
pub loop-character-preserved : goal.loop-character-preserved
loop-character-preserved c =
    let q = c.loop-character.is_quoted in
    let ch = c.in-Some.character in
    let goes : (ch == 32 && not q) ≡ false =
    elim c.else-character-eq32.branch [
      | else-character-eq32-via-then-character-eq32+else-not-is_quoted w ↦ quoted_goes ch q w.if-not-is_quoted.false
      | else-character-eq32-via-else-character-eq32 w ↦ other_goes ch q w.if-character-eq32.false
    ]
    in
    let now : c.if-character-eq34.is_quoted ≡ (if ch == 34 then not q else q) =
    elim c.if-character-eq34.branch [
      | then-character-eq34 w ↦ flips ch q c.if-character-eq34.is_quoted w.is_quoted-is w.if-character-eq34.true
      | else-character-eq34 w ↦ keeps ch q c.if-character-eq34.is_quoted w.is_quoted-is w.if-character-eq34.false
    ]
    in
    rw c.saturating_sub-missing.ensures
    (missing_next c.args.text.now (chars_rest c.loop-character.character-iterator) (chars_rest c.next.new.self) c.args.least
    c.loop-character.missing ch q c.if-character-eq34.is_quoted c.loop-character.invariant c.in-Some.ensures.steps.0 goes now)

-- a blank outside of quotes ends it
pub returns-then-not-is_quoted : goal.returns-then-not-is_quoted
returns-then-not-is_quoted c =
    missing_end c.args.text.now (chars_rest c.loop-character.character-iterator) (chars_rest c.next.new.self) c.args.least
    c.loop-character.missing c.in-Some.character c.loop-character.is_quoted c.loop-character.invariant
    c.in-Some.ensures.steps.0
    (blank_ends c.in-Some.character c.loop-character.is_quoted c.if-character-eq32.true c.if-not-is_quoted.true)

-- or the text does
pub returns : goal.returns
returns c =
    missing_all c.args.text.now (chars_rest c.loop-character.character-iterator) c.args.least c.loop-character.missing
    c.loop-character.is_quoted c.loop-character.invariant c.in-None.ensures.steps.0.0
