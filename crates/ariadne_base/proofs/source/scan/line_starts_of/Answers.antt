use Rattle.std.proofs.Common.{◌≡◌, ◌+◌, sym, ap, ◌∙◌, inl, inr, ◌⊎◌, ◌<◌, length, arith, length-append}
use Rattle.std.specs.Str.{chars}
use Rattle.std.proofs.lemmas.Str.{length-encode, len_utf8_bounds}
use Rattle.ariadne_base.specs.Lines.{ends_line}
use Rattle.ariadne_base.proofs.Scanning.{IsScanned, scan_start, scan_closed, scan_open, scan_jump, scan_whole, scan_last}
use Rattle.ariadne_base.proofs.source.scan.line_starts_of.Goals as goal
use Rattle.ariadne_base.proofs.source.scan.line_starts_of.Goals.{then-begun-at+in_ok-push-3, then-begun-at-via-then-begun-at}
use Rattle.ariadne_base.proofs.source.scan.line_starts_of.Goals.{then-begun-at-via-else-begun-at+then-len-eq1, else-begun-at+else-len-eq1}

-- nothing is scanned yet
pub loop-c-init : goal.loop-c-init
loop-c-init c = rw (c.chars-rest.ensures.rest, c.in_ok-push.ensures.items, c.in_ok-starts.ensures.items) (scan_start _ c.utf8.text)

-- at most as many characters are passed as the text has bytes
pub overflow_add-at : goal.overflow_add-at
overflow_add-at c = omega (arith, c.loop-c.invariant.count)

-- each turn takes the bytes of a character, at least one, from the rest
pub overflow_sub-text : goal.overflow_sub-text
overflow_sub-text c =
    omega (arith, ap length c.as_str-then-ends_line.ensures, simp length-append at (ap length c.in-Some.ensures.steps.0), c.loop-c.invariant.count)

pub loop-c-smaller-then-ends_line : goal.loop-c-smaller-then-ends_line
loop-c-smaller-then-ends_line c =
    omega (arith, simp length-append at (ap length c.in-Some.ensures.steps.0), length-encode c.in-Some.c, len_utf8_bounds c.in-Some.c)

pub loop-c-smaller : goal.loop-c-smaller
loop-c-smaller c =
    omega (
      arith,
      ap length c.chars-rest-else-ends_line.ensures.rest,
      c.range_from.ensures.len,
      ap length c.as_str-else-ends_line-2.ensures,
      simp length-append at (ap length c.in-Some.ensures.steps.0),
      length-encode c.in-Some.c,
      len_utf8_bounds c.in-Some.c,
    )

-- a character that ends its line closes it
pub loop-c-preserved-then-ends_line : goal.loop-c-preserved-then-ends_line
loop-c-preserved-then-ends_line c =
    let ends = ap (λ bs. ends_line c.in-Some.c (chars bs)) (sym c.as_str.ensures) ∙ sym c.ends_line.ensures ∙ c.if-ends_line.true in
    rw (c.in_ok-push-2.ensures.items, c.as_str-then-ends_line.ensures) (scan_closed _ _ _ _ _ _ _ c.loop-c.invariant c.in-Some.ensures.steps.0 ends)

-- any other makes the open line longer, and so do the characters up to the next separator
pub overflow_add-at-else-ends_line : goal.overflow_add-at-else-ends_line
overflow_add-at-else-ends_line c =
    let stays = ap (λ bs. ends_line c.in-Some.c (chars bs)) (sym c.as_str.ensures) ∙ sym c.ends_line.ensures ∙ c.if-ends_line.false in
    let scanned : IsScanned c.args.text.now c.as_str-else-ends_line.result.now c.loop-c.starts.items c.loop-c.begun (c.loop-c.at + 1) =
    rw c.as_str-else-ends_line.ensures (scan_open _ _ _ _ _ _ _ c.loop-c.invariant c.in-Some.ensures.steps.0 stays) in
    let run = c.plain_run-run.ensures in
    omega (arith, (scan_jump _ _ _ _ _ _ _ scanned run.cut run.plain run.count).count)

pub loop-c-preserved : goal.loop-c-preserved
loop-c-preserved c =
    let stays = ap (λ bs. ends_line c.in-Some.c (chars bs)) (sym c.as_str.ensures) ∙ sym c.ends_line.ensures ∙ c.if-ends_line.false in
    let scanned : IsScanned c.args.text.now c.as_str-else-ends_line.result.now c.loop-c.starts.items c.loop-c.begun (c.loop-c.at + 1) =
    rw c.as_str-else-ends_line.ensures (scan_open _ _ _ _ _ _ _ c.loop-c.invariant c.in-Some.ensures.steps.0 stays) in
    let run = c.plain_run-run.ensures in
    rw (c.chars-rest-else-ends_line.ensures.rest, c.range_from.ensures.value, c.as_str-else-ends_line-2.ensures, ← c.as_str-else-ends_line.ensures)
    (scan_jump _ _ _ _ _ _ _ scanned run.cut run.plain run.count)

-- what is open at the end is the last line, unless it is empty and some line is closed
pub returns : goal.returns
returns c =
    let over = c.in_default.ensures.steps.0.0 in
    let scanned = c.loop-c.invariant in
    elim c.if-begun-at.branch [
      | then-begun-at+in_ok-push-3 w ↦
          let last : (c.loop-c.begun < c.loop-c.at) ⊎ (length c.loop-c.starts.items ≡ 1) = elim w.then-begun-at.branch [
            | then-begun-at-via-then-begun-at w' ↦ inl w'.if-begun-at.true
            | then-begun-at-via-else-begun-at+then-len-eq1 w' ↦ inr (omega (arith, w'.len.ensures, w'.if-len-eq1.true))
          ] in
          rw (w.starts-is, w.in_ok-push-3.ensures.items) (scan_last _ _ _ _ _ scanned over last)
      | else-begun-at+else-len-eq1 w ↦ rw w.starts-is
          (scan_whole _ _ _ _ _ scanned over w.if-begun-at.false (λ e. w.if-len-eq1.false (omega (arith, w.len.ensures, e))))
    ]
