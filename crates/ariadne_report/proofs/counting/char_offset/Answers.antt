-- An offset that is a boundary lies in its line, behind as many characters as are counted from a known place.
use Rattle.std.proofs.Common.{◌-◌, true, length, refl, sym, ap, ◌∙◌, subst, arith, take, Some}
use Rattle.std.specs.Str.{chars, IsUtf8, IsCharBoundary}
use Rattle.ariadne_report.specs.Counting.{IsKnown}
use Rattle.ariadne_report.proofs.Locating.{place_row}
use Rattle.ariadne_report.proofs.CharOffsets.{column_least, cut_offset, narrow_found, narrow_found_fits}
use Rattle.ariadne_report.proofs.KnownPlaces.{line_known, offset_at}
use Rattle.ariadne_report.proofs.counting.char_offset.Goals as goal

-- what is no boundary lies inside a character, or past the text
pub returns-then-not-is_char_boundary-clause-offset : goal.returns-then-not-is_char_boundary-clause-offset
returns-then-not-is_char_boundary-clause-offset g c =
    let utf8 : IsUtf8 c.args.source.now.text = subst IsUtf8 c.text-text.ensures c.text-text.utf8 in
    let test = c.is_char_boundary.ensures.test.1 in
    let off = c.if-not-is_char_boundary.true in
    cut_offset c.args.source.now.text c.args.byte_offset utf8 (λ at. let on = test (subst (λ t. IsCharBoundary t c.args.byte_offset) (sym c.text-text.ensures) at) in cc)

-- the text of a line of the source is always found
pub returns-in_err-own-clause-offset : goal.returns-in_err-own-clause-offset
returns-in_err-own-clause-offset g c = absurd (c.in_err-own.ensures.own _ c.in_ok-line.ensures.number (place_row _ _ _ _ _ _ c.in_ok-line.ensures.location))

-- there are no more characters before an offset than bytes
pub overflow_add-result : goal.overflow_add-result
overflow_add-result g c =
    let utf8 : IsUtf8 c.args.source.now.text = subst IsUtf8 c.text-text.ensures c.text-text.utf8 in
    let at = c.in_ok-line.ensures in
    let own = c.in_ok-own.ensures.own _ at.number (place_row _ _ _ _ _ _ at.location) in
    let fits = narrow_found_fits _ c.args.byte_offset utf8 (at.found.0 (refl {a = true})) _ _ _ at.location _ own in
    omega arith

-- on a line with as many bytes as characters these count the same
pub returns-then-own-len-clause-offset : goal.returns-then-own-len-clause-offset
returns-then-own-len-clause-offset g c =
    let utf8 : IsUtf8 c.args.source.now.text = subst IsUtf8 c.text-text.ensures c.text-text.utf8 in
    let at = c.in_ok-line.ensures in
    let own = c.in_ok-own.ensures.own _ at.number (place_row _ _ _ _ _ _ at.location) in
    rw c.offset.ensures (narrow_found _ c.args.byte_offset utf8 (at.found.0 (refl {a = true})) _ _ _ at.location _ own (c.if-own-len.true ∙ c.len.ensures))

-- the line begins within the text
pub overflow_sub-start : goal.overflow_sub-start
overflow_sub-start g c =
    let utf8 : IsUtf8 c.args.source.now.text = subst IsUtf8 c.text-text.ensures c.text-text.utf8 in
    let at = c.in_ok-line.ensures in
    let own = c.in_ok-own.ensures.own _ at.number (place_row _ _ _ _ _ _ at.location) in
    column_least _ c.args.byte_offset utf8 (at.found.0 (refl {a = true})) _ _ _ at.location _ own

-- where it begins is known
pub count_to-chars-requires-clause-known : goal.count_to-chars-requires-clause-known
count_to-chars-requires-clause-known g c =
    let text = c.args.source.now.text in
    let utf8 : IsUtf8 text = subst IsUtf8 c.text-text.ensures c.text-text.utf8 in
    let at = c.in_ok-line.ensures in
    let own = c.in_ok-own.ensures.own _ at.number (place_row _ _ _ _ _ _ at.location) in
    let line = line_known text c.args.byte_offset utf8 (at.found.0 (refl {a = true})) _ _ _ at.location _ own in
    subst (λ t. IsKnown t c.nearer-nearer.result) (sym c.text-text.ensures)
    (c.nearer-nearer.ensures text c.requires
    (subst (λ n. IsKnown text (record { bytes = c.args.byte_offset - c.in_ok-line.byte_column; chars = n })) (sym c.offset-2.ensures) line))

-- near a known place the characters before the offset are counted from it
pub returns-then-abs_diff-le-NEAR-clause-offset : goal.returns-then-abs_diff-le-NEAR-clause-offset
returns-then-abs_diff-le-NEAR-clause-offset g c =
    let text = c.args.source.now.text in
    let utf8 : IsUtf8 text = subst IsUtf8 c.text-text.ensures c.text-text.utf8 in
    let whole = subst (λ t. IsCharBoundary t c.args.byte_offset) c.text-text.ensures (c.if-not-is_char_boundary.ensures.test.0 (refl {a = true})) in
    ap Some c.count_to.ensures.count ∙ (λ i. Some (length (chars (take c.args.byte_offset (c.text-text.ensures i)))))
    ∙ offset_at text utf8 c.args.byte_offset whole

-- so they are from the nearer place elsewhere
pub returns-clause-offset : goal.returns-clause-offset
returns-clause-offset g c =
    let text = c.args.source.now.text in
    let utf8 : IsUtf8 text = subst IsUtf8 c.text-text.ensures c.text-text.utf8 in
    let whole = subst (λ t. IsCharBoundary t c.args.byte_offset) c.text-text.ensures (c.if-not-is_char_boundary.ensures.test.0 (refl {a = true})) in
    ap Some c.count_to-chars.ensures.count ∙ (λ i. Some (length (chars (take c.args.byte_offset (c.text-text.ensures i)))))
    ∙ offset_at text utf8 c.args.byte_offset whole
