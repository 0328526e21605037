-- The characters between the offset and the known place are those that one has more before it than the other.
use Rattle.std.proofs.Common.{◌≡◌, ◌∙◌, ap, arith, length}
use Rattle.std.specs.Prelude.{slice_range}
use Rattle.std.specs.Str.{chars}
use Rattle.ariadne_report.proofs.KnownPlaces.{chars_between, chars_within}
use Rattle.ariadne_report.proofs.counting.count_from.Goals as goal

-- there are no more characters before an offset than bytes
pub overflow_add-result : goal.overflow_add-result
overflow_add-result c =
    let text = c.args.text.now in
    let count : c.count_chars.result ≡ length (chars (slice_range text c.args.known.bytes c.args.byte_offset)) =
    c.count_chars.ensures ∙ ap (λ t. length (chars t)) c.range.ensures.value in
    let more = chars_between text c.utf8.text c.args.known.bytes c.args.byte_offset c.if-known-byte_offset.true (c.requires.known.whole c.utf8.text) in
    let few = chars_within text c.utf8.text c.args.byte_offset c.requires.whole in
    let known = c.requires.known.counted in
    omega arith

-- the offset is behind the place
pub returns-then-known-byte_offset : goal.returns-then-known-byte_offset
returns-then-known-byte_offset c =
    let text = c.args.text.now in
    let count : c.count_chars.result ≡ length (chars (slice_range text c.args.known.bytes c.args.byte_offset)) =
    c.count_chars.ensures ∙ ap (λ t. length (chars t)) c.range.ensures.value in
    let more = chars_between text c.utf8.text c.args.known.bytes c.args.byte_offset c.if-known-byte_offset.true (c.requires.known.whole c.utf8.text) in
    let known = c.requires.known.counted in
    omega arith

-- it is before the place, which has those between them more
pub overflow_sub-result : goal.overflow_sub-result
overflow_sub-result c =
    let text = c.args.text.now in
    let count : c.count_chars-else-known-byte_offset.result ≡ length (chars (slice_range text c.args.byte_offset c.args.known.bytes)) =
    c.count_chars-else-known-byte_offset.ensures ∙ ap (λ t. length (chars t)) c.range-else-known-byte_offset.ensures.value in
    let more = chars_between text c.utf8.text c.args.byte_offset c.args.known.bytes (omega arith) c.requires.whole in
    let known = c.requires.known.counted in
    omega arith

pub returns-else-known-byte_offset : goal.returns-else-known-byte_offset
returns-else-known-byte_offset c =
    let text = c.args.text.now in
    let count : c.count_chars-else-known-byte_offset.result ≡ length (chars (slice_range text c.args.byte_offset c.args.known.bytes)) =
    c.count_chars-else-known-byte_offset.ensures ∙ ap (λ t. length (chars t)) c.range-else-known-byte_offset.ensures.value in
    let more = chars_between text c.utf8.text c.args.byte_offset c.args.known.bytes (omega arith) c.requires.whole in
    let known = c.requires.known.counted in
    omega arith
