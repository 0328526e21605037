-- The parts of a label are those of its definition: both ends have their places, and order and priority fit their type.
use Rattle.std.proofs.Common.{◌≡◌, ◌∙◌, w32, of_z, to_z, rules, ◌-◌}
use Rattle.std.proofs.Common.{arith}
use Rattle.std.proofs.Math.Facts.{to_z-of_z}
use Rattle.ariadne_base.specs.Ranges.{last_offset}
use Rattle.ariadne_report.proofs.Accepting.{info_is, is_some-copied, some_holds}
use Rattle.ariadne_report.proofs.Locating.{place_begins, place_row}
use Rattle.ariadne_report.proofs.accept.label_info.Goals as goal

-- the line found is that of the start
pub later_location-end_line-requires-clause-line : goal.later_location-end_line-requires-clause-line
later_location-end_line-requires-clause-line g c =
    place_row _ _ _ _ _ _ (some_holds _ _ _ c.unwrap-line.ensures c.get_offset_line.ensures.location)

-- the last offset is not before the start, so not before that line
pub later_location-end_line-requires-clause-behind : goal.later_location-end_line-requires-clause-behind
later_location-end_line-requires-clause-behind g c =
    let before = place_begins _ _ _ _ _ (some_holds _ _ _ c.unwrap-line.ensures c.get_offset_line.ensures.number)
    (some_holds _ _ _ c.unwrap-line.ensures c.get_offset_line.ensures.location) in
    omega (arith, c.max-last.ensures)

-- each part is that of the definition
pub returns : goal.returns
returns g c =
    let first = some_holds _ _ _ c.unwrap-line.ensures c.get_offset_line.ensures.location in
    let last = c.later_location-end_line.ensures in
    let order : to_z w32 (of_z w32 c.order.result) ≡ c.args.label.now.order = to_z-of_z {w = w32} (search rules) ∙ c.order.ensures in
    let priority : to_z w32 (of_z w32 c.priority.result) ≡ c.args.label.now.priority = to_z-of_z {w = w32} (search rules) ∙ c.priority.ensures in
    let message = c.is_some.ensures ∙ is_some-copied _ _ c.message.ensures in
    let far : c.max-last.result ≡ last_offset c.args.start c.args.end = omega (arith, c.max-last.ensures, c.saturating_sub.ensures) in
    let behind : c.saturating_sub-2.result ≡ c.attach_offset-attached.result - c.unwrap-line.result.0.offset = omega
    (arith, c.saturating_sub-2.ensures, c.offset.ensures) in
    info_is _ _ _ _ _ _ _ _ _ _ _ _ _ _ _ _ _ first far last.line last.place c.attach_offset-attached.ensures behind order priority message
