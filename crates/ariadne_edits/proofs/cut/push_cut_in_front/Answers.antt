use Rattle.std.proofs.Common.{◌∙◌, ◌-◌, ◌≤◌, ◌<◌, ◌++◌, ap, arith, subst, string_bytes}
use Rattle.std.specs.Prelude.{encode_utf8_all}
use Rattle.ariadne_edits.specs.Views.{columns_in, cut_mark, last_fitting, mark_width}
use Rattle.ariadne_edits.proofs.Cuts.{cut_front_is, two_written, whole_in_front}
use Rattle.ariadne_edits.proofs.Widths.{last_fits, marked_columns}
use Rattle.ariadne_edits.proofs.cut.push_cut_in_front.Goals as goal

-- it fits
pub returns-then-columns-room-clause-bytes : goal.returns-then-columns-room-clause-bytes
returns-then-columns-room-clause-bytes c =
    let fits = subst (λ n. n ≤ c.args.room) c.in_ok-columns.ensures c.if-columns-room.true in
    rw (whole_in_front c.args.set c.args.room c.args.front.now fits) c.in_ok-push_chars.ensures

pub returns-then-columns-room-clause-columns : goal.returns-then-columns-room-clause-columns
returns-then-columns-room-clause-columns c =
    let fits = subst (λ n. n ≤ c.args.room) c.in_ok-columns.ensures c.if-columns-room.true in
    rw (whole_in_front c.args.set c.args.room c.args.front.now fits) c.in_ok-columns.ensures

-- or the mark stands in front of the last characters, and both fit
pub overflow_add-result : goal.overflow_add-result
overflow_add-result c =
    let last = c.in_ok-last.ensures ∙ ap (λ m. last_fitting (c.args.room - m) c.args.front.now) c.mark_width.ensures.width in
    let fits = last_fits (c.args.room - mark_width c.args.set) c.args.front.now in
    let columns = c.in_ok-columns_in.ensures ∙ ap columns_in last in
    let mark = c.mark_width-2.ensures.width in
    let room = c.requires in
    let most = c.ranges.room in
    omega (arith, fits, columns, mark, room, most)

pub returns-clause-bytes : goal.returns-clause-bytes
returns-clause-bytes c =
    let wide = subst (λ n. c.args.room < n) c.in_ok-columns.ensures c.if-columns-room.false in
    let last = c.in_ok-last.ensures ∙ ap (λ m. last_fitting (c.args.room - m) c.args.front.now) c.mark_width.ensures.width in
    rw (cut_front_is c.args.set c.args.room c.args.front.now wide)
    (c.in_ok-push_chars-2.ensures ∙ ap (λ x. string_bytes c.push_mark.new.out ++ encode_utf8_all x) last
    ∙ two_written (string_bytes c.args.out.now) (cut_mark c.args.set) (last_fitting (c.args.room - mark_width c.args.set) c.args.front.now) (string_bytes c.push_mark.new.out) c.in_ok-push_mark.ensures)

pub returns-clause-columns : goal.returns-clause-columns
returns-clause-columns c =
    let wide = subst (λ n. c.args.room < n) c.in_ok-columns.ensures c.if-columns-room.false in
    let last = c.in_ok-last.ensures ∙ ap (λ m. last_fitting (c.args.room - m) c.args.front.now) c.mark_width.ensures.width in
    let columns = c.in_ok-columns_in.ensures ∙ ap columns_in last in
    let both = marked_columns c.args.set c.args.room (last_fitting (c.args.room - mark_width c.args.set) c.args.front.now) in
    let mark = c.mark_width-2.ensures.width in
    rw (cut_front_is c.args.set c.args.room c.args.front.now wide) (omega (arith, columns, both, mark))

pub returns-clause-fits : goal.returns-clause-fits
returns-clause-fits c =
    let last = c.in_ok-last.ensures ∙ ap (λ m. last_fitting (c.args.room - m) c.args.front.now) c.mark_width.ensures.width in
    let fits = last_fits (c.args.room - mark_width c.args.set) c.args.front.now in
    let columns = c.in_ok-columns_in.ensures ∙ ap columns_in last in
    let mark = c.mark_width-2.ensures.width in
    let room = c.requires in
    omega (arith, fits, columns, mark, room)
