use Rattle.std.proofs.Common.{◌≡◌, ◌∙◌, ◌-◌, ◌≤◌, ◌<◌, ◌++◌, ap, subst, string_bytes}
use Rattle.std.specs.Prelude.{encode_utf8_all, OnOk}
use Rattle.ariadne_edits.specs.Views.{cut_mark, first_fitting, mark_width}
use Rattle.ariadne_edits.proofs.Cuts.{cut_behind_is, two_written, whole_behind}
use Rattle.ariadne_edits.proofs.cut.push_cut_behind.Goals as goal

-- it fits
pub returns-then-branch-room : goal.returns-then-branch-room
returns-then-branch-room c =
    let fits = subst (λ n. n ≤ c.args.room) c.in_ok-columns_in.ensures c.if-branch-room.true in
    rw (whole_behind c.args.set c.args.room c.args.rest.now fits) c.push_chars.ensures

-- or the mark stands for the rest
pub returns : goal.returns
returns c =
    let rest = c.args.rest.now in
    let wide = subst (λ n. c.args.room < n) c.in_ok-columns_in.ensures c.if-branch-room.false in
    let first : c.first_fitting.result.now ≡ first_fitting (c.args.room - mark_width c.args.set) rest =
    c.first_fitting.ensures ∙ ap (λ m. first_fitting (c.args.room - m) rest) c.mark_width.ensures.width in
    let pushed = c.in_ok-push_chars.ensures ∙ ap (λ x. string_bytes c.args.out.now ++ encode_utf8_all x) first in
    rw (cut_behind_is c.args.set c.args.room rest wide)
    (subst (λ x. OnOk c.push_mark.result (string_bytes c.push_mark.new.out ≡ x))
    (two_written (string_bytes c.args.out.now) (first_fitting (c.args.room - mark_width c.args.set) rest) (cut_mark c.args.set) (string_bytes c.push_chars-2.new.out) pushed)
    c.push_mark.ensures)
