-- A turn passes a word over, or checks its file.
use Rattle.std.proofs.Common.{◌≡◌, ◌∙◌, sym, ap, string_bytes, true, false}
use Rattle.std.specs.List.{list_any}
use Rattle.ariadne_commands.specs.Linted.{same_path}
use Rattle.ariadne_commands.proofs.Passing.{outcomes_next, paths_again, paths_next, seen_next, was_absent, was_present, words_from}
use Rattle.ariadne_commands.proofs.linting.check_files.Goals as goal
use Rattle.ariadne_commands.proofs.linting.check_files.Goals.{then-branch+in_ok-check_file+in_ok-push, else-branch}

pub loop-word-preserved : goal.loop-word-preserved
loop-word-preserved g c =
    let path = c.as_str-path.result in
    let files = c.loop-word.checked.items in
    let had = c.loop-word.invariant.seen in
    let inserted = c.in_ok-insert.ensures in
    let rest = words_from string_bytes c.args.words.now c.loop-word.word-index c.word-item.result c.loop-word-test.true c.word-item.is in
    let so_far = rw (rest, ← c.as_str-path.ensures.value) at c.loop-word.invariant.paths in
    elim c.if-branch.branch [
      | then-branch+in_ok-check_file+in_ok-push w ↦
          let unseen : list_any (λ d. same_path path d.path) files ≡ false = sym (had path) ∙ was_absent _ _ inserted.added w.if-branch.true in
          let new = w.in_ok-check_file.ensures in
          let more = w.in_ok-push.ensures.items in
          record {
            paths = rw (w.checked-is, more) (paths_next files path _ _ _ new.path unseen so_far);
            seen = λ q. rw (w.checked-is, more) (inserted.updates.0 q ∙ seen_next path files _ new.path q _ (had q));
            outcomes = rw (w.cache-is, w.checked-is, more) (outcomes_next _ _ path new.others files _ unseen c.loop-word.invariant.outcomes (rw new.path new.outcome));
          }
      | else-branch w ↦
          let again : list_any (λ d. same_path path d.path) files ≡ true = sym (had path) ∙ was_present _ _ inserted.added w.if-branch.false in
          let kept = rw w.if-branch.false at inserted.unchanged in
          record {
            paths = rw w.checked-is (paths_again files path _ _ again so_far);
            seen = λ q. rw w.checked-is (ap (list_any (same_path q)) kept ∙ had q);
            outcomes = rw (w.cache-is, w.checked-is) c.loop-word.invariant.outcomes;
          }
    ]
