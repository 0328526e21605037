use Rattle.std.proofs.Common.{◌≡◌, ◌++◌}
use Rattle.std.specs.Prelude.{string_bytes}
use Rattle.std.specs.Str.Iter.{split_steps}
use Rattle.std.specs.Str.Pattern.{FindsChar}
use Rattle.ariadne_show.specs.Wrapped.{behind_words, wrapped_line}
use Rattle.ariadne_show.proofs.InRows.{AreLeft}
use Rattle.ariadne_show.proofs.wrapping.push_words.Given as goal

-- the words that are left stand behind the rows so far
abbrev pub invariant-loop-word : goal.invariant-loop-word
invariant-loop-word l =
    AreLeft (split_steps FindsChar (λ a b. b ≡ a)) (λ x. x.now) (behind_words l.width) l.word-iterator l.taken
    (string_bytes l.rows) (string_bytes l.fn.rows ++ wrapped_line l.width l.line)
