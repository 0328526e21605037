use Rattle.std.proofs.Common.{◌≡◌, lit<}
use Rattle.std.specs.Prelude.{string_bytes}
use Rattle.std.specs.Str.Iter.{split_steps}
use Rattle.std.specs.Str.Pattern.{FindsChar}
use Rattle.std.proofs.lemmas.Iterator.Splits.{YieldsList-from_str_split}
use Rattle.ariadne_show.specs.Wrapped.{behind_words, words_in, wrapped_words}
use Rattle.ariadne_show.proofs.InRows.{first_word, left_first, left_next, left_none, no_words}
use Rattle.ariadne_show.proofs.wrapping.push_words.Goals as goal

-- the first word begins a row
pub loop-word-init : goal.loop-word-init
loop-word-init c =
    let width = c.args.width in
    let rows = string_bytes c.args.rows.now in
    let more = string_bytes c.push_str.new.self in
    rw c.into_iter-word-iterator.ensures.into_iter_gives
    (left_first (split_steps FindsChar (λ a b. b ≡ a)) (λ x. x.now) (behind_words width) c.split-words.result c.next.new.self
    c.in-Some.first c.in_ok-taken.taken rows more (wrapped_words width) (words_in c.args.line.now)
    (YieldsList-from_str_split 32 c.args.line.now (lit< tt) c.split-words.ensures.text c.split-words.ensures.has_more
    c.split-words.ensures.pattern)
    c.in-Some.ensures.steps
    (λ others. first_word width c.in_ok-taken.taken rows more c.in-Some.first.now others c.in_ok-push_str.ensures.bytes
    c.in_ok-taken.ensures))

-- another stands there, or begins the next
pub loop-word-preserved : goal.loop-word-preserved
loop-word-preserved c =
    left_next (split_steps FindsChar (λ a b. b ≡ a)) (λ x. x.now) (behind_words c.args.width) c.loop-word.word-iterator
    c.next-in-loop-word.new.self c.in-Some-word.word c.loop-word.taken c.in_ok-taken-2.taken (string_bytes c.loop-word.rows)
    (string_bytes c.push_word.new.rows) _ c.loop-word.invariant c.in-Some-word.ensures.steps c.in_ok-taken-2.ensures

-- none is left
pub returns : goal.returns
returns c =
    left_none (split_steps FindsChar (λ a b. b ≡ a)) (λ x. x.now) (behind_words c.args.width) c.loop-word.word-iterator
    c.next-in-loop-word.new.self c.loop-word.taken (string_bytes c.loop-word.rows) _ c.loop-word.invariant
    c.in-None.ensures.steps (no_words c.args.width c.loop-word.taken)
