-- the words so far are taken
use Rattle.std.proofs.Common.{◌≡◌, map, string_bytes, take}
use Rattle.ariadne_testing.proofs.words.texts.Given as goal

abbrev pub invariant-loop-word : goal.invariant-loop-word
invariant-loop-word l = map string_bytes l.texts.items ≡ map (λ word. word.now) (take l.word-index l.words)
