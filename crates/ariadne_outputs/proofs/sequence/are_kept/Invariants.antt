use Rattle.std.proofs.Common.{◌≡◌}
use Rattle.std.specs.Str.Iter.{split_steps}
use Rattle.std.specs.Str.Pattern.{FindsChar}
use Rattle.ariadne_outputs.proofs.Numbers.{AreLeft}
use Rattle.ariadne_outputs.proofs.sequence.are_kept.Given as goal

-- the parts so far are kept, and what is awaited behind the others is what is behind all
abbrev pub invariant-loop-part : goal.invariant-loop-part
invariant-loop-part l = AreLeft (split_steps FindsChar (λ a b. b ≡ a)) (λ x. x.now) l.part-iterator l.parameters l.awaited
