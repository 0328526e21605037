-- What ends the parser: each call within a call reads on, or is of a word further down.
use Rattle.std.proofs.Common.{◌+◌, ◌*◌, ◌-◌, ◌<◌, ◌≤◌, length}
use Rattle.ariadne_examples.proofs.arithmetic.+parse.Given as goal

abbrev pub decreases-sum : goal.decreases-sum
decreases-sum l = 3 * (length l.text.now - l.start) + 2

abbrev pub decreases-product : goal.decreases-product
decreases-product l = 3 * (length l.text.now - l.start) + 1

abbrev pub decreases-factor : goal.decreases-factor
decreases-factor l = 3 * (length l.text.now - l.at)

abbrev pub invariant-sum-terms : goal.invariant-sum-terms
invariant-sum-terms l = (l.fn.start < l.at) × (l.at ≤ length l.text)

abbrev pub decreases-sum-terms : goal.decreases-sum-terms
decreases-sum-terms l = length l.text - l.at

abbrev pub invariant-product-factors : goal.invariant-product-factors
invariant-product-factors l = (l.fn.start < l.at) × (l.at ≤ length l.text)

abbrev pub decreases-product-factors : goal.decreases-product-factors
decreases-product-factors l = length l.text - l.at
