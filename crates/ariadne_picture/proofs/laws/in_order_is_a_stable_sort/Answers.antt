use Rattle.ariadne_picture.proofs.Lists.StableOrder.{in_order-permutation, in_order-sorted, in_order-stable}
use Rattle.ariadne_picture.proofs.laws.in_order_is_a_stable_sort.Goals as goal

pub returns-clause-permutation : goal.returns-clause-permutation
returns-clause-permutation g c less xs = in_order-permutation less xs

pub returns-clause-sorted : goal.returns-clause-sorted
returns-clause-sorted g c less xs o = in_order-sorted less o xs

pub returns-clause-stable : goal.returns-clause-stable
returns-clause-stable g c less xs o = in_order-stable less o xs
