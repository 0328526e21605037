-- Facts about lists that the other proofs share.
pub mod ListFacts
pub mod Elements
pub mod Occurrences
pub mod StableOrder
pub mod Permutations
pub mod Joined
