-- Permutations of the indices 0 to n - 1.
pub mod Permutation
pub mod Laws
