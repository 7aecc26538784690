-- Permutations: what the calls that write reply and leave.
pub mod PermutationCalls
