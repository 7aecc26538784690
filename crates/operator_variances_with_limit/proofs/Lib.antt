-- What the proofs of several functions share.
pub mod Reply
pub mod ExactVariances
pub mod Worked
