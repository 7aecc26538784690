-- What the proofs of several functions share.
pub mod Reply
pub mod ExactCovariances
pub mod Worked
