-- What the proofs of several functions share.
pub mod SetLaws
pub mod ReplyLaws
